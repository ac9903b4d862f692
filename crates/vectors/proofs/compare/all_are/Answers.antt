-- `vectors::compare::all_are` meets its contract: what the chain of bytes answers.
use Rattle.std.proofs.Common.{rules, tests, eqb, ◌∙◌}
use Rattle.std.proofs.lemmas.Iterator.{YieldsList-from_slice}
use Rattle.std.proofs.lemmas.Iterator.Search.{all_from_yields_List}
use Rattle.vectors.proofs.Same.{all_are_is}
use Rattle.vectors.proofs.compare.all_are.Goals as goal

pub returns : goal.returns
returns c =
    let all = all_from_yields_List (λ b. eqb b c.args.value) _ _ c.all.result c.all.ensures.ran (YieldsList-from_slice c.args.s.now cc) (λ x b q k. search (rules, tests)) in
    all ∙ all_are_is c.args.s.now c.args.value
