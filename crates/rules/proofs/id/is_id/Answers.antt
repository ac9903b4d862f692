-- `rules::is_id` meets its contract: a letter, and behind it bytes that stay in the state of an Id.
use Rattle.rules.proofs.Ids.{id_all, id_none, others, stays}
use Rattle.std.proofs.lemmas.Bool.Decides.{nat_tests}
use Rattle.std.specs.List.{list_all}
use Rattle.std.proofs.lemmas.Iterator.{YieldsList-from_slice}
use Rattle.std.proofs.lemmas.Iterator.Search.{all_from_yields_List}
use Rattle.std.proofs.Common.{rules, tests}
use lib.ListN.{drop}
use mathlib.Core.Path.{◌≡◌, ◌∙◌, sym}
use native.Mathlib.Omega.{arith}
use Rattle.rules.proofs.id.is_id.Goals as goal

pub returns-in-empty : goal.returns-in-empty
returns-in-empty c = sym (id_none c.args.s.now c.in-empty.len_below)

pub returns-then-is_letter : goal.returns-then-is_letter
returns-then-is_letter c =
    let all : c.all.result ≡ list_all stays (drop 1 c.args.s.now) = all_from_yields_List stays _ _ c.all.result c.all.ensures.ran (YieldsList-from_slice (drop 1 c.args.s.now) (c.iter.ensures.rest ∙ others c.args.s.now)) (λ x b q k. search (rules, tests)) in
    let id = id_all c.args.s.now c.in-len1-up.len_at_least in
    grind (arith, nat_tests)

pub returns-else-is_letter : goal.returns-else-is_letter
returns-else-is_letter c =
    let id = id_all c.args.s.now c.in-len1-up.len_at_least in
    grind (arith, nat_tests)
