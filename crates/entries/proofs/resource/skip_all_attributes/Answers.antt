-- Past what is left of the attributes is past all of them.
use Rattle.entries.specs.Outline.{attribute_outline}
use Rattle.walks.specs.Outline.{many_outline}
use mathlib.Core.Path.{◌∙◌, refl}
use Rattle.records.proofs.Laws.{turn_end, turn_next, turn_stop}
use Rattle.entries.proofs.Walk.{attribute_stop, attribute_step}
use Rattle.entries.proofs.resource.skip_all_attributes.Goals as goal

pub returns-in_err-p : goal.returns-in_err-p
unfolding many_outline
returns-in_err-p c = c.from_residual.ensures ∙ turn_stop tt (λ a l. l) attribute_outline c.args.s.now c.args.count c.loop.counter c.loop.at c.loop.invariant c.loop-test.true (attribute_stop _ _ c.skip_str.ensures c.in_err-p.was) refl

pub returns-in_err-at : goal.returns-in_err-at
unfolding many_outline
returns-in_err-at c = c.from_residual-in_err-at.ensures ∙ turn_stop tt (λ a l. l) attribute_outline c.args.s.now c.args.count c.loop.counter c.loop.at c.loop.invariant c.loop-test.true (attribute_step _ _ c.skip_str.ensures c.in_ok-p.was c.skip_pattern.ensures) c.in_err-at.was

pub loop-preserved : goal.loop-preserved
unfolding many_outline
loop-preserved c = turn_next tt (λ a l. l) attribute_outline c.args.s.now c.args.count c.loop.counter c.loop.at c.loop.invariant c.loop-test.true (attribute_step _ _ c.skip_str.ensures c.in_ok-p.was c.skip_pattern.ensures) c.in_ok-at.was

pub returns : goal.returns
unfolding many_outline
returns c = turn_end tt (λ a l. l) attribute_outline c.args.s.now c.args.count c.loop.counter c.loop.at c.loop.invariant c.loop-test.false
