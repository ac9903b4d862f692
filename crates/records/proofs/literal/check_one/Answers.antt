-- The byte is 1, or it is refused.
use mathlib.Core.Path.{◌∙◌}
use Rattle.records.proofs.Laws.{fails, next_got, num_step, num_stop, passes}
use Rattle.records.specs.Images.{one_at}
use Rattle.records.proofs.literal.check_one.Goals as goal

pub returns-in_err-v : goal.returns-in_err-v
unfolding one_at
returns-in_err-v c = c.from_residual.ensures ∙ num_stop _ _ c.read_byte.ensures c.in_err-v.was

pub returns-then-v-eq1 : goal.returns-then-v-eq1
unfolding one_at
returns-then-v-eq1 c = num_step _ _ c.read_byte.ensures c.in_ok-v.was (passes _ c.if-v-eq1.true (next_got _ _))

pub returns-else-v-eq1 : goal.returns-else-v-eq1
unfolding one_at
returns-else-v-eq1 c = num_step _ _ c.read_byte.ensures c.in_ok-v.was (fails _ c.if-v-eq1.false)
