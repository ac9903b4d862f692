-- The sign, the digits below 10^15, the scale up to 14.
use mathlib.Core.Path.{◌∙◌}
use Rattle.records.proofs.Laws.{at_most, not_at_most, next_got, next_step, next_stop, num_step, num_stop, above, not_above}
use Rattle.records.specs.Images.{argument_number_at}
use Rattle.arguments.proofs.number.check_argument_number.Goals as goal

pub returns-in_err-p : goal.returns-in_err-p
unfolding argument_number_at
returns-in_err-p c = c.from_residual.ensures ∙ next_stop _ _ c.check_flag.ensures c.in_err-p.was

pub returns-in_err-d : goal.returns-in_err-d
unfolding argument_number_at
returns-in_err-d c = c.from_residual-in_err-d.ensures ∙ next_step _ _ c.check_flag.ensures c.in_ok-p.was (λ _. num_stop _ _ c.read_u64.ensures c.in_err-d.was)

pub returns-in_err-k : goal.returns-in_err-k
unfolding argument_number_at
returns-in_err-k c = c.from_residual-in_err-k.ensures ∙ next_step _ _ c.check_flag.ensures c.in_ok-p.was (λ _. num_step _ _ c.read_u64.ensures c.in_ok-d.was (above _ c.if-d.true (num_stop _ _ c.read_byte.ensures c.in_err-k.was)))

pub returns-then-k : goal.returns-then-k
unfolding argument_number_at
returns-then-k c = next_step _ _ c.check_flag.ensures c.in_ok-p.was (λ _. num_step _ _ c.read_u64.ensures c.in_ok-d.was (above _ c.if-d.true (num_step _ _ c.read_byte.ensures c.in_ok-k.was (at_most _ c.if-k.true (next_got _ _)))))

pub returns-else-k : goal.returns-else-k
unfolding argument_number_at
returns-else-k c = next_step _ _ c.check_flag.ensures c.in_ok-p.was (λ _. num_step _ _ c.read_u64.ensures c.in_ok-d.was (above _ c.if-d.true (num_step _ _ c.read_byte.ensures c.in_ok-k.was (not_at_most _ c.if-k.false))))

pub returns-else-d : goal.returns-else-d
unfolding argument_number_at
returns-else-d c = next_step _ _ c.check_flag.ensures c.in_ok-p.was (λ _. num_step _ _ c.read_u64.ensures c.in_ok-d.was (not_above _ c.if-d.false))
