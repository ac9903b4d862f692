-- `records::check_flag` meets its contract.
use mathlib.Core.Path.{◌∙◌}
use Rattle.records.proofs.Laws.{fails, is, isnt, next_got, num_step, num_stop, passes}
use Rattle.records.specs.Decode.{flag_at}
use Rattle.records.proofs.literal.check_flag.Goals as goal

pub returns-in_err-flag : goal.returns-in_err-flag
unfolding flag_at
returns-in_err-flag c = c.from_residual.ensures ∙ num_stop _ _ c.read_byte.ensures c.in_err-flag.was

pub returns-then-flag-eq0 : goal.returns-then-flag-eq0
unfolding flag_at
returns-then-flag-eq0 c =
    num_step _ _ c.read_byte.ensures c.in_ok-flag.was (is _ _ c.if-flag-eq0.true (next_got _ _))

pub returns-then-flag-eq1 : goal.returns-then-flag-eq1
unfolding flag_at
returns-then-flag-eq1 c =
    num_step _ _ c.read_byte.ensures c.in_ok-flag.was (isnt _ _ c.if-flag-eq0.false (passes _ c.if-flag-eq1.true (next_got _ _)))

pub returns-else-flag-eq1 : goal.returns-else-flag-eq1
unfolding flag_at
returns-else-flag-eq1 c =
    num_step _ _ c.read_byte.ensures c.in_ok-flag.was (isnt _ _ c.if-flag-eq0.false (fails _ c.if-flag-eq1.false))
