-- `arguments::image::check_image` meets its contract: the head, the arguments and nothing left over; then their order, and their places.
use Rattle.arguments.proofs.Judging.{ends_elsewhere, headless, judged_all, longer, stopped, unchecked}
use mathlib.Core.Path.{refl}
use Rattle.arguments.proofs.image.check_image.Goals as goal

pub returns-in_err-head : goal.returns-in_err-head
returns-in_err-head c = unchecked _ (headless _ c.read_head.ensures c.in_err-head.was) c.from_residual.ensures _

pub returns-in_err-run : goal.returns-in_err-run
returns-in_err-run c = unchecked _ (stopped _ c.read_head.ensures c.in_ok-head.was c.check_all_arguments.ensures.0 c.in_err-run.was) c.from_residual-in_err-run.ensures _

pub returns-in_err-e : goal.returns-in_err-e
returns-in_err-e c = unchecked _ (ends_elsewhere _ c.read_head.ensures c.in_ok-head.was c.check_all_arguments.ensures.0 c.in_ok-run.was c.ends_at.ensures c.in_err-e.was) c.from_residual-in_err-e.ensures _

pub returns-then-e-s : goal.returns-then-e-s
returns-then-e-s c = judged_all _ c.read_head.ensures c.in_ok-head.was c.check_all_arguments.ensures.0 c.in_ok-run.was c.ends_at.ensures c.in_ok-e.was c.if-e-s.true _ c.check_all_arguments.ensures.1

pub returns-else-e-s : goal.returns-else-e-s
returns-else-e-s c = unchecked _ (longer _ c.read_head.ensures c.in_ok-head.was c.check_all_arguments.ensures.0 c.in_ok-run.was c.ends_at.ensures c.in_ok-e.was c.if-e-s.false) refl _
