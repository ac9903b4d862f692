-- `arguments::image::check_arguments` meets its contract: 13 where the image could not be read, and 19 where it is not in order.
use Rattle.arguments.specs.Relations.Checked.{in_order_or}
use Rattle.arguments.proofs.Judging.{Said, said_checked, said_unchecked}
use mathlib.Core.Bool.{Bool}
use mathlib.Core.Path.{subst}
use Rattle.arguments.proofs.image.check_arguments.Goals as goal

pub returns-in_err-run : goal.returns-in_err-run
returns-in_err-run c = said_unchecked _ _ _ c.check_image.ensures _ c.in_err-run.ensures.ok_part c.in_err-run.ensures.value c.from_residual.ensures.1

pub returns-then-run : goal.returns-then-run
unfolding in_order_or
returns-then-run c = subst (λ (t : Bool). Said c.args.s.now c.check_image.new.places (in_order_or t)) c.if-run.true (said_checked _ _ _ c.check_image.ensures c.in_ok-run.ensures.ok_part)

pub returns-else-run : goal.returns-else-run
unfolding in_order_or
returns-else-run c = subst (λ (t : Bool). Said c.args.s.now c.check_image.new.places (in_order_or t)) c.if-run.false (said_checked _ _ _ c.check_image.ensures c.in_ok-run.ensures.ok_part)
