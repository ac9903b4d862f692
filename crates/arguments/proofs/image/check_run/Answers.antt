-- `arguments::image::check_run` meets its contract: what is left of the run ends as the whole does.
use Rattle.arguments.proofs.Running.{run_end, run_stop, run_turn}
use Prim.Native.Nat.{◌+◌, ◌-◌}
use mathlib.Core.Path.{◌∙◌, ◌≡◌}
use native.Mathlib.Omega.{arith}
use Rattle.arguments.proofs.image.check_run.Goals as goal

pub returns-in_err-at : goal.returns-in_err-at
returns-in_err-at c = c.from_residual.ensures ∙ run_stop _ _ _ _ _ c.loop.invariant (omega arith) c.check_argument.ensures c.in_err-at.was

pub loop-preserved : goal.loop-preserved
loop-preserved c =
    let m : c.args.count - (c.loop.counter + 1) ≡ c.args.count - c.loop.counter - 1 = omega arith in
    rw m (run_turn _ _ _ _ _ c.loop.invariant (omega arith) c.check_argument.ensures c.in_ok-at.was c.still-fine.ensures)

pub returns : goal.returns
returns c = run_end _ _ _ _ _ c.loop.invariant (omega arith)
