-- `arguments::image::check_run` meets its contract: what is left of the run ends as the whole does.
use Rattle.arguments.specs.Relations.Checked.{run_from}
use Prim.Native.Nat.{◌-◌}
use mathlib.Core.Path.{◌≡◌}
use Rattle.arguments.proofs.image.check_run.Given as goal

abbrev pub invariant-loop : goal.invariant-loop
invariant-loop l = run_from (l.count - l.counter) l.s l.run.at l.run.last l.run.fine ≡ run_from l.count l.s l.fn.before.at l.fn.before.last l.fn.before.fine
