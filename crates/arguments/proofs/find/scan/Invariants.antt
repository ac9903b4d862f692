-- `arguments::find::scan` meets its contract: what is left of the arguments gives what all of them give.
use Rattle.arguments.proofs.Sought.{sought_from}
use Prim.Native.Nat.{◌-◌}
use mathlib.Core.Path.{◌≡◌}
use Rattle.arguments.proofs.find.scan.Given as goal

abbrev pub invariant-loop : goal.invariant-loop
invariant-loop l = sought_from l.s l.name (l.count - l.counter) l.at ≡ sought_from l.s l.name l.count l.from
