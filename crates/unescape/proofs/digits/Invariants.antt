-- `unescape::digits` meets its contract: the digits that are left, after those that wrote v, give the same as all; k digits write a number below 16^k.
use Prim.Native.Nat.{◌-◌, ◌<◌, ◌^◌}
use Rattle.unescape.specs.Unescape.{digits_of}
use lib.ListN.{drop}
use mathlib.Core.Path.{◌≡◌}
use Rattle.unescape.proofs.digits.Given as goal

abbrev pub invariant-loop-b : goal.invariant-loop-b
invariant-loop-b l = record { bound : l.v < 16 ^ l.b-index; rest : digits_of l.v (l.n - l.b-index) (drop l.b-index l.b-items) ≡ digits_of 0 l.n l.s }
