-- `arguments::find::find_place` meets its contract: the lower place is the first, or is not above.
use Prim.Native.Nat.{◌-◌, ◌≤◌}
use Rattle.arguments.specs.Relations.Places.{MayBegin}
use Rattle.arguments.proofs.find.find_place.Given as goal

abbrev pub invariant-loop-low : goal.invariant-loop-low
invariant-loop-low l = (l.high ≤ 256) × MayBegin l.s l.places l.count l.name l.low

abbrev pub decreases-loop-low : goal.decreases-loop-low
decreases-loop-low l = l.high - l.low
