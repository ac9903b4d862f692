-- `repeats::slots::slot` meets its contract. The loop's invariant: what the bytes that are left make of the number so far is what all make of 0; and it is small.
use Prim.Native.Nat.{◌<◌}
use Rattle.decimals.specs.Bytes.{run}
use Rattle.repeats.specs.Relations.Slots.{hash_step}
use lib.ListN.{drop}
use mathlib.Core.Path.{◌≡◌}
use Rattle.repeats.proofs.slots.slot.Given as goal

abbrev pub invariant-loop-b : goal.invariant-loop-b
invariant-loop-b l = (run hash_step l.h (drop l.b-index l.id) ≡ run hash_step 0 l.id) × (l.h < 4294967296)
