-- `repeats::slots::Slots::seek` meets its contract. The loop's invariant: what is found in the slots that are left is what is found in all eight.
use Prim.Native.Nat.{◌+◌, ◌-◌}
use Rattle.repeats.specs.Relations.Slots.{seek_from, seek_of}
use mathlib.Core.Path.{◌≡◌}
use Rattle.repeats.proofs.slots.Slots.seek.Given as goal

abbrev pub invariant-loop-j : goal.invariant-loop-j
invariant-loop-j l = seek_from l.self.image.now l.self.places.now l.id (l.h + 8 - l.j) l.j ≡ seek_of l.self.image.now l.self.places.now l.id
