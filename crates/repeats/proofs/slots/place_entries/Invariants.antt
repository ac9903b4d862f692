-- `repeats::slots::place_entries` meets its contract. The loop's invariant: a table in which the entries that are left are placed has them all.
use Prim.Native.Nat.{◌-◌, ℕ}
use Rattle.repeats.proofs.Places.{PlaceFrom}
use mathlib.Core.List.{List}
use Rattle.repeats.proofs.slots.place_entries.Given as goal

abbrev pub invariant-loop : goal.invariant-loop
invariant-loop l = (out : List ℕ) → PlaceFrom l.image l.start (l.count - l.counter) l.counter l.at l.places out → PlaceFrom l.image l.start (l.count - 0) 0 l.initial.at l.initial.places out
