-- `repeats::slots::Slots::note_entries` meets its contract. The loop's invariant: what is noted of the entries that are left is noted of all.
use Prim.Native.Nat.{◌-◌, ℕ}
use Rattle.repeats.specs.Relations.Slots.{NotesEntries}
use mathlib.Core.List.{List}
use Rattle.repeats.proofs.slots.Slots.note_entries.Given as goal

abbrev pub invariant-loop : goal.invariant-loop
invariant-loop l = (out : List ℕ) → NotesEntries l.s l.self.image.now l.self.places.now (l.count - l.counter) l.at l.held out → NotesEntries l.s l.self.image.now l.self.places.now l.count l.initial.at l.initial.held out
