-- `repeats::marks::mark_repeats` meets its contract. The loop's invariant: marks that are right for the entries that are left are right for all.
use Prim.Native.Nat.{◌-◌, ℕ}
use Rattle.entries.specs.Lookup.{find_in}
use Rattle.repeats.proofs.Marking.{MarkFrom}
use Rattle.repeats.specs.Relations.Slots.{Ready}
use mathlib.Core.List.{List}
use Rattle.repeats.proofs.marks.mark_repeats.Given as goal

abbrev pub invariant-loop-k : goal.invariant-loop-k
invariant-loop-k l = (out : List ℕ) → MarkFrom l.s l.slots.image.now l.start (λ st. Ready l.slots.image.now l.slots.places.now l.held (find_in st.items)) (l.count - l.k) l.k l.at l.marks out → MarkFrom l.s l.slots.image.now l.start (λ st. Ready l.slots.image.now l.slots.places.now l.held (find_in st.items)) (l.count - 0) 0 l.initial.at l.initial.marks out
