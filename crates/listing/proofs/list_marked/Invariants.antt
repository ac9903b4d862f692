-- `listing::list_marked` meets its contract. The loop's invariant: a list to which the records of the entries that are left are appended has those of all.
use Prim.Native.Nat.{◌-◌, ℕ}
use Rattle.listing.proofs.Records.{ListFrom}
use mathlib.Core.List.{List}
use Rattle.listing.proofs.list_marked.Given as goal

abbrev pub invariant-loop-k : goal.invariant-loop-k
invariant-loop-k l = (out : List ℕ) → ListFrom l.image l.marks (l.count - l.k) l.k l.at l.list l.to out → ListFrom l.image l.marks (l.count - 0) 0 l.initial.at l.initial.list l.initial.to out
