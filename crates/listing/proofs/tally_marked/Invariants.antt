-- `listing::tally_marked` meets its contract. The loop's invariant: the tally so far, with the records of the entries that are left, is that of all; and it is small.
use Prim.Native.Nat.{◌*◌, ◌-◌, ◌≤◌}
use Rattle.listing.proofs.Tallying.{TallyFrom}
use Rattle.listing.specs.declared.Tally.{Tally}
use Rattle.listing.proofs.tally_marked.Given as goal

abbrev pub invariant-loop-k : goal.invariant-loop-k
invariant-loop-k l = ((r : Tally) → TallyFrom l.image l.marks (l.count - l.k) l.k l.at l.tally r → TallyFrom l.image l.marks (l.count - 0) 0 l.initial.at l.initial.tally r) × (l.tally.count ≤ l.k) × (l.tally.size ≤ l.k * 65541) × (l.k ≤ l.count)
