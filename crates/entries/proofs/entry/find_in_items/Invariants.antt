-- What the items that are left make of what was found so far is what all make of nothing.
use Prim.Native.Nat.{◌-◌}
use Rattle.entries.proofs.Held.{HeldFrom}
use mathlib.Core.Path.{◌≡◌}
use Rattle.entries.proofs.entry.find_in_items.Given as goal

abbrev pub invariant-loop : goal.invariant-loop
invariant-loop l = HeldFrom l.s l.id l.count l.from l.initial.found ≡ HeldFrom l.s l.id (l.count - l.counter) l.at l.found
