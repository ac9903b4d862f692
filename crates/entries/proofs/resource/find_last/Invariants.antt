-- What the entries that are left make of the last one so far is what all make of none.
use Prim.Native.Nat.{◌-◌}
use Rattle.entries.proofs.Walk.{LastOf}
use Rattle.entries.specs.Outline.{entry_head, entry_outline}
use Rattle.entries.specs.Relations.Meets.{held_by}
use mathlib.Core.Path.{◌≡◌}
use Rattle.entries.proofs.resource.find_last.Given as goal

abbrev pub invariant-loop : goal.invariant-loop
invariant-loop l = LastOf entry_head entry_outline l.s l.id l.count l.from (held_by l.initial.last) ≡ LastOf entry_head entry_outline l.s l.id (l.count - l.counter) l.at (held_by l.last)
