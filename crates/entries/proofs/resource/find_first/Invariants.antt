-- The first among the entries that are left is the first among all.
use Prim.Native.Nat.{◌-◌}
use Rattle.entries.proofs.Walk.{FirstOf}
use Rattle.entries.specs.Outline.{entry_head, entry_outline}
use mathlib.Core.Path.{◌≡◌}
use Rattle.entries.proofs.resource.find_first.Given as goal

abbrev pub invariant-loop : goal.invariant-loop
invariant-loop l = FirstOf entry_head entry_outline l.s l.id l.count l.from ≡ FirstOf entry_head entry_outline l.s l.id (l.count - l.counter) l.at
