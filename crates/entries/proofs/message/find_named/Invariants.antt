-- The first among the attributes that are left is the first among all.
use Prim.Native.Nat.{◌-◌}
use Rattle.entries.proofs.Walk.{FirstOf}
use Rattle.entries.specs.Outline.{attribute_head, attribute_outline}
use mathlib.Core.Path.{◌≡◌}
use Rattle.entries.proofs.message.find_named.Given as goal

abbrev pub invariant-loop : goal.invariant-loop
invariant-loop l = FirstOf attribute_head attribute_outline l.s l.name l.count l.from ≡ FirstOf attribute_head attribute_outline l.s l.name (l.count - l.counter) l.at
