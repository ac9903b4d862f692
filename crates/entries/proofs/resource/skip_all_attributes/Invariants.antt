-- Past what is left of the attributes is past all of them.
use Prim.Native.Nat.{◌-◌}
use Rattle.entries.specs.Outline.{attribute_outline}
use Rattle.records.specs.Relations.Answer.{next_of}
use Rattle.walks.specs.Outline.{many_outline}
use mathlib.Core.Path.{◌≡◌}
use Rattle.entries.proofs.resource.skip_all_attributes.Given as goal

abbrev pub invariant-loop : goal.invariant-loop
invariant-loop l = next_of (many_outline (l.count - l.counter) attribute_outline l.s l.at) ≡ next_of (many_outline l.count attribute_outline l.s l.from)
