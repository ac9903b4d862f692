-- What is left of the attributes ends where all of them end.
use Prim.Native.Nat.{◌-◌}
use Rattle.records.specs.Decode.{many}
use Rattle.records.specs.Relations.Answer.{next_of}
use Rattle.records.specs.Images.{attribute_at}
use mathlib.Core.List.{[], ◌∷◌}
use mathlib.Core.Path.{◌≡◌}
use Rattle.images.proofs.entry.check_attributes.Given as goal

abbrev pub invariant-loop : goal.invariant-loop
invariant-loop l = next_of (many [] ◌∷◌ (l.count - l.counter) attribute_at l.s l.at) ≡ next_of (many [] ◌∷◌ l.count attribute_at l.s l.from)
