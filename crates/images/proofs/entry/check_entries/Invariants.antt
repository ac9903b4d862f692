-- What is left of the entries ends where all of them end.
use Prim.Native.Nat.{◌-◌}
use Rattle.records.specs.Decode.{many}
use Rattle.records.specs.Relations.Answer.{next_of}
use Rattle.records.specs.Images.{entry_at}
use mathlib.Core.List.{[], ◌∷◌}
use mathlib.Core.Path.{◌≡◌}
use Rattle.images.proofs.entry.check_entries.Given as goal

abbrev pub invariant-loop : goal.invariant-loop
invariant-loop l = next_of (many [] ◌∷◌ (l.count - l.counter) entry_at l.s l.at) ≡ next_of (many [] ◌∷◌ l.count entry_at l.s l.from)
