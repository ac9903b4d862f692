-- What is left of the items ends where all of them end.
use Prim.Native.Nat.{◌-◌}
use Rattle.records.specs.Decode.{many}
use Rattle.records.specs.Relations.Answer.{next_of}
use Rattle.records.specs.Images.{item_at}
use mathlib.Core.List.{[], ◌∷◌}
use mathlib.Core.Path.{◌≡◌}
use Rattle.images.proofs.store.check_items.Given as goal

abbrev pub invariant-loop : goal.invariant-loop
invariant-loop l = next_of (many [] ◌∷◌ (l.count - l.counter) item_at l.s l.at) ≡ next_of (many [] ◌∷◌ l.count item_at l.s l.from)
