-- What is left of the requests ends where all of them end.
use Prim.Native.Nat.{◌-◌}
use Rattle.records.specs.Decode.{many}
use Rattle.records.specs.Relations.Answer.{next_of}
use Rattle.requests.specs.Image.{request_at}
use mathlib.Core.List.{[], ◌∷◌}
use mathlib.Core.Path.{◌≡◌}
use Rattle.requests.proofs.image.check_requests.Given as goal

abbrev pub invariant-loop : goal.invariant-loop
invariant-loop l = next_of (many [] ◌∷◌ (l.count - l.counter) request_at l.s l.at) ≡ next_of (many [] ◌∷◌ l.count request_at l.s l.from)
