-- What is left of the named arguments ends where all of them end.
use Rattle.records.specs.Decode.{many, named_at}
use Rattle.records.specs.Relations.Answer.{next_of}
use Prim.Native.Nat.{◌-◌}
use mathlib.Core.List.{[], ◌∷◌}
use mathlib.Core.Path.{◌≡◌}
use Rattle.records.proofs.call_arguments.check_all_named.Given as goal

abbrev pub invariant-loop : goal.invariant-loop
invariant-loop l = next_of (many [] ◌∷◌ (l.count - l.counter) named_at l.s l.at) ≡ next_of (many [] ◌∷◌ l.count named_at l.s l.from)
