-- `resolver::scope::value::find_local` meets its contract: each turn takes the first of the named arguments that are left.
use Prim.Native.Nat.{ℕ, ◌-◌}
use Rattle.records.specs.Decode.{many, named_at}
use Rattle.records.specs.Got.{got}
use Rattle.records.specs.Names.{first_named}
use Rattle.records.specs.Tree.{Named}
use Rattle.resolver.proofs.Single.Named.{Seeks}
use Rattle.resolver.specs.Relations.Meets.{NamedIn, named_texts}
use mathlib.Core.List.{List, [], ◌∷◌}
use mathlib.Core.Path.{◌≡◌}
use Rattle.resolver.proofs.scope.value.find_local.Given as goal

abbrev pub invariant-loop : goal.invariant-loop
invariant-loop l = (a w : List ℕ) (low f : ℕ) (ns : Named) → many [] ◌∷◌ l.count named_at l.s l.initial.p ≡ got ns f → NamedIn w low l.initial.end ns → Seeks l.s a w low f l.name (l.count - l.counter) l.p l.end (first_named l.name (named_texts ns))
