-- `resolver::scope::call::merge_named` meets its contract: each turn merges the first of the named arguments that are left.
use Prim.Native.Nat.{ℕ, ◌-◌}
use Rattle.decimals.specs.Relations.Shown.{shown_options}
use Rattle.records.specs.Decode.{many, named_at}
use Rattle.records.specs.Got.{got}
use Rattle.records.specs.Tree.{Named}
use Rattle.resolver.proofs.Single.Calls.{Merging}
use Rattle.resolver.specs.Relations.Meets.{NamedIn, named_texts}
use Rattle.resolver.specs.Relations.Values.{merged_all}
use mathlib.Core.List.{[], ◌∷◌}
use mathlib.Core.Path.{◌≡◌}
use Rattle.decimals.specs.Decimal.{Options}
use Rattle.resolver.proofs.scope.call.merge_named.Given as goal

abbrev pub invariant-loop : goal.invariant-loop
invariant-loop l = (x : Options) (ns : Named) (f low : ℕ) → l.initial.o ≡ shown_options x → many [] ◌∷◌ l.count named_at l.s l.initial.p ≡ got ns f → NamedIn l.work low l.initial.end ns → Merging l.s l.work low f (l.count - l.counter) l.p l.end l.o (merged_all (named_texts ns) x)
