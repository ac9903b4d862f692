-- `resolver::scope::value::resolve_named` meets its contract: each turn resolves the first of the named arguments that are left.
use Prim.Native.Nat.{ℕ, ◌-◌}
use Rattle.resolver.specs.Relations.Leaves.{NamedAt}
use Rattle.state.specs.declared.Progress.{Progress}
use lib.ListN.{length}
use mathlib.Core.List.{List}
use mathlib.Core.Path.{◌≡◌}
use Rattle.resolver.proofs.scope.value.resolve_named.Given as goal

abbrev pub invariant-loop : goal.invariant-loop
invariant-loop l = (length l.work ≡ length l.initial.work) × ((w : List ℕ) (r : Progress) → NamedAt l.s l.p (l.count - l.counter) l.work l.st w r → NamedAt l.s l.initial.p l.count l.initial.work l.initial.st w r)
