-- `resolver::scope::value::keep` meets its contract: the back moves down, and the highest use is the greater of the one before and the use now.
use Prim.Native.Nat.{ℕ}
use Rattle.state.specs.declared.Progress.{Progress}
use Rattle.state.specs.Setters.{held_s}
use Rattle.workspace.proofs.Laws.{highest_is}
use mathlib.Core.Path.{◌∙◌, ◌≡◌, ap}
use native.Mathlib.Omega.{arith}
use Rattle.resolver.proofs.scope.value.keep.Goals as goal

high-as : (s : Progress) (back : ℕ) {h m : ℕ} → h ≡ m → held_s back h s ≡ held_s back m s
high-as s back e = ap (λ (y : ℕ). held_s back y s) e

pub returns : goal.returns
returns c =
    let room = c.requires in
    c.set_held.ensures ∙ high-as c.args.st.now _ (c.highest-high.ensures ∙ highest_is _ _ _ _ (omega (arith, room.0)) (omega (arith, room.1)))
