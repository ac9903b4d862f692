-- The decoders of expressions, one step of the nesting at a time.
use mathlib.Core.Path.{◌≡◌, refl}
use mathlib.Core.List.{List}
use Prim.Native.Nat.{ℕ, zero, suc, ◌-◌}
use native.Mathlib.Omega.{arith}
use Rattle.records.specs.Got.{bad}
use Rattle.records.specs.Decode.{expression, expr_at, inline, inline_at}

pub expression_none : (d : ℕ) (s : List ℕ) (at : ℕ) → d ≡ 0 → expression d s at ≡ bad
unfolding expression
expression_none zero s at e = refl
expression_none (suc d) s at e = absurd (omega arith)

pub expression_some : (d : ℕ) (s : List ℕ) (at : ℕ) → (d ≡ 0 → ⊥) → expression d s at ≡ expr_at (expression (d - 1)) (inline (d - 1)) s at
unfolding expression
expression_some zero s at z = absurd (z refl)
expression_some (suc d) s at z = let m : suc d - 1 ≡ d = omega arith in rw m refl

pub inline_none : (d : ℕ) (s : List ℕ) (at : ℕ) → d ≡ 0 → inline d s at ≡ bad
unfolding inline
inline_none zero s at e = refl
inline_none (suc d) s at e = absurd (omega arith)

pub inline_some : (d : ℕ) (s : List ℕ) (at : ℕ) → (d ≡ 0 → ⊥) → inline d s at ≡ inline_at (expression (d - 1)) (inline (d - 1)) s at
unfolding inline
inline_some zero s at z = absurd (z refl)
inline_some (suc d) s at z = let m : suc d - 1 ≡ d = omega arith in rw m refl
