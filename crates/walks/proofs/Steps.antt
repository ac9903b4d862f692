-- The outlines that go by a count, one step at a time: the nesting of an expression, as many as are left.
use mathlib.Core.Path.{◌≡◌, refl}
use mathlib.Core.List.{List}
use Prim.Native.Nat.{ℕ, zero, suc, ◌+◌, ◌-◌, ◌≤◌, ◌<◌}
use native.Mathlib.Omega.{arith}
use Rattle.records.specs.Got.{Got, got, bad, after}
use Rattle.records.specs.Decode.{many, as_a}
use Rattle.records.specs.Bytes.{byte_at}
use Rattle.walks.specs.Outline.{Outline, body_outline, expression_outline, many_outline}

pub expression_none : (d : ℕ) (s : List ℕ) (at : ℕ) → d ≡ 0 → expression_outline d s at ≡ bad
unfolding expression_outline
expression_none zero s at e = refl
expression_none (suc d) s at e = absurd (omega arith)

pub expression_some : (d : ℕ) (s : List ℕ) (at : ℕ) → (d ≡ 0 → ⊥) → expression_outline d s at ≡ after (byte_at s at) (λ tag p. body_outline (expression_outline (d - 1)) tag s p)
unfolding expression_outline
expression_some zero s at z = absurd (z refl)
expression_some (suc d) s at z = let m : suc d - 1 ≡ d = omega arith in rw m refl

-- as many as are left, one at a time
pub many_none : (n : ℕ) (o : Outline) (s : List ℕ) (at : ℕ) → n ≤ 0 → many_outline n o s at ≡ got tt at
unfolding many_outline many
many_none zero o s at e = refl
many_none (suc n) o s at e = absurd (omega arith)

kept : (g : Got (Unit {0})) → as_a (λ a. a) g ≡ g
unfolding after
kept (got a e) = refl
kept bad = refl

pub many_some : (count k : ℕ) (o : Outline) (s : List ℕ) (at : ℕ) → k < count → many_outline (count - k) o s at ≡ after (o s at) (λ a e. many_outline (count - (k + 1)) o s e)
unfolding many_outline many after
many_some count k o s at z = let m : count - k ≡ suc (count - (k + 1)) = omega arith in rw m (go (o s at))
  where
    go : (g : Got (Unit {0})) → after g (λ a e. as_a (λ l. l) (many_outline (count - (k + 1)) o s e)) ≡ after g (λ a e. many_outline (count - (k + 1)) o s e)
    go (got a e) = kept _
    go bad = refl
