-- Laws of hexadecimal digits and Unicode scalars.
use mathlib.Core.Path.{◌≡◌, refl}
use mathlib.Core.List.{List, [], ◌∷◌}
use mathlib.Core.Bool.{Bool, true, false, ◌||◌}
use Prim.Native.Nat.{ℕ, ◌+◌, ◌-◌, ◌/◌, ◌%◌, ◌≤◌, ◌<◌}
use native.Mathlib.Omega.{arith}
use lib.ListN.{length}
use lib.Dec.{leb, ltb}
use borrow.Author.Tests.{lt-ltb, le-ltb, le-leb, lt-leb, leb-true}
use Rattle.decimals.proofs.Tests.{and_true}
use Rattle.decimals.specs.Bytes.{choose, digit, given, within}
use Rattle.rules.specs.Rules.{hex}
use Rattle.scalars.specs.Scalars.{hex_value, enc_scalar}

pub never : {A : Type 0} {t : Bool} → t ≡ false → t ≡ true → A
never p q = let z : ◌≡◌ {A = ℕ} 0 1 = cc in absurd (omega arith)

-- the hexadecimal digits' values, from the lowest byte up
module _ (b : ℕ) where
  -- from `a` on, the digits are the bytes up to `f`
  pub hex_lower : 97 ≤ b → hex b ≡ leb b 102
  unfolding hex digit
  hex_lower h = simp (le-leb 48 b (omega arith), lt-leb b 57 (omega arith), le-leb 65 b (omega arith), lt-leb b 70 (omega arith), le-leb 97 b h)

choose_below : (m : ℕ) (t : Bool) (x y : ℕ) → (t ≡ true → x < m) → y < m → choose t x y < m
choose_below m true x y h g = h refl
choose_below m false x y h g = g

within_most : (lo hi b : ℕ) → within lo hi b ≡ true → b ≤ hi
within_most lo hi b h = leb-true b hi (and_true (leb lo b) (leb b hi) h).1

-- each value is below 16
pub value_below : (b : ℕ) → hex_value b < 16
unfolding hex_value digit
value_below b =
    choose_below 16 (within 48 57 b) (b - 48) _ (λ h. let l = within_most 48 57 b h in omega arith)
    (choose_below 16 (within 65 70 b) (b - 55) _ (λ h. let l = within_most 65 70 b h in omega arith)
    (choose_below 16 (within 97 102 b) (b - 87) 0 (λ h. let l = within_most 97 102 b h in omega arith) (omega arith)))

-- a number that is x on a range of bytes, and y where another test holds
on_range : (lo hi b : ℕ) (t : Bool) {z x y : ℕ} → (lo ≤ b → b ≤ hi → z ≡ x) → (t ≡ true → z ≡ y) → within lo hi b || t ≡ true → z ≡ choose (within lo hi b) x y
on_range lo hi b t {z} {x} {y} f g h = go (within lo hi b) refl h
  where
    go : (w : Bool) → within lo hi b ≡ w → w || t ≡ true → z ≡ choose w x y
    go true e k = let r = and_true (leb lo b) (leb b hi) e in f (leb-true lo b r.0) (leb-true b hi r.1)
    go false e k = g k

-- A number that is right on the three ranges of digits is the value of each digit.
pub digit_value : (b : ℕ) {z : ℕ} → (65 ≤ b → b ≤ 70 → z ≡ b - 55) → (97 ≤ b → b ≤ 102 → z ≡ b - 87) → (48 ≤ b → b ≤ 57 → z ≡ b - 48) → hex b ≡ true → z ≡ hex_value b
unfolding hex hex_value digit
digit_value b upper lower below = on_range 48 57 b _ below (on_range 65 70 b _ upper (λ k. on_range 97 102 b false lower (λ e. never refl e) (rw k)))

given_short : (x : Bool) (a b : List ℕ) → length a ≤ 4 → length b ≤ 4 → length (given x a b) ≤ 4
given_short true a b h g = h
given_short false a b h g = g

pub scalar_length : (v : ℕ) → length (enc_scalar v) ≤ 4
unfolding enc_scalar
scalar_length v = given_short (ltb v 0x80) _ _ (omega arith) (given_short (ltb v 0x800) _ _ (omega arith) (given_short (ltb v 0x10000) _ _ (omega arith) (omega arith)))

-- the scalars of each length
module _ (v : ℕ) where
  pub scalar_1 : v < 0x80 → enc_scalar v ≡ v ∷ []
  unfolding enc_scalar
  scalar_1 a = rw (lt-ltb _ _ a)

  pub scalar_2 : 0x80 ≤ v → v < 0x800 → enc_scalar v ≡ (192 + v / 64) ∷ (128 + v % 64) ∷ []
  unfolding enc_scalar
  scalar_2 a b = rw (le-ltb _ _ a, lt-ltb _ _ b)

  pub scalar_3 : 0x80 ≤ v → 0x800 ≤ v → v < 0x10000 → enc_scalar v ≡ (224 + v / 4096) ∷ (128 + v / 64 % 64) ∷ (128 + v % 64) ∷ []
  unfolding enc_scalar
  scalar_3 a b c = rw (le-ltb _ _ a, le-ltb _ _ b, lt-ltb _ _ c)

  pub scalar_4 : 0x80 ≤ v → 0x800 ≤ v → 0x10000 ≤ v → enc_scalar v ≡ (240 + v / 262144) ∷ (128 + v / 4096 % 64) ∷ (128 + v / 64 % 64) ∷ (128 + v % 64) ∷ []
  unfolding enc_scalar
  scalar_4 a b c = rw (le-ltb _ _ a, le-ltb _ _ b, le-ltb _ _ c)
