-- The order of byte strings is strict and total: laws of `before`.
use mathlib.Core.Path.{◌≡◌, refl, sym, ◌∙◌}
use mathlib.Core.List.{List, [], ◌∷◌}
use mathlib.Core.Bool.{Bool, true, false, ◌&&◌, ◌||◌, false≢true}
use mathlib.Core.Logic.{◌⊎◌, inl, inr}
use Prim.Native.Nat.{ℕ, ◌≤◌, ◌<◌}
use native.Mathlib.Omega.{arith}
use lib.ListN.{length}
use lib.Dec.{ltb, eqb}
use borrow.Author.Tests.{lt-ltb, le-ltb, ltb-true, ltb-false, eqb-true, eq-eqb, ne_eqb}
use Rattle.order.specs.Order.{before}

-- the empty string is before every other
pub before_empty : (n : List ℕ) → (0 < length n) → before [] n ≡ true
unfolding before
before_empty [] h = absurd (omega arith)
before_empty (x ∷ n) h = refl

-- two strings by their first bytes
module _ (x y : ℕ) (a b : List ℕ) where
  -- a lower first byte decides
  pub before_less : x < y → before (x ∷ a) (y ∷ b) ≡ true
  unfolding before
  before_less h = rw (lt-ltb x y h)

  -- and so does a higher one
  pub before_greater : y < x → before (x ∷ a) (y ∷ b) ≡ false
  unfolding before
  before_greater h =
      let k : y ≤ x = omega arith in
      rw (le-ltb x y k, ne_eqb x y (λ e. omega arith))

  -- after equal first bytes the rest decides
  pub before_equal : x ≡ y → before (x ∷ a) (y ∷ b) ≡ before a b
  unfolding before
  before_equal h =
      let k : y ≤ x = omega arith in
      rw (le-ltb x y k, eq-eqb x y h)

  -- where one string is before another, its first byte is lower, or the two are equal and its rest is before the other's
  before_heads : before (x ∷ a) (y ∷ b) ≡ true → (x < y) ⊎ ((x ≡ y) × (before a b ≡ true))
  unfolding before
  before_heads h = go (ltb x y) (eqb x y) refl refl h
    where
      go : (t u : Bool) → ltb x y ≡ t → eqb x y ≡ u → t || (u && before a b) ≡ true → (x < y) ⊎ ((x ≡ y) × (before a b ≡ true))
      go true u e f k = inl (ltb-true x y e)
      go false true e f k = inr (eqb-true x y f, k)
      go false false e f k = absurd (false≢true k)

  -- where one string is not before another, its first byte is no lower
  before_not : before (x ∷ a) (y ∷ b) ≡ false → y ≤ x
  unfolding before
  before_not h = go (ltb x y) refl h
    where
      go : (t : Bool) → ltb x y ≡ t → t || (eqb x y && before a b) ≡ false → y ≤ x
      go true e k = absurd (false≢true (sym k))
      go false e k = ltb-false x y e

-- no string is before itself
pub before_irreflexive : (a : List ℕ) → before a a ≡ false
unfolding before
before_irreflexive [] = refl
before_irreflexive (x ∷ a) = before_equal x x a a refl ∙ before_irreflexive a

-- what is before a string is before all that the string is before
pub before_trans : (a b c : List ℕ) → before a b ≡ true → before b c ≡ true → before a c ≡ true
unfolding before
before_trans [] [] c e f = absurd (false≢true e)
before_trans [] (y ∷ b) [] e f = f
before_trans [] (y ∷ b) (z ∷ c) e f = refl
before_trans (x ∷ a) [] c e f = absurd (false≢true e)
before_trans (x ∷ a) (y ∷ b) [] e f = f
before_trans (x ∷ a) (y ∷ b) (z ∷ c) e f = go (before_heads x y a b e) (before_heads y z b c f) (before_trans a b c)
  where
    go : (x < y) ⊎ ((x ≡ y) × (before a b ≡ true)) → (y < z) ⊎ ((y ≡ z) × (before b c ≡ true)) → (before a b ≡ true → before b c ≡ true → before a c ≡ true)
        → before (x ∷ a) (z ∷ c) ≡ true
    go (inl h) (inl k) r = before_less x z a c (omega arith)
    go (inl h) (inr k) r = before_less x z a c (omega (arith, k.0))
    go (inr h) (inl k) r = before_less x z a c (omega (arith, h.0))
    go (inr h) (inr k) r = before_equal x z a c (h.0 ∙ k.0) ∙ r h.1 k.1

-- of two strings one at most is before the other
pub before_asym : (a b : List ℕ) → before a b ≡ true → before b a ≡ false
unfolding before
before_asym [] [] e = refl
before_asym [] (y ∷ b) e = refl
before_asym (x ∷ a) [] e = absurd (false≢true e)
before_asym (x ∷ a) (y ∷ b) e = go (before_heads x y a b e) (before_asym a b)
  where
    go : (x < y) ⊎ ((x ≡ y) × (before a b ≡ true)) → (before a b ≡ true → before b a ≡ false) → before (y ∷ b) (x ∷ a) ≡ false
    go (inl h) r = before_greater y x b a h
    go (inr h) r = before_equal y x b a (sym h.0) ∙ r h.1

-- two strings of which neither is before the other are equal
pub before_same : (a b : List ℕ) → before a b ≡ false → before b a ≡ false → a ≡ b
unfolding before
before_same [] [] e f = refl
before_same [] (y ∷ b) e f = absurd (false≢true (sym e))
before_same (x ∷ a) [] e f = absurd (false≢true (sym f))
before_same (x ∷ a) (y ∷ b) e f =
    let h : y ≤ x = before_not x y a b e in
    let k : x ≤ y = before_not y x b a f in
    let p : x ≡ y = omega arith in
    let r : a ≡ b = before_same a b (sym (before_equal x y a b p) ∙ e) (sym (before_equal y x b a (sym p)) ∙ f) in
    cc
