-- The tests of bytes, by those of the library.
use Rattle.std.proofs.Common.{◌≡◌, ℕ, ◌+◌, ◌<◌, ◌≤◌, Bool, true, false, ◌&&◌, eqb, leb, List, [], ◌∷◌, length, take, drop, refl, sym, ap, ◌∙◌, arith, le-leb, leb-true, leb-false}
use borrow.Author.Tests.{lt-leb}
use Rattle.std.specs.List.{list_all}
use lib.Pointwise.{pointwise}
use Rattle.decimals.specs.Bytes.{same_bytes}
use Rattle.vectors.specs.Readings.{all_are, begins_with, part_in, if_whole}

pub all_are_is : (s : List ℕ) (v : ℕ) → list_all (λ b. eqb b v) s ≡ all_are s v
unfolding all_are
all_are_is [] v = refl
all_are_is (b ∷ s) v = ap (λ (t : Bool). eqb b v && t) (all_are_is s v)

pub same_is : (a b : List ℕ) → pointwise eqb a b ≡ same_bytes a b
unfolding same_bytes
same_is [] [] = refl
same_is [] (y ∷ b) = refl
same_is (x ∷ a) [] = refl
same_is (x ∷ a) (y ∷ b) = ap (λ (t : Bool). eqb x y && t) (same_is a b)

-- the front that was asked for: a part of the bytes where they are long enough, and none where they are not
front_whole : (s : List ℕ) (n : ℕ) → n ≤ length s → part_in s 0 n ≡ take n s
unfolding part_in if_whole
front_whole s n h = let e : 0 + n ≤ length s = omega arith in rw (le-leb (0 + n) (length s) e) refl

front_short : (s : List ℕ) (n : ℕ) → length s < n → part_in s 0 n ≡ []
unfolding part_in if_whole
front_short s n h = let e : length s < 0 + n = omega arith in rw (lt-leb (0 + n) (length s) e) refl

none_same : (front : List ℕ) → 0 < length front → same_bytes [] front ≡ false
unfolding same_bytes
none_same [] h = absurd (omega (arith, h))
none_same (x ∷ front) h = refl

module _ (s front : List ℕ) where
  pub begins_some : {rest : List ℕ} {r : Bool} → length front ≤ length s → pointwise eqb (take (length front) s) front ≡ true → rest ≡ drop (length front) s → r ≡ all_are rest 170 → r ≡ begins_with s front
  unfolding begins_with
  begins_some h e d g = g ∙ ap (λ (t : List ℕ). all_are t 170) d ∙ sym (rw (front_whole s (length front) h, sym (same_is (take (length front) s) front), e))

  pub begins_none : pointwise eqb (take (length front) s) front ≡ false → false ≡ begins_with s front
  unfolding begins_with
  begins_none e = go (leb (length front) (length s)) refl
    where
      go : (t : Bool) → leb (length front) (length s) ≡ t → false ≡ begins_with s front
      go true h = sym (rw (front_whole s (length front) (leb-true (length front) (length s) h), sym (same_is (take (length front) s) front), e))
      go false h =
          let m = leb-false (length front) (length s) h in
          sym (rw (front_short s (length front) (omega (arith, m)), none_same front (omega (arith, m))))
