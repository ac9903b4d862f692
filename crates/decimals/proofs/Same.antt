-- Laws of equal bytes.
use mathlib.Core.Path.{◌≡◌, refl, ap}
use mathlib.Core.List.{List, [], ◌∷◌}
use mathlib.Core.Bool.{Bool, true, false, ◌&&◌}
use Prim.Native.Nat.{ℕ, suc, ◌≤◌}
use lib.ListN.{length, drop, drop_of_length-le}
use lib.Dec.{eqb}
use lib.Pointwise.{pointwise}
use borrow.Author.Tests.{eqb-true, eq-eqb}
use Rattle.decimals.specs.Bytes.{same_bytes}

pub same_end : (a b : List ℕ) (i : ℕ) → length a ≤ i → length b ≤ i → same_bytes (drop i a) (drop i b) ≡ true
unfolding same_bytes
same_end a b i h k = rw (drop_of_length-le a h, drop_of_length-le b k)

pub same_length : (a b : List ℕ) → (length a ≡ length b → ⊥) → same_bytes a b ≡ false
unfolding same_bytes
same_length [] [] f = absurd (f refl)
same_length [] (y ∷ b) f = refl
same_length (x ∷ a) [] f = refl
same_length (x ∷ a) (y ∷ b) f = rw (same_length a b (λ e. f (ap suc e))) (and_false (eqb x y))
  where
    and_false : (t : Bool) → t && false ≡ false
    and_false true = refl
    and_false false = refl

pub same_eq : (a b : List ℕ) → same_bytes a b ≡ true → a ≡ b
unfolding same_bytes
same_eq [] [] h = refl
same_eq [] (y ∷ b) h = cc
same_eq (x ∷ a) [] h = cc
same_eq (x ∷ a) (y ∷ b) h = go (eqb x y) refl (same_eq a b) h
  where
    go : (t : Bool) → eqb x y ≡ t → (same_bytes a b ≡ true → a ≡ b) → t && same_bytes a b ≡ true → x ∷ a ≡ y ∷ b
    go true e f k = let p = eqb-true x y e in let q = f k in cc
    go false e f k = cc

-- equal bytes test as equal
pub same_refl : (a : List ℕ) → same_bytes a a ≡ true
unfolding same_bytes
same_refl [] = refl
same_refl (x ∷ a) = rw (eq-eqb x x refl, same_refl a)

pub eq_same : (a b : List ℕ) → a ≡ b → same_bytes a b ≡ true
eq_same a b e = rw e (same_refl b)

-- what `==` answers of two slices
pub pointwise_same : (a b : List ℕ) → pointwise eqb a b ≡ same_bytes a b
unfolding same_bytes
pointwise_same [] [] = refl
pointwise_same [] (y ∷ b) = refl
pointwise_same (x ∷ a) [] = refl
pointwise_same (x ∷ a) (y ∷ b) = ap (λ (t : Bool). eqb x y && t) (pointwise_same a b)
