-- The order of byte strings is that of the library: laws of `order_of`.
use mathlib.Core.Path.{◌≡◌, refl, sym}
use mathlib.Core.List.{List, [], ◌∷◌}
use mathlib.Core.Bool.{Bool}
use Prim.Native.Nat.{ℕ, ◌<◌}
use native.Mathlib.Omega.{arith}
use borrow.Author.Tests.{lt-ltb, le-ltb, eq-eqb, ne_eqb}
use Rattle.std.proofs.lemmas.Cmp.{by_ranked, ranked, same_from_slice_cmp_tested}
use Rattle.std.proofs.lemmas.Bool.Decides.{nat_tests}
use Rattle.std.specs.Cmp.Lexicographic.{slice_cmp, slice_partial_cmp}
use Rattle.std.specs.Ordering.{nat_cmp, is_lt, is_some_and}
use Rattle.std.specs.Prelude.{Some}
use Rattle.order.specs.Order.{before}
use Rattle.order.specs.Relations.Compared.{order_if, order_of}

-- what the library answers of two byte strings
pub order_same : (a b : List ℕ) → slice_cmp nat_cmp a b ≡ order_of a b
unfolding order_of order_if before
order_same [] [] = refl
order_same [] (y ∷ b) = refl
order_same (x ∷ a) [] = refl
order_same (x ∷ a) (y ∷ b) =
    by_ranked (x < y) (x ≡ y) (y < x) (nat_cmp x y) (ranked x y (nat_cmp x y) refl)
    (λ e l. rw (e, lt-ltb x y l))
    (λ e q. rw (e, le-ltb x y (omega arith), le-ltb y x (omega arith), eq-eqb x y q, eq-eqb y x (sym q)) (order_same a b))
    (λ e l. rw (e, le-ltb x y (omega arith), ne_eqb x y (λ q. omega arith), lt-ltb y x l))

-- and of whether the first is less
pub before_same : (a b : List ℕ) (r : Bool) → r ≡ is_some_and is_lt (slice_partial_cmp (λ x y. Some (nat_cmp x y)) a b) → r ≡ before a b
unfolding before
before_same = same_from_slice_cmp_tested nat_cmp is_lt before refl (λ _ _. refl) (λ _ _. refl) (λ x y xs ys o h. grind (arith, nat_tests))
