-- What the fields of the answers are, for their callers. Of a row: what the first read gives, and, from past an answer that is known, what the second and
-- the third give. Of a size: what the u32 is, and, where it is known, where it ends and what is left there.
use Rattle.records.specs.Relations.Answer.{Num}
use Rattle.std.specs.Prelude.{Some}
use mathlib.Core.Path.{◌≡◌, ap, sym, ◌∙◌}
use Prim.Native.Nat.{ℕ, ◌-◌}
use mathlib.Core.List.{List}
use lib.ListN.{length}
use Rattle.records.specs.Got.{Parser}
use Rattle.records.specs.Relations.Answer.{num_of}
use Rattle.records.specs.Bytes.{number_at}
use Rattle.reader.specs.Relations.Rows.{end_of, row_at, sized_at}
use Rattle.reader.specs.declared.Row.{Row}
use Rattle.reader.specs.declared.Sized.{Sized}

module _ (a b c : Parser ℕ) (s : List ℕ) (at : ℕ) {r : Row} (row : r ≡ row_at a b c s at) where
  pub first_is : r.first ≡ num_of (a s at)
  first_is = ap (λ (x : Row). x.first) row

  pub second_is : {n p : ℕ} → r.first ≡ Some (n, p) → r.second ≡ num_of (b s p)
  second_is e = ap (λ (x : Row). x.second) row ∙ ap (λ (m : Num). num_of (b s (end_of m at))) (sym first_is ∙ e)

  pub third_is : {n p k q : ℕ} → r.first ≡ Some (n, p) → r.second ≡ Some (k, q) → r.third ≡ num_of (c s q)
  third_is e f = ap (λ (x : Row). x.third) row ∙ ap (λ (m : Num). num_of (c s (end_of m (end_of (num_of (a s at)) at)))) (sym (ap (λ (x : Row). x.second) row) ∙ f)

module _ (s : List ℕ) (at : ℕ) {r : Sized} (sized : r ≡ sized_at s at) where
  pub size_is : r.size ≡ num_of (number_at 4 s at)
  size_is = ap (λ (x : Sized). x.size) sized

  pub size_ends : {n p : ℕ} → r.size ≡ Some (n, p) → r.at ≡ p
  size_ends e = ap (λ (x : Sized). x.at) sized ∙ ap (λ (m : Num). end_of m at) (sym size_is ∙ e)

  pub size_leaves : {n p : ℕ} → r.size ≡ Some (n, p) → r.left ≡ length s - p
  size_leaves e = ap (λ (x : Sized). x.left) sized ∙ ap (λ (m : Num). length s - end_of m at) (sym size_is ∙ e)
