-- What an addition's answer says of the number and the count that are exported: one law for each of its two cases.
-- Assumes nothing.
use mathlib.Core.Path.{◌≡◌, sym, ap, ◌∙◌}
use mathlib.Core.List.{List}
use Prim.Native.Nat.{ℕ}
use Rattle.bundle.specs.Additions.{Added}
use Rattle.bundle.specs.Gives.{answer_of, gave}
use Rattle.std.specs.Prelude.{Result, Ok, Err}
use Rattle.refusals.specs.declared.Refusal.{Refusal}
use Rattle.refusals.specs.Numbers as refusals
use Rattle.exports.specs.Numbers.{number_of, count_of}

-- the number n, the slice s, the list l and the count k' are those of what an operation gave, over the count k
abbrev Told : ℕ → List ℕ → List ℕ → ℕ → ℕ → Added → Type 0
Told n s l k k' x = (n ≡ number_of x.answer) × (s ≡ x.slice) × (l ≡ x.list) × (k' ≡ count_of x.answer k)

-- done: the number is 0, and the count the answer's
pub done_told : {r : Result ℕ Refusal} {n : ℕ} {s l : List ℕ} {x : Added} (k : ℕ) → gave r s l ≡ x → r ≡ Ok n → Told 0 s l k n x
unfolding gave answer_of number_of count_of
done_told {s = s} {l = l} k h is =
    let e : gave (Ok _) s l ≡ _ = sym (ap (λ (r : Result ℕ Refusal). gave r s l) is) ∙ h in
    (ap (λ (a : Added). number_of a.answer) e, ap (λ (a : Added). a.slice) e, ap (λ (a : Added). a.list) e, ap (λ (a : Added). count_of a.answer k) e)

-- refused: the number is the refusal's, and the count as before
pub refused_told : {r : Result ℕ Refusal} {f : Refusal} {n : ℕ} {s l : List ℕ} {x : Added} (k : ℕ) → gave r s l ≡ x → r ≡ Err f → n ≡ refusals.number_of f → Told n s l k k x
unfolding gave answer_of number_of count_of
refused_told {s = s} {l = l} k h is en =
    let e : gave (Err _) s l ≡ _ = sym (ap (λ (r : Result ℕ Refusal). gave r s l) is) ∙ h in
    (en ∙ ap (λ (a : Added). number_of a.answer) e, ap (λ (a : Added). a.slice) e, ap (λ (a : Added). a.list) e, ap (λ (a : Added). count_of a.answer k) e)
