-- The bytes of patterns, and the trail of those that are being resolved.
use mathlib.Core.Path.{◌≡◌, refl, ap, subst, sym, ◌∙◌}
use mathlib.Core.Bool.{Bool, true, false, ◌||◌}
use mathlib.Core.List.{List, [], ◌∷◌, reverse}
use Prim.Native.Nat.{ℕ, zero, suc, ◌+◌, ◌-◌, ◌≤◌, min}
use native.Mathlib.Omega.{arith}
use lib.ListN.{length, take, drop, get_or, length-drop}
use lib.Seq.{take-suc}
use Rattle.std.proofs.lemmas.List.{take_min}
use Rattle.std.proofs.lemmas.List.Folds.{list_any-append}
use Rattle.std.proofs.lemmas.List.Sorted.{IsPermutation-reverse, list_any-IsPermutation}
use Rattle.std.specs.List.{list_any}
use Rattle.std.specs.Prelude.{Some, None}
use Rattle.decimals.specs.Bytes.{same_bytes}
use Rattle.records.specs.Got.{got}
use Rattle.records.specs.Bytes.{part, number_at}
use Rattle.records.proofs.Laws.{number_inv}
use Rattle.records.proofs.Views.{num_is, num_none}
use Rattle.reader.proofs.Laws.{size_is, size_ends, size_leaves}
use Rattle.reader.specs.Relations.Rows.{sized_at}
use Rattle.reader.specs.declared.Sized.{Sized}
use Rattle.resolution.specs.Resolve.{on_trail}
use Rattle.trail.specs.Relations.Trail.{pattern_bytes, prefixed, trail_of}

-- the bytes of the pattern at a position, by its length, and by what the code read of that
pub bytes_at_law : (s : List ℕ) (p : ℕ) {n q : ℕ} → number_at 4 s p ≡ got n q → pattern_bytes s p ≡ part s p (4 + n)
unfolding pattern_bytes prefixed
bytes_at_law s p h = rw h

module _ (s : List ℕ) (p : ℕ) {r : Sized} (sized : r ≡ sized_at s p) where
  pub pattern_none : r.size ≡ None → [] ≡ pattern_bytes s p
  unfolding pattern_bytes prefixed
  pattern_none h = rw (num_none (size_is s p sized) h)

  module _ {n q : ℕ} (h : r.size ≡ Some (n, q)) where
    -- they start and end in the slice
    pub pattern_in : (p ≤ r.at + min n r.left) × (r.at + min n r.left ≤ length s)
    pattern_in =
        let i = number_inv s 4 p (num_is (size_is s p sized) h) in
        let i0 = i.0 in let i1 = i.1 in
        let e = size_ends s p sized h in
        let l = size_leaves s p sized h in
        (omega arith, omega arith)

    pub pattern_some : part s p (r.at + min n r.left - p) ≡ pattern_bytes s p
    unfolding pattern_bytes prefixed
    pattern_some =
        let is = num_is (size_is s p sized) h in
        let i = number_inv s 4 p is in
        let i0 = i.0 in let i1 = i.1 in
        let e = size_ends s p sized h in
        let l = size_leaves s p sized h in
        let d = length-drop p s in
        let m : r.at + min n r.left - p ≡ min (4 + n) (length (drop p s)) = omega arith in
        rw (is, m) (take_min (4 + n) (drop p s))

or_swap : (t u : Bool) → (t || (u || false)) ≡ (u || t)
or_swap true true = refl
or_swap true false = refl
or_swap false true = refl
or_swap false false = refl

-- a list passes a test alike from its end
pub any_reversed : (test : ℕ → Bool) (l : List ℕ) → list_any test (reverse l) ≡ list_any test l
any_reversed test l = sym (list_any-IsPermutation test l (reverse l) (IsPermutation-reverse l))

-- the positions in a trail go from the first to the last, and its patterns from the last to the first
module _ (s a b : List ℕ) where
  pub any_on_trail : (d : ℕ) → d ≤ length a → list_any (λ p. same_bytes (pattern_bytes s p) b) (take d a) ≡ on_trail b (trail_of s a d)
  unfolding on_trail trail_of
  any_on_trail zero h = refl
  any_on_trail (suc d) h =
      let test = λ (p : ℕ). same_bytes (pattern_bytes s p) b in
      ap (list_any test) (take-suc a d 0 h)
      ∙ list_any-append test (take d a) (get_or a d 0 ∷ [])
      ∙ or_swap (list_any test (take d a)) (test (get_or a d 0))
      ∙ ap (λ (t : Bool). test (get_or a d 0) || t) (any_on_trail d (omega arith))

-- a trail holds 102 at most: where no more are asked for, all of them
pub trail_within : (s a : List ℕ) (i : ℕ) (b : List ℕ) {r : Bool} → i ≤ 102 → r ≡ on_trail b (trail_of s a (min i 102)) → r ≡ on_trail b (trail_of s a i)
trail_within s a i b {r} le h = let e : min i 102 ≡ i = omega arith in subst (λ (j : ℕ). r ≡ on_trail b (trail_of s a j)) e h
