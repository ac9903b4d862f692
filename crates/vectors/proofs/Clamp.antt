-- A position past the end reads as the end does; and what each reader gives of a position that was held to the end.
use Rattle.std.proofs.Common.{◌≡◌, ℕ, ◌+◌, ◌-◌, ◌*◌, ◌<◌, ◌≤◌, min, Bool, true, false, leb, List, [], length, get_or, take, sym, refl, ap, ◌∙◌, arith, drop_of_length-le, le-leb, leb-false, leb-true}
use lib.ListN.{get_or-eq_default}
use lib.Seq.{take-nil}
use Rattle.std.specs.Prelude.{Option, None, Some, ◌^◌}
use Rattle.std.specs.Borrow.{Bor}
use Rattle.std.specs.Option.{unwrap_or}
use Rattle.std.specs.Slice.{IsGetRangeResult}
use Rattle.vectors.specs.Readings.{u16_in, u32_in, u64_in, if_whole, part_in, string_in, past_string, blob_in, past_blob}

-- a function of lists and positions that has one value at the end and past it
pub clamped : {A : Type 0} (f : ℕ → A) (n k : ℕ) → (n ≤ k → f n ≡ f k) → f (min k n) ≡ f k
clamped f n k past = go (leb k n) refl
  where
    go : (t : Bool) → leb k n ≡ t → f (min k n) ≡ f k
    go true e =
        let h = leb-true k n e in
        let m : min k n ≡ k = omega (arith, h) in
        ap f m
    go false e =
        let h = leb-false k n e in
        let m : min k n ≡ n = omega (arith, h) in
        ap f m ∙ past (omega (arith, h))

whole_nil : (t : Bool) → if_whole t [] ≡ []
unfolding if_whole
whole_nil true = refl
whole_nil false = refl

module _ (s : List ℕ) where
  pub get_d_clamp : (k : ℕ) → get_or s (min k (length s)) 0 ≡ get_or s k 0
  get_d_clamp k = clamped (λ i. get_or s i 0) (length s) k (λ h. get_or-eq_default s 0 (omega arith) ∙ sym (get_or-eq_default s 0 h))

  pub part_out : (n k : ℕ) → length s ≤ k → part_in s k n ≡ []
  unfolding part_in
  part_out n k h = ap (if_whole (leb (k + n) (length s))) (ap (take n) (drop_of_length-le s h) ∙ take-nil n) ∙ whole_nil (leb (k + n) (length s))

  pub part_clamp : (n k : ℕ) → part_in s (min k (length s)) n ≡ part_in s k n
  part_clamp n k = clamped (λ i. part_in s i n) (length s) k (λ h. part_out n (length s) (omega arith) ∙ sym (part_out n k h))

  pub u16_out : (k : ℕ) → length s ≤ k → u16_in s k ≡ 0
  unfolding u16_in
  u16_out k h = rw (get_or-eq_default s 0 h, get_or-eq_default s 0 {n = k + 1} (omega (arith, h)))

  pub u16_clamp : (k : ℕ) → u16_in s (min k (length s)) ≡ u16_in s k
  u16_clamp k = clamped (λ i. u16_in s i) (length s) k (λ h. u16_out (length s) (omega arith) ∙ sym (u16_out k h))

  pub u32_out : (k : ℕ) → length s ≤ k → u32_in s k ≡ 0
  unfolding u32_in
  u32_out k h = rw (u16_out k h, u16_out (k + 2) (omega (arith, h)))

  pub u32_clamp : (k : ℕ) → u32_in s (min k (length s)) ≡ u32_in s k
  u32_clamp k = clamped (λ i. u32_in s i) (length s) k (λ h. u32_out (length s) (omega arith) ∙ sym (u32_out k h))

  -- what each reader answers, by what its callees answered
  module _ (at : ℕ) {p : ℕ} where
    pub u16_is : {w v : ℕ} → w ≡ get_or s at 0 → p ≡ min (at + 1) (length s) → v ≡ get_or s p 0 → w * 256 + v ≡ u16_in s at
    unfolding u16_in
    u16_is e1 e2 e3 = rw (e1, e3, e2, get_d_clamp (at + 1))

    pub u32_is : {w v : ℕ} → w ≡ u16_in s at → p ≡ min (at + 2) (length s) → v ≡ u16_in s p → w * 65536 + v ≡ u32_in s at
    unfolding u32_in
    u32_is e1 e2 e3 = rw (e1, e3, e2, u16_clamp (at + 2))

    pub u64_is : {w v : ℕ} → w ≡ u32_in s at → p ≡ min (at + 4) (length s) → v ≡ u32_in s p → w * 4294967296 + v ≡ u64_in s at
    unfolding u64_in
    u64_is e1 e2 e3 = rw (e1, e3, e2, u32_clamp (at + 4))

    pub string_is : {n : ℕ} {r : List ℕ} → p ≡ min (at + 2) (length s) → n ≡ u16_in s at → r ≡ part_in s p n → r ≡ string_in s at
    unfolding string_in
    string_is e1 e2 e3 = e3 ∙ rw (e2, e1, part_clamp (u16_in s at) (at + 2))

    pub blob_is : {n : ℕ} {r : List ℕ} → p ≡ min (at + 4) (length s) → n ≡ u32_in s at → r ≡ part_in s p n → r ≡ blob_in s at
    unfolding blob_in
    blob_is e1 e2 e3 = e3 ∙ rw (e2, e1, part_clamp (u32_in s at) (at + 4))

    pub past_string_is : {n r : ℕ} → p ≡ min (at + 2) (length s) → n ≡ u16_in s at → r ≡ min (p + n) (length s) → r ≡ past_string s at
    unfolding past_string
    past_string_is e1 e2 e3 = omega (arith, e1, e2, e3)

    pub past_blob_is : {n r : ℕ} → p ≡ min (at + 4) (length s) → n ≡ u32_in s at → r ≡ min (p + n) (length s) → r ≡ past_blob s at
    unfolding past_blob
    past_blob_is e1 e2 e3 = omega (arith, e1, e2, e3)

  -- a part, by what the library gives of the range, where its end stops at the highest number
  pub part_given : (at n to : ℕ) (r : Option (Bor (List ℕ))) (none x : Bor (List ℕ)) → length s < 2 ^ 63 → to ≡ min (at + n) (2 ^ 64 - 1) → IsGetRangeResult s at to r → x ≡ unwrap_or r none → none.now ≡ [] → x.now ≡ part_in s at n
  unfolding part_in if_whole
  part_given at n to None none x f e g i h = go (leb (at + n) (length s)) refl
    where
      go : (t : Bool) → leb (at + n) (length s) ≡ t → x.now ≡ part_in s at n
      go true m =
          let k = leb-true (at + n) (length s) m in
          let some = g.1 (omega (arith, k), omega (arith, k)) in
          cc
      go false m = rw (i, h, m) refl
  part_given at n to (Some p) none x f e g i h =
      let whole : at + n ≤ length s = omega (arith, g.0.1) in
      let size : to - at ≡ n = omega (arith, g.0.1) in
      rw (i, g.0.2, size, le-leb (at + n) (length s) whole) refl
