-- In UTF-8 the three bytes of a mark stand exactly where its scalar does, so that both ways of counting say the same.
use mathlib.Core.Path.{◌≡◌, refl, ap, sym, subst, ◌∙◌}
use mathlib.Core.List.{List, [], ◌∷◌, ◌++◌}
use mathlib.Core.Logic.{◌↔◌}
use mathlib.Core.Bool.{Bool, true, false, ◌&&◌}
use Prim.Native.Nat.{ℕ, zero, suc, ◌+◌, ◌-◌, ◌/◌, ◌%◌, ◌≤◌, ◌<◌}
use native.Mathlib.Omega.{arith}
use lib.ListN.{length, take, length-append}
use lib.Seq.{take-nil, take-append-le, take-append-add, length-take-le}
use lib.Dec.{eqb, ltb, leb}
use borrow.Author.Tests.{ltb-true, ltb-false, leb-true, leb-false, eqb-true, eqb-false, ne_eqb}
use Rattle.rules.specs.Rules.{is_utf8}
use Rattle.records.specs.Encode.{enc_all}
use Rattle.records.specs.Valid.{All}
use Rattle.scalars.specs.Scalars.{Scalar, enc_scalar}
use Rattle.scalars.proofs.Utf8.{is, scalar_either, encode_3}
use Rattle.layout.specs.Utf8.{enc_scalars}
use Rattle.layout.proofs.Scalars.{utf8_complete, utf8_exactly}
use Rattle.resolution.specs.Effect.{Bytes}
use Rattle.resolution.specs.Resolve.{fsi, pdi}
use Rattle.nesting.specs.Marks.{begins, once, count_in, Unmarked, Paired, UnmarkedBytes, PairedBytes, UnmarkedScalars, PairedScalars}
use Rattle.nesting.proofs.Counts.{Lead, lead_take, utf8_lead, count_append, count_take, count_short}

scalars_lead : (cs : List ℕ) → All Scalar cs → Lead (enc_scalars cs)
scalars_lead cs h = utf8_lead (enc_scalars cs) (utf8_complete cs h)

true_right : (b : Bool) → (b && true) ≡ b
true_right true = refl
true_right false = refl

-- A mark by its last six bits: the bytes E2 81 80+k, and the scalar U+2040+k. U+2068 has k = 0x28, U+2069 has 0x29.
abbrev bytes : ℕ → List ℕ
bytes k = 0xe2 ∷ 0x81 ∷ (0x80 + k) ∷ []

abbrev scalar : ℕ → List ℕ
scalar k = (0x2040 + k) ∷ []

module _ (k : ℕ) (h : k < 64) where
  other : (b : ℕ) (t : Bytes) → (b ≡ 0xe2 → ⊥) → count_in (bytes k) (b ∷ t) ≡ count_in (bytes k) t
  unfolding count_in begins once
  other b t f = rw (ne_eqb 0xe2 b (λ e. f (sym e))) (omega arith)

  none_left : count_in (bytes k) [] ≡ 0
  unfolding count_in
  none_left = refl

  apart : (c : ℕ) → (c ≡ 0x2040 + k → ⊥) → once (eqb (0x2040 + k) c) ≡ 0
  unfolding once
  apart c f = rw (ne_eqb (0x2040 + k) c (λ e. f (sym e)))

  -- three bytes are the mark exactly where their scalar is it
  three : (c : ℕ) → 0x800 ≤ c → c < 0x10000 → (x y z w : Bool) → eqb 0xe2 (0xE0 + c / 4096) ≡ x → eqb 0x81 (0x80 + c / 64 % 64) ≡ y → eqb (0x80 + k) (0x80 + c % 64) ≡ z → eqb (0x2040 + k) c ≡ w
      → (x && (y && (z && true))) ≡ w
  three c l u true true true true ex ey ez ew = refl
  three c l u true true true false ex ey ez ew =
      let p : 0xe2 ≡ 0xE0 + c / 4096 = eqb-true _ _ ex in
      let q : 0x81 ≡ 0x80 + c / 64 % 64 = eqb-true _ _ ey in
      let r : 0x80 + k ≡ 0x80 + c % 64 = eqb-true _ _ ez in
      absurd (eqb-false (0x2040 + k) c ew (omega arith))
  three c l u true true false true ex ey ez ew = let p : 0x2040 + k ≡ c = eqb-true _ _ ew in absurd (eqb-false (0x80 + k) (0x80 + c % 64) ez (omega arith))
  three c l u true true false false ex ey ez ew = refl
  three c l u true false z true ex ey ez ew = let p : 0x2040 + k ≡ c = eqb-true _ _ ew in absurd (eqb-false 0x81 (0x80 + c / 64 % 64) ey (omega arith))
  three c l u true false z false ex ey ez ew = refl
  three c l u false y z true ex ey ez ew = let p : 0x2040 + k ≡ c = eqb-true _ _ ew in absurd (eqb-false 0xe2 (0xE0 + c / 4096) ex (omega arith))
  three c l u false y z false ex ey ez ew = refl

  in_three : (c : ℕ) → 0x800 ≤ c → c < 0x10000 → count_in (bytes k) ((0xE0 + c / 4096) ∷ (0x80 + c / 64 % 64) ∷ (0x80 + c % 64) ∷ []) ≡ once (eqb (0x2040 + k) c)
  unfolding count_in begins
  in_three c l u =
      let b = other (0x80 + c / 64 % 64) ((0x80 + c % 64) ∷ []) (λ e. omega arith) in
      let d = other (0x80 + c % 64) [] (λ e. omega arith) in
      let n = none_left in
      let t = ap once (three c l u (eqb 0xe2 (0xE0 + c / 4096)) (eqb 0x81 (0x80 + c / 64 % 64)) (eqb (0x80 + k) (0x80 + c % 64)) (eqb (0x2040 + k) c) refl refl refl refl) in
      omega arith

  most : (c : ℕ) → Scalar c → c < 0x110000
  most c s = scalar_either c s (λ a. omega arith) (λ a b. b)

  one_scalar : (c : ℕ) → Scalar c → count_in (bytes k) (enc_scalar c) ≡ once (eqb (0x2040 + k) c)
  unfolding enc_scalar
  one_scalar c s = go (ltb c 0x80) (ltb c 0x800) (ltb c 0x10000) refl refl refl
    where
      go : (x y z : Bool) → ltb c 0x80 ≡ x → ltb c 0x800 ≡ y → ltb c 0x10000 ≡ z → count_in (bytes k) (enc_scalar c) ≡ once (eqb (0x2040 + k) c)
      go true y z ex ey ez =
          let l : c < 0x80 = ltb-true _ _ ex in
          rw ex (other c [] (λ e. omega arith) ∙ none_left ∙ sym (apart c (λ e. omega arith)))
      go false true z ex ey ez =
          let l : c < 0x800 = ltb-true _ _ ey in
          rw (ex, ey) (other (0xC0 + c / 64) ((0x80 + c % 64) ∷ []) (λ e. omega arith) ∙ other (0x80 + c % 64) [] (λ e. omega arith) ∙ none_left ∙ sym (apart c (λ e. omega arith)))
      go false false true ex ey ez = rw (ex, ey, ez) (in_three c (ltb-false _ _ ey) (ltb-true _ _ ez))
      go false false false ex ey ez =
          let l : 0x10000 ≤ c = ltb-false _ _ ez in
          let m = most c s in
          rw (ex, ey, ez)
          (other (0xF0 + c / 262144) _ (λ e. omega arith) ∙ other (0x80 + c / 4096 % 64) _ (λ e. omega arith) ∙ other (0x80 + c / 64 % 64) _ (λ e. omega arith) ∙ other (0x80 + c % 64) [] (λ e. omega arith) ∙ none_left ∙ sym (apart c (λ e. omega arith)))

  -- a scalar at the front of a text, by bytes and by scalars
  front_bytes : (c : ℕ) → Scalar c → (t : Bytes) → Lead t → count_in (bytes k) (enc_scalar c ++ t) ≡ once (eqb (0x2040 + k) c) + count_in (bytes k) t
  front_bytes c s t l =
      count_append 0xe2 (0x81 ∷ (0x80 + k) ∷ []) ((omega arith, omega arith), ((omega arith, omega arith), tt)) (enc_scalar c) t l
      ∙ ap (λ (n : ℕ). n + count_in (bytes k) t) (one_scalar c s)

  front_scalar : (c : ℕ) (cs : List ℕ) → count_in (scalar k) (c ∷ cs) ≡ once (eqb (0x2040 + k) c) + count_in (scalar k) cs
  unfolding count_in begins
  front_scalar c cs = ap (λ (x : Bool). once x + count_in (scalar k) cs) (true_right (eqb (0x2040 + k) c))

  -- a scalar that is cut short is no mark
  cut_none : (n c : ℕ) → Scalar c → n < length (enc_scalar c) → count_in (bytes k) (take n (enc_scalar c)) ≡ 0
  cut_none n c s l =
      is c (0x2040 + k)
      (λ e.
      let three_long : length (enc_scalar c) ≡ 3 = ap (λ (d : ℕ). length (enc_scalar d)) e ∙ ap length (encode_3 2 1 k (omega arith) (omega arith) h (omega arith)) in
      let short : length (take n (enc_scalar c)) ≡ n = length-take-le n (enc_scalar c) (omega arith) in
      count_short (bytes k) (take n (enc_scalar c)) (omega arith))
      (λ f. let most-of = count_take (bytes k) n (enc_scalar c) in let all = one_scalar c s in let none = apart c f in omega arith)

-- The marks of a prefix by bytes are those of a prefix by scalars: of the scalars that stand wholly in it.
record Within (n : ℕ) (cs : List ℕ) : Type 0 where
  whole : ℕ
  counts : (k : ℕ) → k < 64 → count_in (bytes k) (take n (enc_scalars cs)) ≡ count_in (scalar k) (take whole cs)

within : (n : ℕ) (cs : List ℕ) → All Scalar cs → Within n cs
unfolding enc_scalars enc_all count_in
within n [] s = record { whole = 0; counts = λ k h. ap (count_in (bytes k)) (take-nil {A = ℕ} n) }
within n (c ∷ cs) s = go (λ j. within j cs s.1) (leb (length (enc_scalar c)) n) refl
  where
    lead : (j : ℕ) → Lead (take j (enc_scalars cs))
    lead j = lead_take j (enc_scalars cs) (scalars_lead cs s.1)

    beyond : (j : ℕ) → Within j cs → Within (length (enc_scalar c) + j) (c ∷ cs)
    beyond j w = record {
      whole = suc w.whole;
      counts = λ k h.
          ap (count_in (bytes k)) (take-append-add (enc_scalar c) (enc_scalars cs) j) ∙ front_bytes k h c s.0 (take j (enc_scalars cs)) (lead j)
          ∙ ap (λ (m : ℕ). once (eqb (0x2040 + k) c) + m) (w.counts k h) ∙ sym (front_scalar k h c (take w.whole cs));
    }

    go : ((j : ℕ) → Within j cs) → (x : Bool) → leb (length (enc_scalar c)) n ≡ x → Within n (c ∷ cs)
    go rest true e =
        let l : length (enc_scalar c) ≤ n = leb-true _ _ e in
        let q : length (enc_scalar c) + (n - length (enc_scalar c)) ≡ n = omega arith in
        subst (λ (j : ℕ). Within j (c ∷ cs)) q (beyond (n - length (enc_scalar c)) (rest (n - length (enc_scalar c))))
    go rest false e =
        let l : n < length (enc_scalar c) = leb-false _ _ e in
        record { whole = 0; counts = λ k h. ap (count_in (bytes k)) (take-append-le n (enc_scalar c) (enc_scalars cs) (omega arith)) ∙ cut_none k h n c s.0 l }

-- the marks of the whole
count_scalars : (k : ℕ) → k < 64 → (cs : List ℕ) → All Scalar cs → count_in (bytes k) (enc_scalars cs) ≡ count_in (scalar k) cs
unfolding enc_scalars enc_all count_in
count_scalars k h [] s = refl
count_scalars k h (c ∷ cs) s =
    front_bytes k h c s.0 (enc_scalars cs) (scalars_lead cs s.1) ∙ ap (λ (m : ℕ). once (eqb (0x2040 + k) c) + m) (count_scalars k h cs s.1) ∙ sym (front_scalar k h c cs)

-- and those of a prefix by scalars are those of a prefix by bytes
prefix_bytes : (n : ℕ) (cs : List ℕ) → take (length (enc_scalars (take n cs))) (enc_scalars cs) ≡ enc_scalars (take n cs)
unfolding enc_scalars enc_all
prefix_bytes zero cs = refl
prefix_bytes (suc n) [] = refl
prefix_bytes (suc n) (c ∷ cs) =
    ap (λ (m : ℕ). take m (enc_scalar c ++ enc_scalars cs)) (length-append (enc_scalar c) (enc_scalars (take n cs)))
    ∙ take-append-add (enc_scalar c) (enc_scalars cs) (length (enc_scalars (take n cs))) ∙ ap (λ (l : Bytes). enc_scalar c ++ l) (prefix_bytes n cs)

prefix_scalars : (n : ℕ) (cs : List ℕ) → All Scalar cs → All Scalar (take n cs)
prefix_scalars zero cs h = tt
prefix_scalars (suc n) [] h = tt
prefix_scalars (suc n) (c ∷ cs) h = (h.0, prefix_scalars n cs h.1)

-- the two marks
opening : (t : List ℕ) → count_in fsi t ≡ count_in (bytes 0x28) t
unfolding fsi
opening t = refl

closing : (t : List ℕ) → count_in pdi t ≡ count_in (bytes 0x29) t
unfolding pdi
closing t = refl

module _ (cs : List ℕ) (s : All Scalar cs) where
  abbrev Counted : List ℕ → List ℕ → Type 0
  Counted t u = (count_in fsi t ≡ count_in (0x2068 ∷ []) u) × (count_in pdi t ≡ count_in (0x2069 ∷ []) u)

  counted : Counted (enc_scalars cs) cs
  counted = (opening _ ∙ count_scalars 0x28 (omega arith) cs s, closing _ ∙ count_scalars 0x29 (omega arith) cs s)

  bytes_unmarked : Unmarked (0x2068 ∷ []) (0x2069 ∷ []) cs → UnmarkedBytes (enc_scalars cs)
  bytes_unmarked u = record { no_opening = counted.0 ∙ u.no_opening; no_closing = counted.1 ∙ u.no_closing }

  scalars_unmarked : UnmarkedBytes (enc_scalars cs) → Unmarked (0x2068 ∷ []) (0x2069 ∷ []) cs
  scalars_unmarked u = record { no_opening = sym counted.0 ∙ u.no_opening; no_closing = sym counted.1 ∙ u.no_closing }

  bytes_paired : Paired (0x2068 ∷ []) (0x2069 ∷ []) cs → PairedBytes (enc_scalars cs)
  bytes_paired p = record {
    prefix = λ n.
        let w : Within n cs = within n cs s in
        let o = opening (take n (enc_scalars cs)) ∙ w.counts 0x28 (omega arith) in
        let c = closing (take n (enc_scalars cs)) ∙ w.counts 0x29 (omega arith) in
        let l = p.prefix w.whole in
        omega arith;
    whole = counted.1 ∙ p.whole ∙ sym counted.0;
  }

scalars_paired : (cs : List ℕ) → All Scalar cs → PairedBytes (enc_scalars cs) → Paired (0x2068 ∷ []) (0x2069 ∷ []) cs
scalars_paired cs s p = record {
  prefix = λ n.
      let c = counted (take n cs) (prefix_scalars n cs s) in
      let o = c.0 in
      let z = c.1 in
      let l = p.prefix (length (enc_scalars (take n cs))) in
      let d = ap (count_in fsi) (prefix_bytes n cs) in
      let e = ap (count_in pdi) (prefix_bytes n cs) in
      omega arith;
  whole = sym (counted cs s).1 ∙ p.whole ∙ (counted cs s).0;
}

-- The same of a text by its bytes and by its scalars.
pub unmarked_bytes : (t : Bytes) → UnmarkedScalars t → UnmarkedBytes t
unmarked_bytes t u = subst UnmarkedBytes (sym u.are.are) (bytes_unmarked u.are.scalars u.are.valid (u.hold u.are))

pub unmarked_exactly : (t : Bytes) → is_utf8 t ≡ true → UnmarkedBytes t ↔ UnmarkedScalars t
unmarked_exactly t h = (
  λ u. record { are = (utf8_exactly t).0 h; hold = λ k. scalars_unmarked k.scalars k.valid (subst UnmarkedBytes k.are u) },
  unmarked_bytes t,
)

pub paired_exactly : (t : Bytes) → is_utf8 t ≡ true → PairedBytes t ↔ PairedScalars t
paired_exactly t h = (
  λ p. record { are = (utf8_exactly t).0 h; hold = λ k. scalars_paired k.scalars k.valid (subst PairedBytes k.are p) },
  λ p. subst PairedBytes (sym p.are.are) (bytes_paired p.are.scalars p.are.valid (p.hold p.are)),
)
