-- Document 02, Card 3: every number's text ends in a digit, and is the Rust's with a final dot removed.
use mathlib.Core.Path.{◌≡◌, refl, ap, sym, ◌∙◌}
use mathlib.Core.Bool.{Bool, true, false}
use mathlib.Core.Option.{Option, none, some}
use mathlib.Core.List.{List, [], ◌∷◌, ◌++◌, append_assoc, append-nil}
use Prim.Native.Nat.{ℕ, zero, suc, ◌+◌, ◌-◌, ◌/◌, ◌%◌, ◌^◌, ◌≤◌, ◌<◌}
use native.Mathlib.Omega.{arith}
use lib.ListN.{replicate}
use lib.Dec.{eqb, ltb}
use borrow.Author.Tests.{ltb-true, ltb-false, le-leb, eqb-true, eqb-false, ne_eqb}
use Rattle.decimals.specs.Ascii.{ascii}
use Rattle.decimals.specs.Bytes.{digit}
use Rattle.decimals.specs.Decimal.{Number, shortest, or_zero}
use Rattle.decimals.specs.Text.{digits_of, decimal, sign_text, fraction_digits, with_dot, fraction_text, decimal_text, number_text}
use Rattle.decimals.specs.FinalDot.{original_fraction, original_decimal, original_text, dot_removed, last_or, OnlyADot, NoDotWithoutDigits}
use Rattle.decimals.proofs.Writing.{decimal_small, decimal_more, dot_none, dot_some, fraction_digits_length, fraction_none, fraction_own}
use Rattle.decimals.proofs.Tests.{digit_bounds}

-- a text whose last byte is a digit, whatever stands before it
abbrev Ends : List ℕ → Type 0
Ends l = (b : ℕ) → digit (last_or b l) ≡ true

ends_append : (a l : List ℕ) → Ends l → Ends (a ++ l)
unfolding last_or
ends_append [] l h b = h b
ends_append (x ∷ a) l h b = ends_append a l h x

digit_ends : (k : ℕ) → k < 10 → Ends ((48 + k) ∷ [])
unfolding last_or digit
digit_ends k h b =
    let lo : 48 ≤ 48 + k = omega arith in
    let hi : 48 + k ≤ 57 = omega arith in
    rw (le-leb _ _ lo, le-leb _ _ hi)

digits_end : (w n : ℕ) → 0 < w → Ends (digits_of w n)
unfolding digits_of
digits_end zero n h = absurd (omega arith)
digits_end (suc w) n h = ends_append (digits_of w (n / 10)) ((48 + n % 10) ∷ []) (digit_ends (n % 10) (omega arith))

zeros_end : (k : ℕ) → 0 < k → Ends (replicate k 48)
unfolding last_or
zeros_end zero h b = absurd (omega arith)
zeros_end (suc zero) h b = digit_ends 0 (omega arith) b
zeros_end (suc (suc k)) h b = zeros_end (suc k) (omega arith) 48

decimal_ends : (n : ℕ) → Ends (decimal n)
decimal_ends n = go (ltb n 10) refl
  where
    go : (t : Bool) → ltb n 10 ≡ t → Ends (decimal n)
    go true e = rw (decimal_small n (ltb-true n 10 e)) (digit_ends n (ltb-true n 10 e))
    go false e = rw (decimal_more n (ltb-false n 10 e)) (ends_append (decimal (n / 10)) ((48 + n % 10) ∷ []) (digit_ends (n % 10) (omega arith)))

fraction_digits_end : (m d s : ℕ) → 0 < s + (m - s) → Ends (fraction_digits m d s)
unfolding fraction_digits
fraction_digits_end m d s h = go (ltb s m) refl
  where
    go : (t : Bool) → ltb s m ≡ t → Ends (digits_of s d ++ replicate (m - s) 48)
    go true e = let l : s < m = ltb-true s m e in ends_append (digits_of s d) (replicate (m - s) 48) (zeros_end (m - s) (omega arith))
    go false e =
        let l : m ≤ s = ltb-false s m e in
        let z : m - s ≡ 0 = omega arith in
        rw (z, append-nil (digits_of s d)) (digits_end s d (omega arith))

-- a fraction's text behind one that ends in a digit
fraction_ends : (a : List ℕ) (o : Option ℕ) (d s : ℕ) → Ends a → Ends (a ++ fraction_text o d s)
unfolding fraction_text
fraction_ends a o d s h = go (eqb (s + (or_zero o - s)) 0) refl
  where
    go : (t : Bool) → eqb (s + (or_zero o - s)) 0 ≡ t → Ends (a ++ fraction_text o d s)
    go true e =
        let z : s + (or_zero o - s) ≡ 0 = eqb-true _ _ e in
        rw (dot_none (fraction_digits (or_zero o) d s) (fraction_digits_length (or_zero o) d s ∙ z), append-nil a) h
    go false e =
        let z : s + (or_zero o - s) ≡ 0 → ⊥ = eqb-false _ _ e in
        let k : 0 < s + (or_zero o - s) = omega (arith, z) in
        rw (dot_some (fraction_digits (or_zero o) d s) (omega (arith, fraction_digits_length (or_zero o) d s))) (ends_append a (46 ∷ fraction_digits (or_zero o) d s) (ends_append (46 ∷ []) (fraction_digits (or_zero o) d s) (fraction_digits_end (or_zero o) d s k)))

text_ends : (n : Number) → Ends (number_text n)
unfolding number_text decimal_text
text_ends n =
    let p : ℕ = (shortest n.digits n.scale).0 in
    let s : ℕ = (shortest n.digits n.scale).1 in
    ends_append (sign_text n.negative) _ (fraction_ends (decimal (p / 10 ^ s)) n.options.minimum_fraction_digits p s (decimal_ends (p / 10 ^ s)))

-- the fraction's text is the Rust's, unless that is a dot alone
fraction_there : (d s : ℕ) → s ≡ 0 → original_fraction (some 0) d s ≡ fraction_text (some 0) d s ++ ascii "."
unfolding original_fraction fraction_text fraction_digits with_dot digits_of or_zero
fraction_there d zero e = refl
fraction_there d (suc s) e = absurd (omega arith)

fraction_elsewhere : (o : Option ℕ) (d s : ℕ) → (o ≡ some 0 → s ≡ 0 → ⊥) → fraction_text o d s ≡ original_fraction o d s
unfolding original_fraction fraction_text fraction_digits or_zero
fraction_elsewhere none d zero f = fraction_none none d zero refl (omega arith) refl
fraction_elsewhere none d (suc s) f = fraction_own none d (suc s) {k = 0} refl (omega arith) (λ e. omega arith)
fraction_elsewhere (some m) d s f = go (eqb (s + (m - s)) 0) refl
  where
    go : (t : Bool) → eqb (s + (m - s)) 0 ≡ t → fraction_text (some m) d s ≡ 46 ∷ (digits_of s d ++ replicate (m - s) 48)
    go true e =
        let z : s + (m - s) ≡ 0 = eqb-true _ _ e in
        let x : m ≡ 0 = omega arith in
        absurd (f (ap some x) (omega arith))
    go false e =
        let z : s + (m - s) ≡ 0 → ⊥ = eqb-false _ _ e in
        dot_some (digits_of s d ++ replicate (m - s) 48) (omega (arith, z, fraction_digits_length m d s))

-- a dot that is put behind a text is removed, and a text that ends in a digit has none to remove
removed_dot : (l : List ℕ) → dot_removed (l ++ (46 ∷ [])) ≡ l
unfolding dot_removed
removed_dot [] = refl
removed_dot (b ∷ []) = refl
removed_dot (b ∷ c ∷ l) = ap (λ (k : List ℕ). b ∷ k) (removed_dot (c ∷ l))

removed_none : (l : List ℕ) → Ends l → dot_removed l ≡ l
unfolding dot_removed last_or
removed_none [] h = refl
removed_none (b ∷ []) h = rw (ne_eqb b 46 (λ e. omega (arith, (digit_bounds b (h 0)).0)), dot_removed)
removed_none (b ∷ c ∷ l) h = ap (λ (k : List ℕ). b ∷ k) (removed_none (c ∷ l) h)

joined : (a b c l : List ℕ) → a ++ (b ++ (c ++ l)) ≡ (a ++ (b ++ c)) ++ l
joined a b c l = sym (append_assoc a (b ++ c) l ∙ ap (λ (k : List ℕ). a ++ k) (append_assoc b c l))

there : (n : Number) → OnlyADot n → original_text n ≡ number_text n ++ ascii "."
unfolding number_text decimal_text original_text original_decimal
there n h =
    let p : ℕ = (shortest n.digits n.scale).0 in
    let s : ℕ = (shortest n.digits n.scale).1 in
    let whole : List ℕ = decimal (p / 10 ^ s) in
    rw h.minimum (ap (λ (l : List ℕ). sign_text n.negative ++ (whole ++ l)) (fraction_there p s h.whole) ∙ joined (sign_text n.negative) whole (fraction_text (some 0) p s) (ascii "."))

elsewhere : (n : Number) → (OnlyADot n → ⊥) → number_text n ≡ original_text n
unfolding number_text decimal_text original_text original_decimal
elsewhere n f =
    let p : ℕ = (shortest n.digits n.scale).0 in
    let s : ℕ = (shortest n.digits n.scale).1 in
    ap (λ (l : List ℕ). sign_text n.negative ++ (decimal (p / 10 ^ s) ++ l)) (fraction_elsewhere n.options.minimum_fraction_digits p s (λ e z. f (record { minimum = e; whole = z })))

removed : (n : Number) → number_text n ≡ dot_removed (original_text n)
unfolding or_zero
removed n = by n.options.minimum_fraction_digits refl
  where
    scale : ℕ
    scale = (shortest n.digits n.scale).1

    same : (OnlyADot n → ⊥) → number_text n ≡ dot_removed (original_text n)
    same f = sym (ap dot_removed (sym (elsewhere n f)) ∙ removed_none (number_text n) (text_ends n))

    by : (o : Option ℕ) → n.options.minimum_fraction_digits ≡ o → number_text n ≡ dot_removed (original_text n)
    by none e = same (λ h. let x : ◌≡◌ {A = Option ℕ} none (some 0) = sym e ∙ h.minimum in let z : ◌≡◌ {A = ℕ} 0 1 = cc in omega arith)
    by (some m) e = go (eqb (m + scale) 0) refl
      where
        go : (t : Bool) → eqb (m + scale) 0 ≡ t → number_text n ≡ dot_removed (original_text n)
        go true z =
            let k : m + scale ≡ 0 = eqb-true (m + scale) 0 z in
            let x : m ≡ 0 = omega arith in
            sym (ap dot_removed (there n (record { minimum = e ∙ ap some x; whole = omega arith })) ∙ removed_dot (number_text n))
        go false z = same (λ h. let x : m ≡ 0 = ap or_zero (sym e ∙ h.minimum) in eqb-false (m + scale) 0 z (omega (arith, h.whole)))

pub no_dot_without_digits : (n : Number) → NoDotWithoutDigits n
no_dot_without_digits n = record { ends = text_ends n 0; removed = removed n; there = there n; elsewhere = elsewhere n }
