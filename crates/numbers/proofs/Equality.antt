-- Laws of equality: reflexive, symmetric, transitive, -0 equals 0, and a literal key sees of a currency only whether it is set.
use mathlib.Core.Path.{◌≡◌, refl, ap, sym, ◌∙◌}
use mathlib.Core.Bool.{Bool, true, false, ◌&&◌, ◌||◌}
use mathlib.Core.Option.{Option, none, some}
use mathlib.Core.List.{List, [], ◌∷◌}
use Prim.Native.Nat.{ℕ, ◌*◌, ◌^◌, ◌<◌}
use native.Mathlib.Omega.{arith}
use native.Mathlib.Nat.{zero-mul, mul_right_comm, eq_of_mul-eq-mul_right, one-le-pow}
use lib.Dec.{eqb}
use borrow.Author.Tests.{eqb-true, eqb-false, eq-eqb, ne_eqb}
use Rattle.decimals.specs.Decimal.{Options, Number, kind_number, style_number, display_number}
use Rattle.numbers.specs.Equal.{same_flag, same_count, same_text, same_words, same_counts, same_options, same_value, same_number}
use Rattle.decimals.specs.Relations.Shown.{shown_text, told_text, shown, told}
use Rattle.decimals.proofs.Same.{same_refl, same_eq, eq_same}
use Rattle.decimals.proofs.Tests.{and_true}
use Rattle.decimals.specs.Bytes.{same_bytes}
use Rattle.decimals.proofs.Shown.{count_there}

pub flag_refl : (t : Bool) → same_flag t t ≡ true
unfolding same_flag
flag_refl true = refl
flag_refl false = refl

count_refl : (m : Option ℕ) → same_count m m ≡ true
unfolding same_count
count_refl none = refl
count_refl (some k) = eq-eqb k k refl

text_refl : (m : Option (List ℕ)) → same_text m m ≡ true
unfolding same_text
text_refl none = refl
text_refl (some s) = same_refl s

pub options_refl : (o : Options) → same_options o o ≡ true
unfolding same_options same_words same_counts
options_refl o = simp (eq-eqb (kind_number o.kind) (kind_number o.kind) refl, eq-eqb (style_number o.style) (style_number o.style) refl, eq-eqb (display_number o.currency_display) (display_number o.currency_display) refl, text_refl, flag_refl, count_refl)

-- every number equals itself
pub same_number_refl : (n : Number) → same_number n n ≡ true
unfolding same_number same_value
same_number_refl n = simp (eq-eqb (n.digits * 10 ^ n.scale) (n.digits * 10 ^ n.scale) refl, flag_refl, options_refl) (or_true (eqb n.digits 0))
  where
    or_true : (t : Bool) → (t || true) && true ≡ true
    or_true true = refl
    or_true false = refl

-- zeros are equal whatever their signs and scales: "-0 equals 0"
pub zeros_same : (a b : Number) → a.digits ≡ 0 → b.digits ≡ 0 → same_value a b ≡ true
unfolding same_value
zeros_same a b e f = rw (e, f, zero-mul, zero-mul)

key_shown : (k m : Option (List ℕ)) → k ≡ none → same_text (told_text (shown_text k)) (told_text (shown_text m)) ≡ same_text k m
unfolding same_text told_text shown_text
key_shown k none e = rw e
key_shown k (some s) e = rw e

-- the flag is enough: a key without a currency compares with what the code shows as with the number itself
pub flag_enough : (key n : Number) → key.options.currency ≡ none → same_number (told (shown key)) (told (shown n)) ≡ same_number key n
unfolding same_number same_options same_words same_counts same_value
flag_enough key n e = simp (key_shown key.options.currency n.options.currency e, count_there)

-- equality is symmetric and transitive
eqb_sym : (m n : ℕ) → eqb m n ≡ eqb n m
eqb_sym m n = go (eqb m n) refl
  where
    go : (t : Bool) → eqb m n ≡ t → t ≡ eqb n m
    go true e = sym (eq-eqb n m (sym (eqb-true m n e)))
    go false e = sym (ne_eqb n m (λ z. eqb-false m n e (sym z)))

flag_sym : (a b : Bool) → same_flag a b ≡ same_flag b a
unfolding same_flag
flag_sym true true = refl
flag_sym true false = refl
flag_sym false true = refl
flag_sym false false = refl

count_sym : (a b : Option ℕ) → same_count a b ≡ same_count b a
unfolding same_count
count_sym none none = refl
count_sym none (some b) = refl
count_sym (some a) none = refl
count_sym (some a) (some b) = eqb_sym a b

and_same : {a b c d : Bool} → a ≡ c → b ≡ d → (a && b) ≡ (c && d)
and_same e f = rw (e, f)

bytes_sym : (a b : List ℕ) → same_bytes a b ≡ same_bytes b a
unfolding same_bytes
bytes_sym [] [] = refl
bytes_sym [] (y ∷ b) = refl
bytes_sym (x ∷ a) [] = refl
bytes_sym (x ∷ a) (y ∷ b) = and_same (eqb_sym x y) (bytes_sym a b)

text_sym : (a b : Option (List ℕ)) → same_text a b ≡ same_text b a
unfolding same_text
text_sym none none = refl
text_sym none (some b) = refl
text_sym (some a) none = refl
text_sym (some a) (some b) = bytes_sym a b

pub options_sym : (a b : Options) → same_options a b ≡ same_options b a
unfolding same_options same_words same_counts
options_sym a b =
    and_same
    (and_same (eqb_sym (kind_number a.kind) (kind_number b.kind)) (and_same (eqb_sym (style_number a.style) (style_number b.style)) (and_same (text_sym a.currency b.currency) (and_same (eqb_sym (display_number a.currency_display) (display_number b.currency_display)) (flag_sym a.use_grouping b.use_grouping)))))
    (and_same (count_sym a.minimum_integer_digits b.minimum_integer_digits) (and_same (count_sym a.minimum_fraction_digits b.minimum_fraction_digits) (and_same (count_sym a.maximum_fraction_digits b.maximum_fraction_digits) (and_same (count_sym a.minimum_significant_digits b.minimum_significant_digits) (count_sym a.maximum_significant_digits b.maximum_significant_digits)))))

-- what equal values are
value_facts : (a b : Number) → same_value a b ≡ true → (a.digits * 10 ^ b.scale ≡ b.digits * 10 ^ a.scale) × ((eqb a.digits 0 || same_flag a.negative b.negative) ≡ true)
unfolding same_value
value_facts a b h = let t = and_true _ _ h in (eqb-true _ _ t.0, t.1)

positive : (k : ℕ) → 0 < 10 ^ k
positive k = one-le-pow k 10 (omega arith)

-- a value that equals zero is zero
zero_passes : (d s e t : ℕ) → d * 10 ^ t ≡ e * 10 ^ s → d ≡ 0 → e ≡ 0
zero_passes d s e t h z = eq_of_mul-eq-mul_right (10 ^ s) (positive s) e 0 (sym h ∙ ap (λ (n : ℕ). n * 10 ^ t) z ∙ zero-mul (10 ^ t) ∙ sym (zero-mul (10 ^ s)))

signs : (a b : Number) → (eqb a.digits 0 || same_flag a.negative b.negative) ≡ true → ((a.digits ≡ 0 → ⊥) → same_flag a.negative b.negative ≡ true)
signs a b k f = rw (ne_eqb a.digits 0 f) at k

value_made : (a b : Number) → a.digits * 10 ^ b.scale ≡ b.digits * 10 ^ a.scale → ((a.digits ≡ 0 → ⊥) → same_flag a.negative b.negative ≡ true) → same_value a b ≡ true
unfolding same_value
value_made a b h f = rw (eq-eqb (a.digits * 10 ^ b.scale) (b.digits * 10 ^ a.scale) h) (go (eqb a.digits 0) refl)
  where
    go : (t : Bool) → eqb a.digits 0 ≡ t → (t || same_flag a.negative b.negative) ≡ true
    go true e = refl
    go false e = f (eqb-false a.digits 0 e)

pub value_sym : (a b : Number) → same_value a b ≡ true → same_value b a ≡ true
value_sym a b h =
    let t = value_facts a b h in
    value_made b a (sym t.0) (λ f. flag_sym b.negative a.negative ∙ signs a b t.1 (λ z. f (zero_passes a.digits a.scale b.digits b.scale t.0 z)))

cross_trans : (d s e t f u : ℕ) → d * 10 ^ t ≡ e * 10 ^ s → e * 10 ^ u ≡ f * 10 ^ t → d * 10 ^ u ≡ f * 10 ^ s
cross_trans d s e t f u h k = eq_of_mul-eq-mul_right (10 ^ t) (positive t) (d * 10 ^ u) (f * 10 ^ s) (mul_right_comm d (10 ^ u) (10 ^ t) ∙ ap (λ (n : ℕ). n * 10 ^ u) h ∙ mul_right_comm e (10 ^ s) (10 ^ u) ∙ ap (λ (n : ℕ). n * 10 ^ s) k ∙ mul_right_comm f (10 ^ t) (10 ^ s))

flag_trans : (a b c : Bool) → same_flag a b ≡ true → same_flag b c ≡ true → same_flag a c ≡ true
unfolding same_flag
flag_trans true true c h k = k
flag_trans true false c h k = cc
flag_trans false true c h k = cc
flag_trans false false c h k = k

pub value_trans : (a b c : Number) → same_value a b ≡ true → same_value b c ≡ true → same_value a c ≡ true
value_trans a b c h k =
    let t = value_facts a b h in
    let u = value_facts b c k in
    value_made a c (cross_trans a.digits a.scale b.digits b.scale c.digits c.scale t.0 u.0) (λ f. flag_trans a.negative b.negative c.negative (signs a b t.1 f) (signs b c u.1 (λ z. f (zero_passes b.digits b.scale a.digits a.scale (sym t.0) z))))

eqb_trans : (a b c : ℕ) → eqb a b ≡ true → eqb b c ≡ true → eqb a c ≡ true
eqb_trans a b c h k = eq-eqb a c (eqb-true a b h ∙ eqb-true b c k)

count_trans : (a b c : Option ℕ) → same_count a b ≡ true → same_count b c ≡ true → same_count a c ≡ true
unfolding same_count
count_trans none none c h k = k
count_trans none (some b) c h k = cc
count_trans (some a) none c h k = cc
count_trans (some a) (some b) none h k = cc
count_trans (some a) (some b) (some c) h k = eqb_trans a b c h k

text_trans : (a b c : Option (List ℕ)) → same_text a b ≡ true → same_text b c ≡ true → same_text a c ≡ true
unfolding same_text
text_trans none none c h k = k
text_trans none (some b) c h k = cc
text_trans (some a) none c h k = cc
text_trans (some a) (some b) none h k = cc
text_trans (some a) (some b) (some c) h k = eq_same a c (same_eq a b h ∙ same_eq b c k)

and_trans : {a b c d e f : Bool} → (a ≡ true → c ≡ true → e ≡ true) → (b ≡ true → d ≡ true → f ≡ true) → a && b ≡ true → c && d ≡ true → e && f ≡ true
and_trans {a} {b} {c} {d} {e} {f} p q h k =
    let x = and_true a b h in
    let y = and_true c d k in
    rw (p x.0 y.0) (q x.1 y.1)

pub options_trans : (a b c : Options) → same_options a b ≡ true → same_options b c ≡ true → same_options a c ≡ true
unfolding same_options same_words same_counts
options_trans a b c =
    and_trans
    (and_trans (eqb_trans _ (kind_number b.kind) _) (and_trans (eqb_trans _ (style_number b.style) _) (and_trans (text_trans _ b.currency _) (and_trans (eqb_trans _ (display_number b.currency_display) _) (flag_trans _ b.use_grouping _)))))
    (and_trans (count_trans _ b.minimum_integer_digits _) (and_trans (count_trans _ b.minimum_fraction_digits _) (and_trans (count_trans _ b.maximum_fraction_digits _) (and_trans (count_trans _ b.minimum_significant_digits _) (count_trans _ b.maximum_significant_digits _)))))

pub same_number_sym : (a b : Number) → same_number a b ≡ true → same_number b a ≡ true
unfolding same_number
same_number_sym a b h =
    let t = and_true _ _ h in
    rw (value_sym a b t.0) (sym (options_sym a.options b.options) ∙ t.1)

pub same_number_trans : (a b c : Number) → same_number a b ≡ true → same_number b c ≡ true → same_number a c ≡ true
unfolding same_number
same_number_trans a b c = and_trans (value_trans a b c) (options_trans a.options b.options c.options)
