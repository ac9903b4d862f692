-- Laws of number text: its lengths, and how the code adds to it.
use mathlib.Core.Path.{◌≡◌, refl, ap, sym, ◌∙◌}
use mathlib.Core.Bool.{Bool, true, false}
use mathlib.Core.Option.{Option}
use mathlib.Core.List.{List, [], ◌∷◌, ◌++◌, append_assoc, append-nil}
use Prim.Native.Nat.{ℕ, zero, suc, ◌+◌, ◌-◌, ◌*◌, ◌/◌, ◌%◌, ◌^◌, ◌≤◌, ◌<◌}
use native.Mathlib.Omega.{arith}
use native.Mathlib.Nat.{pow-succ', div-le_self}
use lib.ListN.{length, take, drop, replicate, length-append, length-replicate, take-append-drop}
use lib.Seq.{drop-drop, take-append_seam}
use lib.Dec.{ltb}
use borrow.Author.Tests.{ltb-true, ltb-false, leb-true, lt-ltb, le-ltb}
use Rattle.decimals.specs.declared.types.NumberText.{NumberText}
use Rattle.decimals.specs.Decimal.{Number, shortest, or_zero, digits_limit}
use Rattle.decimals.specs.Text.{digits_of, width, decimal, sign_text, fraction_digits, with_dot, fraction_text, decimal_text, number_text, text_limit, in_range, ranged_text, padded}
use Rattle.decimals.specs.Relations.Shown.{text_of, held_text}
use Rattle.decimals.specs.Relations.Adds.{Adds}
use Rattle.decimals.proofs.Shortest.{shortest_le}
use Rattle.decimals.proofs.Tests.{and_true}

pub digits_length : (w n : ℕ) → length (digits_of w n) ≡ w
unfolding digits_of
digits_length zero n = refl
digits_length (suc w) n = length-append (digits_of w (n / 10)) _ ∙ omega (arith, digits_length w (n / 10))

-- more fuel gives the same width
width_fuel : (f g n : ℕ) → n ≤ f → n ≤ g → width f n ≡ width g n
unfolding width
width_fuel zero zero n h k = refl
width_fuel zero (suc g) n h k = let e : n < 10 = omega arith in rw (lt-ltb n 10 e, width)
width_fuel (suc f) zero n h k = let e : n < 10 = omega arith in rw (lt-ltb n 10 e, width)
width_fuel (suc f) (suc g) n h k = go (ltb n 10) refl (width_fuel f g (n / 10))
  where
    go : (t : Bool) → ltb n 10 ≡ t → (n / 10 ≤ f → n / 10 ≤ g → width f (n / 10) ≡ width g (n / 10)) → width (suc f) n ≡ width (suc g) n
    go true e i = rw (e, width)
    go false e i =
        let a : 10 ≤ n = ltb-false n 10 e in
        let b : n / 10 ≤ f = omega arith in
        let d : n / 10 ≤ g = omega arith in
        rw (e, width) (ap suc (i b d))

width_small : (f n : ℕ) → n < 10 → width f n ≡ 1
unfolding width
width_small zero n h = refl
width_small (suc f) n h = rw (lt-ltb n 10 h, width)

width_more : (n : ℕ) → 10 ≤ n → width n n ≡ suc (width (n / 10) (n / 10))
unfolding width
width_more zero h = absurd (omega arith)
width_more (suc m) h =
    let a : suc m / 10 ≤ m = omega arith in
    let b : suc m / 10 ≤ suc m / 10 = omega arith in
    rw (le-ltb (suc m) 10 h, width) (ap suc (width_fuel m (suc m / 10) (suc m / 10) a b))

width_bound : (f n k : ℕ) → n < 10 ^ suc k → width f n ≤ suc k
unfolding width
width_bound zero n k h = omega arith
width_bound (suc f) n k h = go (ltb n 10) refl (width_bound f (n / 10)) k h
  where
    go : (t : Bool) → ltb n 10 ≡ t → ((j : ℕ) → n / 10 < 10 ^ suc j → width f (n / 10) ≤ suc j) → (k : ℕ) → n < 10 ^ suc k → width (suc f) n ≤ suc k
    go true e i k h = rw (e, width) (omega arith)
    go false e i zero h = let a : 10 ≤ n = ltb-false n 10 e in absurd (omega arith)
    go false e i (suc k) h =
        let p : 10 ^ suc (suc k) ≡ 10 * 10 ^ suc k = pow-succ' 10 (suc k) in
        let a : n / 10 < 10 ^ suc k = omega (arith, p, h) in
        rw (e, width) (omega (arith, i k a))

-- a whole number below 10 is its digit
pub decimal_small : (n : ℕ) → n < 10 → decimal n ≡ (48 + n) ∷ []
unfolding decimal digits_of
decimal_small n h =
    let e : n % 10 ≡ n = omega arith in
    rw (width_small n n h, e)

-- any other is that of its tenth, and its last digit
pub decimal_more : (n : ℕ) → 10 ≤ n → decimal n ≡ decimal (n / 10) ++ ((48 + n % 10) ∷ [])
unfolding decimal digits_of
decimal_more n h = rw (width_more n h)

pub decimal_some : (n : ℕ) → 1 ≤ length (decimal n)
unfolding decimal
decimal_some n = go (ltb n 10) refl
  where
    go : (t : Bool) → ltb n 10 ≡ t → 1 ≤ length (digits_of (width n n) n)
    go true e = omega (arith, digits_length (width n n) n, width_small n n (ltb-true n 10 e))
    go false e = omega (arith, digits_length (width n n) n, width_more n (ltb-false n 10 e))

pub decimal_longer : (n : ℕ) → 10 ≤ n → length (decimal n) ≡ length (decimal (n / 10)) + 1
decimal_longer n h = ap length (decimal_more n h) ∙ length-append (decimal (n / 10)) _

pub decimal_length : (n : ℕ) → n < digits_limit → length (decimal n) ≤ 15
unfolding decimal
decimal_length n h = omega (arith, digits_length (width n n) n, width_bound n n 14 h)

pub sign_length : (t : Bool) → length (sign_text t) ≤ 1
unfolding sign_text
sign_length true = omega arith
sign_length false = omega arith

pub fraction_digits_length : (m d s : ℕ) → length (fraction_digits m d s) ≡ s + (m - s)
unfolding fraction_digits
fraction_digits_length m d s = length-append (digits_of s d) (replicate (m - s) 48) ∙ omega (arith, digits_length s d, length-replicate {A = ℕ} (m - s) 48)

-- a dot stands before digits only
pub dot_none : (l : List ℕ) → length l ≡ 0 → with_dot l ≡ []
unfolding with_dot
dot_none [] h = refl
dot_none (b ∷ l) h = absurd (omega arith)

pub dot_some : (l : List ℕ) → 0 < length l → with_dot l ≡ 46 ∷ l
unfolding with_dot
dot_some [] h = absurd (omega arith)
dot_some (b ∷ l) h = refl

dot_length : (l : List ℕ) → length (with_dot l) ≤ length l + 1
unfolding with_dot
dot_length [] = omega arith
dot_length (b ∷ l) = omega arith

pub fraction_length : (m : Option ℕ) (d s : ℕ) → s ≤ 14 → or_zero m ≤ 19 → length (fraction_text m d s) ≤ 20
unfolding fraction_text
fraction_length m d s h k = omega (arith, dot_length (fraction_digits (or_zero m) d s), fraction_digits_length (or_zero m) d s)

-- what a number in range is
pub in_range_law : (n : Number) → in_range n ≡ true → (n.digits < digits_limit) × (n.scale ≤ 14) × (or_zero n.options.minimum_fraction_digits ≤ 19)
unfolding in_range
in_range_law n h =
    let a = and_true _ _ h in
    let b = and_true _ _ a.1 in
    (ltb-true _ _ a.0, leb-true _ _ b.0, leb-true _ _ b.1)

-- the parts of a number in range fit
pub parts_fit : (n : Number) {p s : ℕ} → in_range n ≡ true → shortest n.digits n.scale ≡ (p, s) → (length (decimal (p / 10 ^ s)) ≤ 15) × (length (fraction_text n.options.minimum_fraction_digits p s) ≤ 20)
parts_fit n {p} {s} h e =
    let r = in_range_law n h in
    let l : (p ≤ n.digits) × (s ≤ n.scale) = rw e at (shortest_le n.digits n.scale) in
    (decimal_length (p / 10 ^ s) (omega (arith, div-le_self p (10 ^ s))), fraction_length n.options.minimum_fraction_digits p s (omega arith) r.2)

-- text laws for callers: a number in range has a text of 1 to textLimit bytes
pub text_length : (n : Number) → in_range n ≡ true → (1 ≤ length (number_text n)) × (length (number_text n) ≤ text_limit)
unfolding number_text decimal_text
text_length n h =
    let p : ℕ = (shortest n.digits n.scale).0 in
    let s : ℕ = (shortest n.digits n.scale).1 in
    let f = parts_fit n {p = p} {s = s} h refl in
    let whole : List ℕ = decimal (p / 10 ^ s) in
    let rest : List ℕ = fraction_text n.options.minimum_fraction_digits p s in
    let a = length-append (sign_text n.negative) (whole ++ rest) in
    let b = length-append whole rest in
    (omega (arith, decimal_some (p / 10 ^ s)), omega (arith, sign_length n.negative))

pub ranged_length : (n : Number) → length (ranged_text n) ≤ text_limit
unfolding ranged_text
ranged_length n = go (in_range n) refl
  where
    go : (t : Bool) → in_range n ≡ t → length (ranged_text n) ≤ text_limit
    go true e = rw (e, ranged_text) (text_length n e).1
    go false e = rw (e, ranged_text) (omega arith)

pub ranged_in : (n : Number) → in_range n ≡ true → ranged_text n ≡ number_text n
unfolding ranged_text
ranged_in n e = rw (e, ranged_text)

pub ranged_out : (n : Number) → in_range n ≡ false → ranged_text n ≡ []
unfolding ranged_text
ranged_out n e = rw (e, ranged_text)

-- the parts of a text
pub number_parts : (n : Number) {p s : ℕ} → shortest n.digits n.scale ≡ (p, s) → number_text n ≡ sign_text n.negative ++ (decimal (p / 10 ^ s) ++ fraction_text n.options.minimum_fraction_digits p s)
unfolding number_text decimal_text
number_parts n e = rw (e, number_text)

-- the three ways of a fraction, by its digits and its minimum: none, its own, and its own with zeros
module _ (m : Option ℕ) (d s : ℕ) {k : ℕ} (e : k ≡ or_zero m) where
  pub fraction_none : k ≤ s → s ≡ 0 → fraction_text m d s ≡ []
  unfolding fraction_text
  fraction_none h z = dot_none (fraction_digits (or_zero m) d s) (omega (arith, fraction_digits_length (or_zero m) d s))

  pub fraction_own : k ≤ s → (s ≡ 0 → ⊥) → fraction_text m d s ≡ 46 ∷ digits_of s d
  unfolding fraction_text fraction_digits
  fraction_own h z =
      let n : or_zero m - s ≡ 0 = omega arith in
      dot_some (digits_of s d ++ replicate (or_zero m - s) 48) (omega (arith, fraction_digits_length (or_zero m) d s)) ∙ rw n (ap (λ (l : List ℕ). 46 ∷ l) (append-nil (digits_of s d)))

  pub fraction_padded : s < k → fraction_text m d s ≡ 46 ∷ (digits_of s d ++ replicate (k - s) 48)
  unfolding fraction_text fraction_digits
  fraction_padded h = rw e (dot_some (digits_of s d ++ replicate (or_zero m - s) 48) (omega (arith, fraction_digits_length (or_zero m) d s)))

  pub own_length : k ≤ s → (s ≡ 0 → ⊥) → length (fraction_text m d s) ≡ s + 1
  own_length h z = ap length (fraction_own h z) ∙ omega (arith, digits_length s d)

  pub padded_length : s < k → length (fraction_text m d s) ≡ k + 1
  padded_length h = ap length (fraction_padded h) ∙ omega (arith, length-append (digits_of s d) (replicate (k - s) 48), digits_length s d, length-replicate {A = ℕ} (k - s) 48)

-- what is added to a text, one after the other
pub adds_none : (t : NumberText) → Adds t [] t
adds_none t = record { text = sym (append-nil (text_of t)); len = omega arith; rest = refl; size = refl }

pub adds_then : {t u v : NumberText} {a b : List ℕ} → Adds t a u → Adds u b v → Adds t (a ++ b) v
adds_then {t} {u} {v} {a} {b} x y =
    record { text = y.text ∙ ap (λ (l : List ℕ). l ++ b) x.text ∙ append_assoc (text_of t) a b; len = omega (arith, x.len, y.len, length-append a b); rest = y.rest ∙ past; size = y.size ∙ x.size }
  where
    behind : (l : List ℕ) → drop v.len l ≡ drop (length b) (drop u.len l)
    behind l = ap (λ (n : ℕ). drop n l) y.len ∙ sym (drop-drop (length b) u.len l)

    past : drop v.len u.bytes ≡ drop v.len t.bytes
    past = behind u.bytes ∙ ap (drop (length b)) x.rest ∙ sym (behind t.bytes)

pub adds_same : {t r : NumberText} {a b : List ℕ} → a ≡ b → Adds t a r → Adds t b r
adds_same e x = rw e at x

pub digits_none : (t : NumberText) (w n : ℕ) → w ≡ 0 → Adds t (digits_of w n) t
unfolding digits_of
digits_none t w n e = rw e (adds_none t)

pub digits_more : {t u r : NumberText} (w n : ℕ) → (w ≡ 0 → ⊥) → Adds t (digits_of (w - 1) (n / 10)) u → Adds u ((48 + n % 10) ∷ []) r → Adds t (digits_of w n) r
unfolding digits_of
digits_more zero n h x y = absurd (h refl)
digits_more (suc w) n h x y = let e : suc w - 1 ≡ w = omega arith in adds_then (rw e at x) y

pub zeros_none : (t : NumberText) (n : ℕ) → n ≡ 0 → Adds t (replicate n 48) t
zeros_none t n e = rw e (adds_none t)

pub zeros_more : {t u r : NumberText} (n : ℕ) → (n ≡ 0 → ⊥) → Adds t (48 ∷ []) u → Adds u (replicate (n - 1) 48) r → Adds t (replicate n 48) r
zeros_more zero h x y = absurd (h refl)
zeros_more (suc n) h x y = let e : suc n - 1 ≡ n = omega arith in adds_then x (rw e at y)

zeros_behind : (m n : ℕ) → drop {A = ℕ} n (replicate m 0) ≡ replicate (m - n) 0
zeros_behind m zero = let e : m - 0 ≡ m = omega arith in ap (λ (k : ℕ). replicate k 0) (sym e)
zeros_behind zero (suc n) = let e : 0 - suc n ≡ 0 = omega arith in ap (λ (k : ℕ). replicate k 0) (sym e)
zeros_behind (suc m) (suc n) = let e : suc m - suc n ≡ m - n = omega arith in zeros_behind m n ∙ ap (λ (k : ℕ). replicate k 0) (sym e)

pub held_none : {e : NumberText} → e ≡ held_text [] → e.len ≡ 0
held_none x = ap (λ (t : NumberText). t.len) x

abbrev holds : List ℕ → ℕ → NumberText
holds l n = record { bytes = l; len = n }

-- a text from nothing: its bytes, and behind them the zeros of the empty text
pub from_none : {e r : NumberText} {a b : List ℕ} → e ≡ held_text [] → Adds e a r → a ≡ b → r ≡ held_text b
unfolding padded
from_none {e} {r} {a} {b} x h p = ap (λ (l : List ℕ). holds l r.len) bytes ∙ ap (λ (n : ℕ). holds (b ++ replicate (text_limit - length b) 0) n) lens
  where
    lens : r.len ≡ length b
    lens = omega (arith, h.len, held_none x, ap length p)

    front : take r.len r.bytes ≡ b
    front = h.text ∙ ap (λ (t : NumberText). text_of t ++ a) x ∙ p

    behind : drop r.len r.bytes ≡ replicate (text_limit - length b) 0
    behind = h.rest ∙ ap (λ (t : NumberText). drop r.len t.bytes) x ∙ zeros_behind text_limit r.len ∙ ap (λ (n : ℕ). replicate (text_limit - n) 0) lens

    bytes : r.bytes ≡ b ++ replicate (text_limit - length b) 0
    bytes = sym (take-append-drop r.len r.bytes) ∙ ap (λ (l : List ℕ). l ++ drop r.len r.bytes) front ∙ ap (λ (l : List ℕ). b ++ l) behind

-- what callers read off a text that holds bytes: its length, its bytes, and that it has textLimit bytes in all
pub held_text_law : (t : List ℕ) → length t ≤ text_limit → text_of (held_text t) ≡ t
unfolding padded
held_text_law t h = take-append_seam t (replicate (text_limit - length t) 0)

pub held_size : (t : List ℕ) → length t ≤ text_limit → length (padded text_limit t) ≡ text_limit
unfolding padded
held_size t h = length-append t (replicate (text_limit - length t) 0) ∙ omega (arith, length-replicate {A = ℕ} (text_limit - length t) 0)

-- a number's text, in its bytes
pub text_held : (n : Number) {r : NumberText} → r ≡ held_text (ranged_text n) → (text_of r ≡ ranged_text n) × (r.len ≡ length (ranged_text n)) × (length r.bytes ≡ text_limit)
text_held n e =
    let fits = ranged_length n in
    (ap text_of e ∙ held_text_law (ranged_text n) fits, ap (λ (t : NumberText). t.len) e, ap (λ (t : NumberText). length t.bytes) e ∙ held_size (ranged_text n) fits)
