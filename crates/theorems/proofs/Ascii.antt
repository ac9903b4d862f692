-- ASCII: identifiers and a number's text.
use mathlib.Core.Path.{◌≡◌, refl, sym, ◌∙◌}
use mathlib.Core.List.{List, [], ◌∷◌, ◌++◌}
use mathlib.Core.Bool.{Bool, true, false, ◌&&◌, ◌||◌}
use mathlib.Core.Option.{Option}
use Prim.Native.Nat.{ℕ, zero, suc, ◌+◌, ◌-◌, ◌/◌, ◌%◌, ◌^◌, ◌≤◌, ◌<◌}
use native.Mathlib.Omega.{arith}
use lib.ListN.{replicate}
use lib.Dec.{eqb, leb}
use borrow.Author.Tests.{eqb-true, leb-true, leb-false, lt-leb, ne_eqb}
use Rattle.numbers.specs.Number.{Number, shortest, or_zero}
use Rattle.decimals.specs.Text.{digits_of, decimal, width, sign_text, fraction_digits, with_dot, fraction_text, decimal_text, number_text}
use Rattle.decimals.specs.Bytes.{run, choose, digit}
use Rattle.rules.specs.Rules.{letter, id_step, is_id}
use Rattle.records.specs.Valid.{All}
use Rattle.layout.proofs.Octets.{and_left}
use Rattle.theorems.proofs.Every.{all_append}

abbrev pub Below128 : ℕ → Type 0
Below128 b = b < 128

abbrev pub Ascii : List ℕ → Type 0
Ascii t = All Below128 t

pub ascii_append : (a b : List ℕ) → Ascii a → Ascii b → Ascii (a ++ b)
ascii_append a b h k = all_append Below128 a b h k

-- a number's text: digits, a sign, a dot
digits_ascii : (w n : ℕ) → Ascii (digits_of w n)
unfolding digits_of
digits_ascii zero n = tt
digits_ascii (suc w) n = ascii_append (digits_of w (n / 10)) ((48 + n % 10) ∷ []) (digits_ascii w (n / 10)) (omega arith, tt)

zeros_ascii : (n : ℕ) → Ascii (replicate n 48)
zeros_ascii zero = tt
zeros_ascii (suc n) = (omega arith, zeros_ascii n)

sign_ascii : (b : Bool) → Ascii (sign_text b)
unfolding sign_text
sign_ascii true = (omega arith, tt)
sign_ascii false = tt

dot_ascii : (l : List ℕ) → Ascii l → Ascii (with_dot l)
unfolding with_dot
dot_ascii [] h = tt
dot_ascii (b ∷ l) h = (omega arith, h)

fraction_ascii : (o : Option ℕ) (d s : ℕ) → Ascii (fraction_text o d s)
unfolding fraction_text fraction_digits
fraction_ascii o d s = dot_ascii (digits_of s d ++ replicate (or_zero o - s) 48) (ascii_append (digits_of s d) (replicate (or_zero o - s) 48) (digits_ascii s d) (zeros_ascii (or_zero o - s)))

decimal_ascii : (b : Bool) (o : Option ℕ) (p : ℕ × ℕ) → Ascii (decimal_text b o p)
unfolding decimal_text decimal
decimal_ascii b o p =
    ascii_append (sign_text b) _ (sign_ascii b)
    (ascii_append (decimal (p.0 / 10 ^ p.1)) (fraction_text o p.0 p.1) (digits_ascii (width (p.0 / 10 ^ p.1) (p.0 / 10 ^ p.1)) (p.0 / 10 ^ p.1)) (fraction_ascii o p.0 p.1))

pub number_ascii : (n : Number) → Ascii (number_text n)
unfolding number_text
number_ascii n = decimal_ascii n.negative _ (shortest n.digits n.scale)

-- an identifier
above_no_letter : (b : ℕ) → 128 ≤ b → letter b ≡ false
unfolding letter
above_no_letter b h = rw (lt-leb b 90 (omega arith), lt-leb b 122 (omega arith)) (go (leb 65 b) (leb 97 b))
  where
    go : (x y : Bool) → ((x && false) || (y && false)) ≡ false
    go true true = refl
    go true false = refl
    go false true = refl
    go false false = refl

above_no_digit : (b : ℕ) → 128 ≤ b → digit b ≡ false
unfolding digit
above_no_digit b h = rw (lt-leb b 57 (omega arith)) (go (leb 48 b))
  where
    go : (x : Bool) → (x && false) ≡ false
    go true = refl
    go false = refl

above : (b n : ℕ) → 128 ≤ b → n < 128 → eqb b n ≡ false
above b n h k = ne_eqb b n (λ e. omega arith)

id_out : (q b : ℕ) → 128 ≤ b → id_step q b ≡ 2
unfolding id_step
id_out q b h = rw (above_no_letter b h, above_no_digit b h, above b 45 h (omega arith), above b 95 h (omega arith)) (go (eqb q 0) (eqb q 1))
  where
    go : (i j : Bool) → choose i 2 (choose (j && false) 1 2) ≡ 2
    go true j = refl
    go false true = refl
    go false false = refl

id_stays : (t : List ℕ) → run id_step 2 t ≡ 2
unfolding run id_step
id_stays [] = refl
id_stays (b ∷ t) = id_stays t

id_run : (q : ℕ) (t : List ℕ) → (run id_step q t ≡ 2 → ⊥) → Ascii t
unfolding run
id_run q [] h = tt
id_run q (b ∷ t) h = (go (leb 128 b) refl, id_run (id_step q b) t h)
  where
    go : (x : Bool) → leb 128 b ≡ x → b < 128
    go true e = absurd (h (rw (id_out q b (leb-true _ _ e)) (id_stays t)))
    go false e = leb-false _ _ e

pub id_ascii : (t : List ℕ) → is_id t ≡ true → Ascii t
unfolding is_id
id_ascii t h = id_run 0 t (λ e.
    let r : run id_step 0 t ≡ 1 = eqb-true _ 1 (and_left _ _ h) in
    let z : ◌≡◌ {A = ℕ} 2 1 = sym e ∙ r in
    omega arith)
