-- What the rules let pass is bytes, and so are the encodings of numbers.
use mathlib.Core.Path.{◌≡◌, refl, ap, sym, subst, ◌∙◌}
use mathlib.Core.Bool.{Bool, true, false, ◌&&◌, ◌||◌, false≢true}
use mathlib.Core.List.{List, [], ◌∷◌, ◌++◌}
use Prim.Native.Nat.{ℕ, zero, suc, ◌/◌, ◌^◌, ◌≤◌, ◌<◌}
use native.Mathlib.Omega.{arith}
use native.Mathlib.Nat.{mod-lt}
use lib.ListN.{length}
use lib.Dec.{ltb, eqb}
use borrow.Author.Tests.{ltb-true, ltb-false, eqb-true, lt-ltb, le-leb, lt-leb, ne_eqb}
use Rattle.records.specs.Bytes.{to_be}
use Rattle.decimals.specs.Bytes.{run, choose, digit}
use Rattle.rules.specs.Rules.{letter, id_step, is_id, utf8_low, utf8_high, utf8_step, is_utf8, is_text, escape_step, is_string}
use Rattle.literals.specs.Literal.{number_step, is_number}
use Rattle.decimals.proofs.Run.{run_stays}
use Rattle.rules.proofs.WellFormed.{first_above, utf8_stays}
use Rattle.literals.proofs.Reading.{stuck}
use Rattle.layout.specs.Exact.{Octets}

pub octets_append : (x y : List ℕ) → Octets x → Octets y → Octets (x ++ y)
octets_append [] y h k = k
octets_append (a ∷ x) y h k = (h.0, octets_append x y h.1 k)

pub octets_to_be : (n x : ℕ) → Octets (to_be n x)
unfolding to_be
octets_to_be zero x = tt
octets_to_be (suc n) x = (mod-lt (x / 256 ^ n) (omega arith), octets_to_be n x)

-- an automaton that all but bytes lead to a dead end
module _ (f : ℕ → ℕ → ℕ) (end : ℕ) (stays : (b : ℕ) → f end b ≡ end) (out : (q b : ℕ) → 256 ≤ b → f q b ≡ end) where
  run_octets : (q : ℕ) (t : List ℕ) → (run f q t ≡ end → ⊥) → Octets t
  unfolding run
  run_octets q [] n = tt
  run_octets q (b ∷ t) n = go (ltb b 256) refl (run_octets (f q b) t n)
    where
      go : (i : Bool) → ltb b 256 ≡ i → Octets t → Octets (b ∷ t)
      go true e o = (ltb-true b 256 e, o)
      go false e o = absurd (n (ap (λ (j : ℕ). run f j t) (out q b (ltb-false b 256 e)) ∙ run_stays f end stays t))

digit_out : (b : ℕ) → 256 ≤ b → digit b ≡ false
unfolding digit
digit_out b h = rw (le-leb 48 b (omega arith), lt-leb b 57 (omega arith))

letter_out : (b : ℕ) → 256 ≤ b → letter b ≡ false
unfolding letter
letter_out b h = rw (le-leb 65 b (omega arith), lt-leb b 90 (omega arith), le-leb 97 b (omega arith), lt-leb b 122 (omega arith))

isnt : (b n : ℕ) → 256 ≤ b → n < 256 → eqb b n ≡ false
isnt b n h k = ne_eqb b n (λ e. omega arith)

id_stays : (b : ℕ) → id_step 2 b ≡ 2
unfolding id_step
id_stays b = refl

id_out : (q b : ℕ) → 256 ≤ b → id_step q b ≡ 2
unfolding id_step
id_out q b h = rw (letter_out b h, digit_out b h, isnt b 45 h (omega arith), isnt b 95 h (omega arith)) (go (eqb q 0) (eqb q 1))
  where
    go : (i j : Bool) → choose i 2 (choose (j && false) 1 2) ≡ 2
    go true j = refl
    go false true = refl
    go false false = refl

number_out : (q b : ℕ) → 256 ≤ b → number_step q b ≡ 5
unfolding number_step
number_out q b h = rw (digit_out b h, isnt b 45 h (omega arith), isnt b 46 h (omega arith))

high_bound : (q : ℕ) → utf8_high q ≤ 0xBF
unfolding utf8_high
high_bound q = go (eqb q 5) (eqb q 7)
  where
    go : (i j : Bool) → choose i 0x9F (choose j 0x8F 0xBF) ≤ 0xBF
    go true j = omega arith
    go false true = omega arith
    go false false = omega arith

pub utf8_out : (q b : ℕ) → 256 ≤ b → utf8_step q b ≡ 8
unfolding utf8_step
utf8_out q b h =
    let k : utf8_high q < b = omega (arith, high_bound q) in
    rw (first_above b (omega arith), lt-ltb (utf8_high q) b k) (go (eqb q 0) (ltb b (utf8_low q)))
  where
    go : (i j : Bool) → choose i 8 (choose j 8 8) ≡ 8
    go true j = refl
    go false true = refl
    go false false = refl

pub and_left : (a b : Bool) → (a && b) ≡ true → a ≡ true
and_left true b h = refl
and_left false b h = h

pub and_right : (a b : Bool) → (a && b) ≡ true → b ≡ true
and_right true b h = h
and_right false b h = absurd (false≢true h)

pub id_octets : (t : List ℕ) → is_id t ≡ true → Octets t
unfolding is_id
id_octets t h = run_octets id_step 2 id_stays id_out 0 t (λ e.
    let r : run id_step 0 t ≡ 1 = eqb-true _ 1 (and_left _ _ h) in
    let z : ◌≡◌ {A = ℕ} 2 1 = sym e ∙ r in
    omega arith)

pub utf8_octets : (t : List ℕ) → is_utf8 t ≡ true → Octets t
unfolding is_utf8
utf8_octets t h = run_octets utf8_step 8 utf8_stays utf8_out 0 t (λ e.
    let z : ◌≡◌ {A = ℕ} 8 0 = sym e ∙ eqb-true _ 0 h in
    omega arith)

pub text_octets : (t : List ℕ) → is_text t ≡ true → Octets t
unfolding is_text
text_octets t h = utf8_octets t (and_right (ltb 0 (length t)) (is_utf8 t) h)

pub string_octets : (t : List ℕ) → is_string t ≡ true → Octets t
unfolding is_string
string_octets t h = utf8_octets t (and_right (eqb (run escape_step 0 t) 0) (is_utf8 t) h)

pub number_octets : (t : List ℕ) → is_number t ≡ true → Octets t
unfolding is_number
number_octets t h = run_octets number_step 5 stuck number_out 0 t (λ e.
    let r : (eqb (run number_step 0 t) 2 || eqb (run number_step 0 t) 4) ≡ true = and_left _ _ h in
    false≢true (subst (λ (j : ℕ). (eqb j 2 || eqb j 4) ≡ true) e r))
