-- What string literals read as, one after the other: a text whose escapes are whole, before any other.
use mathlib.Core.Path.{◌≡◌, refl, ap, sym, ◌∙◌}
use mathlib.Core.List.{List, [], ◌∷◌, ◌++◌, append_assoc}
use mathlib.Core.Bool.{Bool, true, false, ◌&&◌}
use Prim.Native.Nat.{ℕ, zero, suc, ◌+◌, ◌-◌, ◌*◌, ◌≤◌, ◌<◌}
use native.Mathlib.Omega.{arith}
use lib.ListN.{length, drop}
use lib.Dec.{eqb}
use borrow.Author.Tests.{eq-eqb, ne_eqb, eqb-true}
use Rattle.decimals.specs.Bytes.{run, choose, given}
use Rattle.rules.specs.Rules.{hex, escape_step, is_string}
use Rattle.scalars.specs.Scalars.{hex_value}
use Rattle.unescape.specs.Unescape.{digits_of, scalar_piece, scalar_of, escape_of, piece_of, reads_as, more_of, unescape_from, unescape}
use Rattle.std.specs.Prelude.{Some}
use Rattle.unescape.specs.declared.Piece.{Piece}
use Rattle.unescape.specs.declared.Piece.TheVariants.{Byte}
use Rattle.unescape.proofs.Reading.{piece_sized}

-- once broken, always broken
escape_stays : (t : List ℕ) → run escape_step 2 t ≡ 2
unfolding run escape_step
escape_stays [] = refl
escape_stays (b ∷ t) = escape_stays t

not_broken : {A : Type 0} (t : List ℕ) → run escape_step 2 t ≡ 0 → A
not_broken t h = let e = escape_stays t in absurd (omega arith)

-- n digits are read, whatever follows the text, and the rest is whole
record Whole (v n : ℕ) (t b : List ℕ) : Type 0 where
  value : ℕ
  read : digits_of v n t ≡ Some value
  before : digits_of v n (t ++ b) ≡ Some value
  rest : run escape_step 0 (drop n t) ≡ 0

-- a step where digits are to come
digit_step : (q c : ℕ) → 3 ≤ q → escape_step q c ≡ choose (hex c) (choose (eqb q 3) 0 (q - 1)) 2
unfolding escape_step
digit_step q c h =
    let a : q ≡ 0 → ⊥ = λ e. omega arith in
    let b : q ≡ 1 → ⊥ = λ e. omega arith in
    let d : q ≡ 2 → ⊥ = λ e. omega arith in
    simp (ne_eqb q 0 a, ne_eqb q 1 b, ne_eqb q 2 d)

-- one digit, and those after it
whole_more : (x : Bool) (v n : ℕ) (c : ℕ) (t b : List ℕ) (q : ℕ) → hex c ≡ x → (run escape_step q t ≡ 0 → Whole (v * 16 + hex_value c) n t b) → run escape_step (choose x q 2) t ≡ 0 → Whole v (suc n) (c ∷ t) b
unfolding digits_of
whole_more true v n c t b q e f h =
    let w = f h in
    record { value = w.value; read = rw e w.read; before = rw e w.before; rest = w.rest }
whole_more false v n c t b q e f h = not_broken t h

whole_none : (v : ℕ) (t b : List ℕ) → run escape_step 0 t ≡ 0 → Whole v 0 t b
unfolding digits_of
whole_none v t b h = record { value = v; read = refl; before = refl; rest = h }

digits_whole : (n q v : ℕ) (t b : List ℕ) → q ≡ 3 + n → run escape_step q t ≡ 0 → Whole v (suc n) t b
unfolding run
digits_whole n q v [] b e h = absurd (omega arith)
digits_whole zero q v (c ∷ t) b e h =
    let s : escape_step q c ≡ choose (hex c) 0 2 = digit_step q c (omega arith) ∙ ap (λ (x : Bool). choose (hex c) (choose x 0 (q - 1)) 2) (eq-eqb q 3 (omega arith)) in
    whole_more (hex c) v 0 c t b 0 refl (whole_none (v * 16 + hex_value c) t b) (rw s at h)
digits_whole (suc n) q v (c ∷ t) b e h =
    let d : q ≡ 3 → ⊥ = λ z. omega arith in
    let s : escape_step q c ≡ choose (hex c) (q - 1) 2 = digit_step q c (omega arith) ∙ ap (λ (x : Bool). choose (hex c) (choose x 0 (q - 1)) 2) (ne_eqb q 3 d) in
    whole_more (hex c) v (suc n) c t b (q - 1) refl (digits_whole n (q - 1) (v * 16 + hex_value c) t b (omega arith)) (rw s at h)

-- a piece is the same whatever follows the text, and the rest is whole
record Same (p p' : Piece) (t : List ℕ) : Type 0 where
  same : p' ≡ p
  rest : run escape_step 0 (drop (more_of p) t) ≡ 0

scalar_same : (n : ℕ) (c : ℕ) (t b : List ℕ) → Whole 0 n t b → Same (scalar_of n t) (scalar_of n (t ++ b)) (c ∷ t)
unfolding scalar_of scalar_piece more_of
scalar_same n c t b w =
    let e : n + 1 ≡ suc n = omega arith in
    record { same = rw (w.read, w.before); rest = rw (w.read, e) w.rest }

byte_same : (x k : ℕ) (t : List ℕ) → run escape_step 0 (drop k t) ≡ 0 → Same (Byte x k) (Byte x k) t
unfolding more_of
byte_same x k t h = record { same = refl; rest = h }

escape_same_at : (x y z u : Bool) (c : ℕ) (t b : List ℕ) → run escape_step (choose x 0 (choose y 0 (choose z 6 (choose u 8 2)))) t ≡ 0
    → Same
    (given x (Byte 92 1) (given y (Byte 34 1) (given z (scalar_of 4 t) (given u (scalar_of 6 t) (Byte 92 0)))))
    (given x (Byte 92 1) (given y (Byte 34 1) (given z (scalar_of 4 (t ++ b)) (given u (scalar_of 6 (t ++ b)) (Byte 92 0)))))
    (c ∷ t)
escape_same_at true y z u c t b h = byte_same 92 1 (c ∷ t) h
escape_same_at false true z u c t b h = byte_same 34 1 (c ∷ t) h
escape_same_at false false true u c t b h = scalar_same 4 c t b (digits_whole 3 6 0 t b refl h)
escape_same_at false false false true c t b h = scalar_same 6 c t b (digits_whole 5 8 0 t b refl h)
escape_same_at false false false false c t b h = not_broken t h

escape_same : (t b : List ℕ) → run escape_step 1 t ≡ 0 → Same (escape_of t) (escape_of (t ++ b)) t
unfolding run escape_of escape_step
escape_same [] b h = absurd (omega arith)
escape_same (c ∷ t) b h = escape_same_at (eqb c 92) (eqb c 34) (eqb c 117) (eqb c 85) c t b h

piece_same_at : (x : Bool) (c : ℕ) (t b : List ℕ) → run escape_step (choose x 1 0) t ≡ 0 → Same (given x (escape_of t) (Byte c 0)) (given x (escape_of (t ++ b)) (Byte c 0)) t
piece_same_at true c t b h = escape_same t b h
piece_same_at false c t b h = byte_same c 0 t h

piece_same : (c : ℕ) (t b : List ℕ) → run escape_step 0 (c ∷ t) ≡ 0 → Same (piece_of c t) (piece_of c (t ++ b)) t
unfolding run escape_step piece_of
piece_same c t b h = piece_same_at (eqb c 92) c t b h

from_append : (k : ℕ) (a b : List ℕ) → k ≤ length a → run escape_step 0 (drop k a) ≡ 0 → unescape_from k (a ++ b) ≡ unescape_from k a ++ unescape b
unfolding unescape_from unescape
from_append zero [] b l h = refl
from_append (suc k) [] b l h = absurd (omega arith)
from_append (suc k) (c ∷ a) b l h = from_append k a b (omega arith) h
from_append zero (c ∷ a) b l h =
    let s = piece_same c a b h in
    let z = piece_sized c a in
    rw s.same (ap (λ (r : List ℕ). reads_as (piece_of c a) ++ r) (from_append (more_of (piece_of c a)) a b z.inside s.rest) ∙ sym (append_assoc (reads_as (piece_of c a)) (unescape_from (more_of (piece_of c a)) a) (unescape b)))

pub unescape_append : (a b : List ℕ) → run escape_step 0 a ≡ 0 → unescape (a ++ b) ≡ unescape a ++ unescape b
unfolding unescape
unescape_append a b h = from_append 0 a b (omega arith) h

-- a string literal is such a text
and_left : (x y : Bool) → x && y ≡ true → x ≡ true
and_left true y h = refl
and_left false y h = h

pub string_append : (a b : List ℕ) → is_string a ≡ true → unescape (a ++ b) ≡ unescape a ++ unescape b
unfolding is_string
string_append a b h = unescape_append a b (eqb-true _ _ (and_left (eqb (run escape_step 0 a) 0) _ h))

-- In such a text each backslash begins an escape: none stands for itself.
scalar_begins : (n : ℕ) (t : List ℕ) → Whole 0 n t [] → 0 < more_of (scalar_of n t)
unfolding scalar_of scalar_piece more_of
scalar_begins n t w = rw w.read (omega arith)

escape_begins_at : (x y z u : Bool) (t : List ℕ) → run escape_step (choose x 0 (choose y 0 (choose z 6 (choose u 8 2)))) t ≡ 0 → 0 < more_of (given x (Byte 92 1) (given y (Byte 34 1) (given z (scalar_of 4 t) (given u (scalar_of 6 t) (Byte 92 0)))))
unfolding more_of
escape_begins_at true y z u t h = omega arith
escape_begins_at false true z u t h = omega arith
escape_begins_at false false true u t h = scalar_begins 4 t (digits_whole 3 6 0 t [] refl h)
escape_begins_at false false false true t h = scalar_begins 6 t (digits_whole 5 8 0 t [] refl h)
escape_begins_at false false false false t h = not_broken t h

escape_begins : (t : List ℕ) → run escape_step 1 t ≡ 0 → 0 < more_of (escape_of t)
unfolding run escape_of escape_step
escape_begins [] h = absurd (omega arith)
escape_begins (c ∷ t) h = escape_begins_at (eqb c 92) (eqb c 34) (eqb c 117) (eqb c 85) t h

pub backslash_escapes : (t : List ℕ) → run escape_step 0 (92 ∷ t) ≡ 0 → 0 < more_of (piece_of 92 t)
unfolding run escape_step piece_of
backslash_escapes t h = escape_begins t h
