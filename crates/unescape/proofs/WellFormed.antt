-- A text that is well-formed reads as one that is: an escape is ASCII, and it reads as the UTF-8 of a scalar.
use mathlib.Core.Path.{◌≡◌, refl, ap, sym, ◌∙◌}
use mathlib.Core.List.{List, [], ◌∷◌, append-nil}
use mathlib.Core.Bool.{Bool, true, false}
use Prim.Native.Nat.{ℕ, zero, suc, ◌+◌, ◌*◌, ◌≤◌, ◌<◌}
use native.Mathlib.Omega.{arith}
use lib.ListN.{length, drop}
use lib.Dec.{eqb, leb}
use borrow.Author.Tests.{eq-eqb, ne_eqb, eqb-true, eqb-false, lt-ltb, leb-true, leb-false}
use Rattle.decimals.specs.Bytes.{run, choose, given}
use Rattle.rules.specs.Rules.{hex, utf8_first, utf8_low, utf8_step, is_utf8}
use Rattle.decimals.proofs.Run.{run_append, run_stays}
use Rattle.rules.proofs.WellFormed.{utf8_stays}
use Rattle.scalars.specs.Scalars.{hex_value, is_scalar, scalar_or, enc_scalar}
use Rattle.scalars.proofs.Scalars.{never, hex_lower}
use Rattle.scalars.proofs.Utf8.{accept}
use Rattle.unescape.specs.Unescape.{digits_of, scalar_piece, scalar_of, escape_of, piece_of, reads_as, more_of, unescape_from, unescape}
use Rattle.std.specs.Prelude.{Option, Some, None}
use Rattle.unescape.specs.declared.Piece.{Piece}
use Rattle.unescape.specs.declared.Piece.TheVariants.{Byte, Scalar}
use Rattle.unescape.proofs.Reading.{piece_sized}

-- an ASCII byte stands between scalars
least : (x y : Bool) → 0x80 ≤ choose x 0xA0 (choose y 0x90 0x80)
least true y = omega arith
least false true = omega arith
least false false = omega arith

ascii_first : (b : ℕ) → b < 0x80 → utf8_step 0 b ≡ 0
unfolding utf8_step utf8_first
ascii_first b h = rw (lt-ltb _ _ h)

ascii_inside : (q b : ℕ) → (q ≡ 0 → ⊥) → b < 0x80 → utf8_step q b ≡ 8
unfolding utf8_step utf8_low
ascii_inside q b f h =
    let l = least (eqb q 4) (eqb q 6) in
    rw (ne_eqb q 0 f, lt-ltb b (choose (eqb q 4) 0xA0 (choose (eqb q 6) 0x90 0x80)) (omega arith))

ascii_between : (q b : ℕ) (t : List ℕ) → b < 0x80 → run utf8_step (utf8_step q b) t ≡ 0 → q ≡ 0
ascii_between q b t h g = go (eqb q 0) refl where
  go : (x : Bool) → eqb q 0 ≡ x → q ≡ 0
  go true e = eqb-true _ _ e
  go false e =
      let a : run utf8_step 8 t ≡ 0 = rw (ascii_inside q b (eqb-false _ _ e) h) at g in
      let z = run_stays utf8_step 8 utf8_stays t in
      absurd (omega arith)

-- digits are ASCII
hex_ascii : (c : ℕ) → hex c ≡ true → c < 0x80
hex_ascii c h = go (leb c 102) refl where
  go : (x : Bool) → leb c 102 ≡ x → c < 0x80
  go true e = let l : c ≤ 102 = leb-true _ _ e in omega arith
  go false e = let l : 102 < c = leb-false _ _ e in never (hex_lower c (omega arith) ∙ e) h

digit_ascii : (x : Bool) (c n : ℕ) (t : List ℕ) {d : Option ℕ} {w : ℕ} → hex c ≡ x → (d ≡ Some w → run utf8_step 0 t ≡ run utf8_step 0 (drop n t)) → given x d None ≡ Some w → run utf8_step (utf8_step 0 c) t ≡ run utf8_step 0 (drop n t)
digit_ascii true c n t e f g = rw (ascii_first c (hex_ascii c e)) (f g)
digit_ascii false c n t e f g = let z : ◌≡◌ {A = ℕ} 0 1 = cc in absurd (omega arith)

digits_ascii : (v n : ℕ) (t : List ℕ) {w : ℕ} → digits_of v n t ≡ Some w → run utf8_step 0 t ≡ run utf8_step 0 (drop n t)
unfolding digits_of run
digits_ascii v zero t h = refl
digits_ascii v (suc n) [] h = refl
digits_ascii v (suc n) (c ∷ t) h = digit_ascii (hex c) c n t refl (digits_ascii (v * 16 + hex_value c) n t) h

-- what `scalar_or` gives is a scalar
either_scalar : (v : ℕ) (t : Bool) → is_scalar v ≡ t → is_scalar (choose t v 0xFFFD) ≡ true
unfolding is_scalar
either_scalar v true e = e
either_scalar v false e = refl

scalar_or_law : (v : ℕ) → is_scalar (scalar_or v) ≡ true
unfolding scalar_or
scalar_or_law v = either_scalar v (is_scalar v) refl

scalar_utf8 : (v : ℕ) → run utf8_step 0 (enc_scalar (scalar_or v)) ≡ 0
unfolding run
scalar_utf8 v = ap (λ (t : List ℕ). run utf8_step 0 t) (sym (append-nil (enc_scalar (scalar_or v)))) ∙ accept (scalar_or v) [] (scalar_or_law v)

-- a piece, read, leads to where its bytes lead
unfoldable Leads : ℕ → Piece → List ℕ → Type 0
Leads q p t = run utf8_step (run utf8_step q (reads_as p)) (drop (more_of p) t) ≡ 0

byte_leads : (q x k : ℕ) (t : List ℕ) → run utf8_step (utf8_step q x) (drop k t) ≡ 0 → Leads q (Byte x k) t
unfolding Leads reads_as more_of run
byte_leads q x k t h = h

ascii_leads : (x k : ℕ) (t : List ℕ) → x < 0x80 → run utf8_step 0 (drop k t) ≡ 0 → Leads 0 (Byte x k) t
ascii_leads x k t l h = byte_leads 0 x k t (rw (ascii_first x l) h)

past_ascii : (c : ℕ) (t : List ℕ) → c < 0x80 → run utf8_step 0 (c ∷ t) ≡ 0 → run utf8_step 0 t ≡ 0
unfolding run
past_ascii c t l h = rw (ascii_first c l) at h

value_leads : (v n c : ℕ) (t : List ℕ) → run utf8_step 0 (drop n t) ≡ 0 → Leads 0 (Scalar v (n + 1)) (c ∷ t)
unfolding Leads reads_as more_of
value_leads v n c t h = let e : n + 1 ≡ suc n = omega arith in rw (scalar_utf8 v, e) h

digits_lead : (n c : ℕ) (t : List ℕ) (d : Option ℕ) → c < 0x80 → digits_of 0 n t ≡ d → run utf8_step 0 (c ∷ t) ≡ 0 → Leads 0 (scalar_piece n d) (c ∷ t)
unfolding scalar_piece
digits_lead n c t (Some v) l e h = value_leads v n c t (sym (digits_ascii 0 n t e) ∙ past_ascii c t l h)
digits_lead n c t None l e h = ascii_leads 92 0 (c ∷ t) (omega arith) h

scalar_leads : (n c : ℕ) (t : List ℕ) → c < 0x80 → run utf8_step 0 (c ∷ t) ≡ 0 → Leads 0 (scalar_of n t) (c ∷ t)
unfolding scalar_of
scalar_leads n c t l h = digits_lead n c t (digits_of 0 n t) l refl h

escape_leads_at : (x y z u : Bool) (c : ℕ) (t : List ℕ) → eqb c 92 ≡ x → eqb c 34 ≡ y → eqb c 117 ≡ z → eqb c 85 ≡ u → run utf8_step 0 (c ∷ t) ≡ 0
    → Leads 0 (given x (Byte 92 1) (given y (Byte 34 1) (given z (scalar_of 4 t) (given u (scalar_of 6 t) (Byte 92 0))))) (c ∷ t)
escape_leads_at true y z u c t a b d e h = let k : c ≡ 92 = eqb-true _ _ a in ascii_leads 92 1 (c ∷ t) (omega arith) (past_ascii c t (omega arith) h)
escape_leads_at false true z u c t a b d e h = let k : c ≡ 34 = eqb-true _ _ b in ascii_leads 34 1 (c ∷ t) (omega arith) (past_ascii c t (omega arith) h)
escape_leads_at false false true u c t a b d e h = let k : c ≡ 117 = eqb-true _ _ d in scalar_leads 4 c t (omega arith) h
escape_leads_at false false false true c t a b d e h = let k : c ≡ 85 = eqb-true _ _ e in scalar_leads 6 c t (omega arith) h
escape_leads_at false false false false c t a b d e h = ascii_leads 92 0 (c ∷ t) (omega arith) h

escape_leads : (t : List ℕ) → run utf8_step 0 t ≡ 0 → Leads 0 (escape_of t) t
unfolding escape_of
escape_leads [] h = ascii_leads 92 0 [] (omega arith) h
escape_leads (c ∷ t) h = escape_leads_at (eqb c 92) (eqb c 34) (eqb c 117) (eqb c 85) c t refl refl refl refl h

piece_leads_at : (x : Bool) (q c : ℕ) (t : List ℕ) → eqb c 92 ≡ x → run utf8_step (utf8_step q c) t ≡ 0 → Leads q (given x (escape_of t) (Byte c 0)) t
piece_leads_at true q c t e h =
    let k : c ≡ 92 = eqb-true _ _ e in
    let z : q ≡ 0 = ascii_between q c t (omega arith) h in
    let g : run utf8_step 0 t ≡ 0 = rw (z, ascii_first c (omega arith)) at h in
    rw z (escape_leads t g)
piece_leads_at false q c t e h = byte_leads q c 0 t h

piece_leads : (q c : ℕ) (t : List ℕ) → run utf8_step q (c ∷ t) ≡ 0 → run utf8_step (run utf8_step q (reads_as (piece_of c t))) (drop (more_of (piece_of c t)) t) ≡ 0
unfolding Leads run piece_of
piece_leads q c t h = piece_leads_at (eqb c 92) q c t refl h

from_utf8 : (k q : ℕ) (t : List ℕ) → k ≤ length t → run utf8_step q (drop k t) ≡ 0 → run utf8_step q (unescape_from k t) ≡ 0
unfolding unescape_from
from_utf8 zero q [] l h = h
from_utf8 (suc k) q [] l h = absurd (omega arith)
from_utf8 (suc k) q (c ∷ t) l h = from_utf8 k q t (omega arith) h
from_utf8 zero q (c ∷ t) l h =
    let z = piece_sized c t in
    rw (run_append utf8_step q (reads_as (piece_of c t)) (unescape_from (more_of (piece_of c t)) t)) (from_utf8 (more_of (piece_of c t)) (run utf8_step q (reads_as (piece_of c t))) t z.inside (piece_leads q c t h))

pub unescape_utf8 : (t : List ℕ) → is_utf8 t ≡ true → is_utf8 (unescape t) ≡ true
unfolding is_utf8 unescape
unescape_utf8 t h = eq-eqb _ _ (from_utf8 0 0 t (omega arith) (eqb-true _ _ h))
