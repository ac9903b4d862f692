-- Laws of reading a string literal.
use mathlib.Core.Path.{◌≡◌, refl, ap, sym, subst, ◌∙◌}
use mathlib.Core.List.{List, [], ◌∷◌, ◌++◌, append_assoc, append-nil}
use mathlib.Core.Bool.{Bool, true, false, ◌||◌}
use Rattle.std.specs.List.{list_any}
use Prim.Native.Nat.{ℕ, zero, suc, ◌+◌, ◌-◌, ◌*◌, ◌^◌, ◌≤◌, ◌<◌}
use native.Mathlib.Nat.{pow-suc, pow-le-pow_right}
use native.Mathlib.Omega.{arith}
use native.Mathlib.Numerals.{add-one}
use lib.ListN.{length, take, drop, get_or, length-append, length-drop}
use lib.Seq.{drop-cons, take-length}
use lib.Dec.{eqb, leb}
use borrow.Author.Tests.{leb-true, le-leb}
use Rattle.rules.specs.Rules.{hex}
use Rattle.decimals.specs.Bytes.{given}
use Rattle.buffers.specs.Relations.Append.{over}
use Rattle.buffers.proofs.Place.{over_none, then_over, length_over}
use Rattle.scalars.specs.Scalars.{hex_value, scalar_or, enc_scalar}
use Rattle.scalars.proofs.Scalars.{never, scalar_length}
use Rattle.unescape.specs.Unescape.{has_backslash, digits_of, scalar_piece, scalar_of, escape_of, piece_of, reads_as, more_of, unescape_from, unescape}
use Rattle.std.specs.Prelude.{Option, Some, None}
use Rattle.unescape.specs.declared.Piece.{Piece}
use Rattle.unescape.specs.declared.Piece.TheVariants.{Byte, Scalar}

-- where k bytes are read already, the rest is read
pub unescape_from_law : (k : ℕ) (t : List ℕ) → unescape_from k t ≡ unescape (drop k t)
unfolding unescape_from unescape
unescape_from_law zero [] = refl
unescape_from_law (suc k) [] = refl
unescape_from_law zero (b ∷ t) = refl
unescape_from_law (suc k) (b ∷ t) = unescape_from_law k t

-- a piece, and what follows it
pub unescape_piece : (b : ℕ) (t : List ℕ) → unescape (b ∷ t) ≡ reads_as (piece_of b t) ++ unescape (drop (more_of (piece_of b t)) t)
unfolding unescape unescape_from
unescape_piece b t = ap (λ (l : List ℕ). reads_as (piece_of b t) ++ l) (unescape_from_law (more_of (piece_of b t)) t)

-- a text has a backslash where the library finds one
pub any_backslash : (s : List ℕ) → list_any (λ b. eqb b 92) s ≡ has_backslash s
unfolding has_backslash
any_backslash [] = refl
any_backslash (b ∷ t) = ap (λ (x : Bool). eqb b 92 || x) (any_backslash t)

-- six digits fit
pub digits_room : (v k x : ℕ) → v < 16 ^ k → k < 6 → x < 16 → (v * 16 + x < 16 ^ (k + 1)) × (v * 16 + x < 16777216)
digits_room v k x h g l =
    let e : 16 ^ (k + 1) ≡ 16 ^ k * 16 = rw add-one (pow-suc 16 k) in
    let m : 16 ^ k ≤ 16 ^ 5 = pow-le-pow_right {n = 16} (omega arith) {i = k} {j = 5} (omega arith) in
    let m' : 16 ^ k ≤ 1048576 = m in
    (omega arith, omega arith)

-- digits, one more
module _ (s : List ℕ) (i v n : ℕ) where
  pub digits_more : i < length s → 0 < n → hex (get_or s i 0) ≡ true → digits_of v n (drop i s) ≡ digits_of (v * 16 + hex_value (get_or s i 0)) (n - 1) (drop (i + 1) s)
  unfolding digits_of
  digits_more h g e =
      let m : suc (n - 1) ≡ n = omega arith in
      let f : digits_of v (suc (n - 1)) (get_or s i 0 ∷ drop (suc i) s) ≡ digits_of (v * 16 + hex_value (get_or s i 0)) (n - 1) (drop (suc i) s) = rw e in
      rw (add-one, drop-cons s i 0 h) (subst (λ (x : ℕ). digits_of v x (get_or s i 0 ∷ drop (suc i) s) ≡ digits_of (v * 16 + hex_value (get_or s i 0)) (n - 1) (drop (suc i) s)) m f)

  pub digits_not : i < length s → 0 < n → hex (get_or s i 0) ≡ false → digits_of v n (drop i s) ≡ None
  unfolding digits_of
  digits_not h g e = let m : n ≡ suc (n - 1) = omega arith in rw (drop-cons s i 0 h, m, e)

  pub digits_done : n ≤ 0 → digits_of v n (drop i s) ≡ Some v
  unfolding digits_of
  digits_done g = let m : n ≡ zero = omega arith in rw m

pub digits_turn : (s : List ℕ) (i v n : ℕ) {x : ℕ} {d : Option ℕ} → i < length s → 0 < n → hex (get_or s i 0) ≡ true → x ≡ hex_value (get_or s i 0) → digits_of v n (drop i s) ≡ d → digits_of (v * 16 + x) (n - 1) (drop (i + 1) s) ≡ d
digits_turn s i v n h g e q p = rw q (sym (digits_more s i v n h g e) ∙ p)

-- digits that are read are there
digits_if : (x : Bool) {d : Option ℕ} {w n m : ℕ} → (d ≡ Some w → n ≤ m) → given x d None ≡ Some w → suc n ≤ suc m
digits_if true f g = let i = f g in omega arith
digits_if false f g = let z : ◌≡◌ {A = ℕ} 0 1 = cc in absurd (omega arith)

pub digits_there : (v n : ℕ) (t : List ℕ) {w : ℕ} → digits_of v n t ≡ Some w → n ≤ length t
unfolding digits_of
digits_there v zero t h = omega arith
digits_there v (suc n) [] h = let z : ◌≡◌ {A = ℕ} 0 1 = cc in absurd (omega arith)
digits_there v (suc n) (b ∷ t) h = digits_if (hex b) (digits_there (v * 16 + hex_value b) n t) h

pub digits_lack : (v n : ℕ) (t : List ℕ) → length t < n → digits_of v n t ≡ None
digits_lack v n t h = go (digits_of v n t) refl where
  go : (d : Option ℕ) → digits_of v n t ≡ d → d ≡ None
  go (Some w) e = let l = digits_there v n t e in absurd (omega arith)
  go None e = refl

-- n digits are read from the first n bytes
pub digits_front : (v n : ℕ) (t : List ℕ) → digits_of v n (take n t) ≡ digits_of v n t
unfolding digits_of
digits_front v zero t = refl
digits_front v (suc n) [] = refl
digits_front v (suc n) (b ∷ t) = ap (λ (d : Option ℕ). given (hex b) d None) (digits_front (v * 16 + hex_value b) n t)

-- A piece lies in the text, and reads as no more bytes than it has.
pub record Sized (p : Piece) (n : ℕ) : Type 0 where
  pub inside : more_of p ≤ n
  pub short : length (reads_as p) ≤ 1 + more_of p

byte_sized : (b k n : ℕ) → k ≤ n → Sized (Byte b k) n
unfolding more_of reads_as
byte_sized b k n h = record { inside = h; short = omega arith }

value_sized : (v n m : ℕ) → 2 ≤ n → n ≤ m → Sized (Scalar v (n + 1)) (suc m)
unfolding more_of reads_as
value_sized v n m h g = let l = scalar_length (scalar_or v) in record { inside = omega arith; short = omega arith }

digits_sized : (n : ℕ) (t : List ℕ) (d : Option ℕ) → 2 ≤ n → digits_of 0 n t ≡ d → Sized (scalar_piece n d) (suc (length t))
unfolding scalar_piece
digits_sized n t (Some v) h e = value_sized v n (length t) h (digits_there 0 n t e)
digits_sized n t None h e = byte_sized 92 0 _ (omega arith)

scalar_sized : (n : ℕ) (t : List ℕ) → 2 ≤ n → Sized (scalar_of n t) (suc (length t))
unfolding scalar_of
scalar_sized n t h = digits_sized n t (digits_of 0 n t) h refl

given_sized : (x : Bool) {p q : Piece} {n : ℕ} → Sized p n → Sized q n → Sized (given x p q) n
given_sized true h g = h
given_sized false h g = g

escape_sized : (t : List ℕ) → Sized (escape_of t) (length t)
unfolding escape_of
escape_sized [] = byte_sized 92 0 _ (omega arith)
escape_sized (c ∷ t) =
    given_sized (eqb c 92) (byte_sized 92 1 _ (omega arith))
    (given_sized (eqb c 34) (byte_sized 34 1 _ (omega arith))
    (given_sized (eqb c 117) (scalar_sized 4 t (omega arith))
    (given_sized (eqb c 85) (scalar_sized 6 t (omega arith)) (byte_sized 92 0 _ (omega arith)))))

pub piece_sized : (b : ℕ) (t : List ℕ) → Sized (piece_of b t) (length t)
unfolding piece_of
piece_sized b t = given_sized (eqb b 92) (escape_sized t) (byte_sized b 0 _ (omega arith))

pub more_inside : (b : ℕ) (t : List ℕ) → more_of (piece_of b t) ≤ length t
more_inside b t = (piece_sized b t).inside

-- a text without a backslash reads as itself
or_false : (x : Bool) {y : Bool} → x || y ≡ false → (x ≡ false) × (y ≡ false)
or_false true h = never h refl
or_false false h = (refl, h)

pub unescape_plain : (t : List ℕ) → has_backslash t ≡ false → unescape t ≡ t
unfolding has_backslash unescape unescape_from piece_of reads_as more_of
unescape_plain [] h = refl
unescape_plain (b ∷ t) h =
    let f = or_false (eqb b 92) h in
    let e : piece_of b t ≡ Byte b 0 = rw f.0 in
    rw f.0 (ap (λ (l : List ℕ). b ∷ l) (unescape_plain t f.1))

-- what is read is no longer than the text
unescape_short : (k : ℕ) (t : List ℕ) → k ≤ length t → length (unescape_from k t) + k ≤ length t
unfolding unescape_from
unescape_short zero [] h = omega arith
unescape_short (suc k) [] h = absurd (omega arith)
unescape_short (suc k) (b ∷ t) h = let i = unescape_short k t (omega arith) in omega arith
unescape_short zero (b ∷ t) h =
    let p = piece_of b t in
    let z = piece_sized b t in
    let x : more_of (piece_of b t) ≤ length t = z.inside in
    let y : length (reads_as (piece_of b t)) ≤ 1 + more_of (piece_of b t) = z.short in
    let i = unescape_short (more_of (piece_of b t)) t x in
    let l = length-append (reads_as (piece_of b t)) (unescape_from (more_of (piece_of b t)) t) in
    omega arith

pub length_unescape : (t : List ℕ) → length (unescape t) ≤ length t
unfolding unescape
length_unescape t = let i = unescape_short 0 t (omega arith) in omega arith

-- so where the text has room, what is read has
pub room_unescape : (t : List ℕ) (at n : ℕ) → leb (at + length t) n ≡ true → leb (at + length (unescape t)) n ≡ true
room_unescape t at n h =
    let fits = leb-true (at + length t) n h in
    let short = length_unescape t in
    le-leb (at + length (unescape t)) n (omega arith)

-- past a piece: what is left of n bytes, as the code takes it
past : (t : List ℕ) (m : ℕ) → take (length t - m) (drop m t) ≡ drop m t
past t m = rw (← (length-drop m t)) (take-length (drop m t))

-- a turn of the count
pub count_turn : (b : ℕ) (t : List ℕ) (n : ℕ) {u : List ℕ} {p : Piece} {l m x : ℕ} → u ≡ b ∷ t → p ≡ piece_of b t → l ≡ length (reads_as p) → m ≡ more_of p → n + length (unescape u) ≡ x
    → n + l + length (unescape (take (length t - m) (drop m t))) ≡ x
count_turn b t n {u} {p} {l} {m} is e el em q =
    let u : length (unescape u) ≡ length (reads_as p ++ unescape (drop (more_of p) t)) = rw (is, e) (ap length (unescape_piece b t)) in
    let l = length-append (reads_as p) (unescape (drop (more_of p) t)) in
    rw (past t m, em) (omega arith)

-- a text of which `left` is to be read still, what was read written over a buffer
pub record Written (s d₀ : List ℕ) (at : ℕ) (d : List ℕ) (j : ℕ) (left : List ℕ) : Type 0 where
  pub size : length d ≡ length d₀
  pub done : List ℕ
  pub whole : done ++ unescape left ≡ unescape s
  pub bytes : d ≡ over d₀ at done
  pub place : j ≡ at + length done

module _ (s d₀ : List ℕ) (at : ℕ) where
  pub written_none : Written s d₀ at d₀ at s
  written_none = record { size = refl; done = []; whole = refl; bytes = sym (over_none d₀ at); place = omega arith }

  module _ (fits : at + length (unescape s) ≤ length d₀) {d : List ℕ} {j b : ℕ} {t u : List ℕ} (w : Written s d₀ at d j u) {p : Piece} (is : u ≡ b ∷ t) (e : p ≡ piece_of b t) where
    rest_of : w.done ++ reads_as p ++ unescape (drop (more_of p) t) ≡ unescape s
    rest_of = append_assoc w.done (reads_as p) _ ∙ ap (λ (l : List ℕ). w.done ++ l) (rw (is, e) (sym (unescape_piece b t))) ∙ w.whole

    room : at + (length w.done + length (reads_as p)) ≤ length d₀
    room =
        let a : length (w.done ++ reads_as p ++ unescape (drop (more_of p) t)) ≡ length (unescape s) = ap length rest_of in
        let b = length-append (w.done ++ reads_as p) (unescape (drop (more_of p) t)) in
        let c = length-append w.done (reads_as p) in
        omega arith

    pub written_room : j + length (reads_as p) ≤ length d
    written_room = let r = room in let a = w.place in let b = w.size in omega arith

    pub written_turn : {d' : List ℕ} {l m : ℕ} → d' ≡ over d j (reads_as p) → l ≡ length (reads_as p) → m ≡ more_of p → Written s d₀ at d' (j + l) (take (length t - m) (drop m t))
    written_turn {d'} {l} {m} q el em =
        let r = room in
        let a = w.place in
        let b = w.size in
        let c = length-append w.done (reads_as p) in
        record {
          size = ap length q ∙ length_over d j (reads_as p) (omega arith) ∙ b;
          done = w.done ++ reads_as p;
          whole = rw (past t m, em) rest_of;
          bytes = q ∙ then_over d₀ at w.done (reads_as p) w.bytes a r;
          place = omega arith;
        }

  pub written_end : {d : List ℕ} {j : ℕ} {u : List ℕ} → Written s d₀ at d j u → length u ≡ 0 → (j ≡ at + length (unescape s)) × (d ≡ over d₀ at (unescape s))
  unfolding unescape unescape_from
  written_end {u = []} w h =
      let a : w.done ≡ unescape s = sym (append-nil w.done) ∙ w.whole in
      (w.place ∙ ap (λ (l : List ℕ). at + length l) a, w.bytes ∙ ap (over d₀ at) a)
  written_end {u = b ∷ t} w h = absurd (omega arith)

-- bytes of which the number is known have room
pub room_of : {t u : List ℕ} (at n : ℕ) → t ≡ u → at + length t ≤ n → at + length u ≤ n
room_of at n e h = subst (λ (l : List ℕ). at + length l ≤ n) e h

pub byte_room : {p : Piece} {b k : ℕ} (at n : ℕ) → p ≡ Byte b k → at + length (reads_as p) ≤ n → at < n
unfolding reads_as
byte_room {b = b} {k = k} at n e h = let g : at + length (reads_as (Byte b k)) ≤ n = room_of at n (ap reads_as e) h in omega arith

pub scalar_room : {p : Piece} {v k w : ℕ} (at n : ℕ) → p ≡ Scalar v k → w ≡ scalar_or v → at + length (reads_as p) ≤ n → at + length (enc_scalar w) ≤ n
unfolding reads_as
scalar_room {v = v} {k = k} at n e q h = rw q (room_of at n (ap reads_as e) h)

pub byte_reads : {p : Piece} {b k : ℕ} → p ≡ Byte b k → b ∷ [] ≡ reads_as p
unfolding reads_as
byte_reads e = rw e

pub scalar_reads : {p : Piece} {v k w : ℕ} → p ≡ Scalar v k → w ≡ scalar_or v → enc_scalar w ≡ reads_as p
unfolding reads_as
scalar_reads e q = rw (e, q)
