-- Counting marks in a joining of texts: one that begins with no continuation byte adds no mark at the seam.
use mathlib.Core.Path.{◌≡◌, refl, ap, ◌∙◌}
use mathlib.Core.List.{List, [], ◌∷◌, ◌++◌}
use mathlib.Core.Bool.{Bool, true, false, ◌&&◌, false≢true}
use Prim.Native.Nat.{ℕ, zero, suc, ◌+◌, ◌≤◌, ◌<◌}
use native.Mathlib.Omega.{arith}
use lib.ListN.{length, take}
use lib.Dec.{eqb, leb}
use borrow.Author.Tests.{eqb-true, ne_eqb, leb-true, leb-false, le-ltb, lt-ltb}
use Rattle.decimals.specs.Bytes.{run}
use Rattle.decimals.proofs.Run.{run_stays}
use Rattle.rules.specs.Rules.{utf8_first, utf8_step, is_utf8}
use Rattle.rules.proofs.WellFormed.{utf8_stays}
use Rattle.records.specs.Valid.{All}
use Rattle.layout.proofs.Octets.{and_left, and_right}
use Rattle.resolution.specs.Effect.{Bytes}
use Rattle.resolution.specs.Resolve.{fsi, pdi}
use Rattle.theorems.proofs.Ascii.{Ascii}
use Rattle.nesting.specs.Marks.{begins, once, count_in, UnmarkedBytes}

-- a text that begins with no continuation byte
abbrev pub Lead : Bytes → Type 0
Lead [] = Unit {0}
Lead (b ∷ t) = 0x80 ≤ b → 0xC0 ≤ b

abbrev Continuation : ℕ → Type 0
Continuation y = (0x80 ≤ y) × (y < 0xC0)

pub lead_take : (n : ℕ) (t : Bytes) → Lead t → Lead (take n t)
lead_take zero t h = tt
lead_take (suc n) [] h = tt
lead_take (suc n) (b ∷ t) h = h

pub lead_append : (a b : Bytes) → Lead a → Lead b → Lead (a ++ b)
lead_append [] b h k = k
lead_append (x ∷ a) b h k = h

-- well-formed texts are such
continuation_out : (b : ℕ) → 0x80 ≤ b → b < 0xC0 → utf8_step 0 b ≡ 8
unfolding utf8_step utf8_first
continuation_out b h k = rw (le-ltb b 0x80 h, lt-ltb b 0xC2 (omega arith))

pub utf8_lead : (t : Bytes) → is_utf8 t ≡ true → Lead t
unfolding is_utf8 run
utf8_lead [] h = tt
utf8_lead (b ∷ t) h = λ l. go (leb 0xC0 b) refl l
  where
    go : (x : Bool) → leb 0xC0 b ≡ x → 0x80 ≤ b → 0xC0 ≤ b
    go true e l = leb-true _ _ e
    go false e l =
        let r : run utf8_step (utf8_step 0 b) t ≡ 0 = eqb-true _ _ h in
        let z : run utf8_step (utf8_step 0 b) t ≡ 8 = ap (λ (q : ℕ). run utf8_step q t) (continuation_out b l (leb-false _ _ e)) ∙ run_stays utf8_step 8 utf8_stays t in
        absurd (omega arith)

pub ascii_lead : (t : Bytes) → Ascii t → Lead t
ascii_lead [] h = tt
ascii_lead (b ∷ t) h = λ l. let k = h.0 in absurd (omega arith)

-- a mark is a byte and continuation bytes
module _ (x : ℕ) (m : Bytes) (inside : All Continuation m) where
  begins_seam : (m : Bytes) → All Continuation m → (a b : Bytes) → Lead b → begins m (a ++ b) ≡ begins m a
  unfolding begins
  begins_seam [] i a b h = refl
  begins_seam (y ∷ m) i [] [] h = refl
  begins_seam (y ∷ m) i [] (b ∷ t) h = rw (ne_eqb y b (λ e. let p = i.0 in let k : 0xC0 ≤ b = h (omega arith) in omega arith))
  begins_seam (y ∷ m) i (d ∷ a) b h = ap (λ (z : Bool). eqb y d && z) (begins_seam m i.1 a b h)

  -- marks of a joining are those of its parts
  pub count_append : (a b : Bytes) → Lead b → count_in (x ∷ m) (a ++ b) ≡ count_in (x ∷ m) a + count_in (x ∷ m) b
  unfolding count_in begins
  count_append [] b h = omega arith
  count_append (d ∷ a) b h =
      let k = count_append a b h in
      rw (begins_seam m inside a b h) (omega arith)

fsi_inside : All Continuation (0x81 ∷ 0xa8 ∷ [])
fsi_inside = ((omega arith, omega arith), ((omega arith, omega arith), tt))

pdi_inside : All Continuation (0x81 ∷ 0xa9 ∷ [])
pdi_inside = ((omega arith, omega arith), ((omega arith, omega arith), tt))

pub count_fsi : (a b : Bytes) → Lead b → count_in fsi (a ++ b) ≡ count_in fsi a + count_in fsi b
unfolding fsi
count_fsi a b h = count_append 0xe2 (0x81 ∷ 0xa8 ∷ []) fsi_inside a b h

pub count_pdi : (a b : Bytes) → Lead b → count_in pdi (a ++ b) ≡ count_in pdi a + count_in pdi b
unfolding pdi
count_pdi a b h = count_append 0xe2 (0x81 ∷ 0xa9 ∷ []) pdi_inside a b h

-- a prefix has no more marks than the whole
begins_take : (m : List ℕ) (n : ℕ) (t : List ℕ) → begins m (take n t) ≡ true → begins m t ≡ true
unfolding begins
begins_take [] n t h = refl
begins_take (x ∷ m) zero t h = absurd (false≢true h)
begins_take (x ∷ m) (suc n) [] h = h
begins_take (x ∷ m) (suc n) (b ∷ t) h = rw (and_left (eqb x b) (begins m (take n t)) h) (begins_take m n t (and_right (eqb x b) _ h))

once_le : (a b : Bool) → (a ≡ true → b ≡ true) → once a ≤ once b
unfolding once
once_le false b h = omega arith
once_le true false h = absurd (false≢true (h refl))
once_le true true h = omega arith

pub count_take : (m : List ℕ) (n : ℕ) (t : List ℕ) → count_in m (take n t) ≤ count_in m t
unfolding count_in
count_take m zero t = omega arith
count_take m (suc n) [] = omega arith
count_take m (suc n) (b ∷ t) =
    let h = once_le (begins m (b ∷ take n t)) (begins m (b ∷ t)) (begins_take m (suc n) (b ∷ t)) in
    let k = count_take m n t in
    omega arith

-- a text that is shorter than a mark has none
and_false : (b : Bool) → (b && false) ≡ false
and_false true = refl
and_false false = refl

begins_short : (m t : List ℕ) → length t < length m → begins m t ≡ false
unfolding begins
begins_short [] t h = absurd (omega arith)
begins_short (x ∷ m) [] h = refl
begins_short (x ∷ m) (y ∷ t) h = rw (begins_short m t (omega arith)) (and_false (eqb x y))

pub count_short : (m t : List ℕ) → length t < length m → count_in m t ≡ 0
unfolding count_in once
count_short m [] h = refl
count_short m (y ∷ t) h = rw (begins_short m (y ∷ t) h) (let k = count_short m t (omega arith) in omega arith)

-- ASCII has none
ascii_none : (m t : Bytes) → Ascii t → count_in (0xe2 ∷ m) t ≡ 0
unfolding count_in begins once
ascii_none m [] h = refl
ascii_none m (b ∷ t) h =
    let l : b < 128 = h.0 in
    rw (ne_eqb 0xe2 b (λ e. omega arith)) (let k = ascii_none m t h.1 in omega arith)

pub ascii_unmarked : (t : Bytes) → Ascii t → UnmarkedBytes t
unfolding fsi pdi
ascii_unmarked t h = record { no_opening = ascii_none _ t h; no_closing = ascii_none _ t h }
