-- Laws of writing numbers and bytes.
use mathlib.Core.Path.{◌≡◌, refl, ap, sym, ◌∙◌}
use mathlib.Core.List.{List, append_assoc, ◌++◌}
use Prim.Native.Nat.{ℕ, ◌+◌, ◌-◌, ◌*◌, ◌/◌, ◌%◌, ◌≤◌, ◌<◌}
use native.Mathlib.Omega.{arith}
use native.Mathlib.Numerals.{add-two}
use mathlib.Core.Bool.{Bool, true, false}
use lib.ListN.{drop, length, take}
use lib.Seq.{sets, paste, drop-drop, sets-eq, length-sets, take-length}
use lib.Dec.{leb}
use borrow.Author.Tests.{le-leb, lt-leb, leb-true, leb-false}
use Rattle.records.specs.Bytes.{be, to_be}
use Rattle.records.specs.Relations.Write.{over, over_if, over_fit}

module _ (d : List ℕ) (at : ℕ) (bs : List ℕ) where
  -- what fits is over what stood there; what does not changes nothing
  pub fits_over : at + length bs ≤ length d → over_fit d at bs ≡ over d at bs
  unfolding over_fit over_if
  fits_over h = rw (le-leb (at + length bs) (length d) h)

  pub not_over : length d < at + length bs → over_fit d at bs ≡ d
  unfolding over_fit over_if
  not_over h = rw (lt-leb (at + length bs) (length d) h)

  -- the library's two ways to write
  pub fits_sets : at + length bs ≤ length d → over_fit d at bs ≡ sets d at bs
  unfolding over
  fits_sets h = fits_over h ∙ sym (sets-eq bs d at h)

  pub fits_paste : at + length bs ≤ length d → over_fit d at bs ≡ paste d at bs (length bs)
  unfolding over
  fits_paste h = fits_over h ∙ rw (take-length bs)

  pub fits_between : at + length bs ≤ length d → over_fit d at bs ≡ take at d ++ (bs ++ drop (length bs) (drop at d))
  unfolding over
  fits_between h = fits_over h ∙ append_assoc (take at d) bs (drop (at + length bs) d) ∙ rw (drop-drop (length bs) at d)

  -- as the code's test says it
  module _ {t : Bool} (is : t ≡ leb (at + length bs) (length d)) where
    pub stays : t ≡ false → d ≡ over_fit d at bs
    stays h = sym (not_over (leb-false (at + length bs) (length d) (sym is ∙ h)))

  pub length_fit : length (over_fit d at bs) ≡ length d
  length_fit = go (leb (at + length bs) (length d)) refl
    where
      go : (t : Bool) → leb (at + length bs) (length d) ≡ t → length (over_fit d at bs) ≡ length d
      go true h = let l = leb-true (at + length bs) (length d) h in ap length (fits_sets l) ∙ length-sets d at bs
      go false h = ap length (not_over (leb-false (at + length bs) (length d) h))

-- four bytes are two and two
pub halves : (d : List ℕ) (at v : ℕ) → sets (sets d at (to_be 2 (v / 65536))) (at + 2) (to_be 2 (v % 65536)) ≡ sets d at (to_be 4 v)
unfolding to_be
halves d at v =
    let e1 : v / 65536 / 256 % 256 ≡ v / 16777216 % 256 = omega arith in
    let e2 : v / 65536 / 1 % 256 ≡ v / 65536 % 256 = omega arith in
    let e3 : v % 65536 / 256 % 256 ≡ v / 256 % 256 = omega arith in
    let e4 : v % 65536 / 1 % 256 ≡ v / 1 % 256 = omega arith in
    simp (e1, e2, e3, e4, add-two)

pub four_written : (d : List ℕ) (at v : ℕ) {a b : List ℕ} → at + 4 ≤ length d → a ≡ over_fit d at (to_be 2 (v / 65536)) → b ≡ over_fit a (at + 2) (to_be 2 (v % 65536)) → b ≡ over_fit d at (to_be 4 v)
unfolding to_be
four_written d at v {a} {b} h p q =
    let l : length a ≡ length d = ap length p ∙ length_fit d at (to_be 2 (v / 65536)) in
    let x : a ≡ sets d at (to_be 2 (v / 65536)) = p ∙ fits_sets d at (to_be 2 (v / 65536)) (omega arith) in
    q ∙ fits_sets a (at + 2) (to_be 2 (v % 65536)) (omega arith) ∙ ap (λ (t : List ℕ). sets t (at + 2) (to_be 2 (v % 65536))) x ∙ halves d at v ∙ sym (fits_sets d at (to_be 4 v) h)

-- what is written is read
pub be_to_be_2 : (v : ℕ) → v < 65536 → be (to_be 2 v) ≡ v
unfolding to_be
be_to_be_2 v h = omega arith

pub be_to_be_4 : (v : ℕ) → v < 4294967296 → be (to_be 4 v) ≡ v
unfolding to_be
be_to_be_4 v h =
    let e1 : v / 65536 / 256 % 256 ≡ v / 16777216 % 256 = omega arith in
    let e2 : v / 65536 % 256 ≡ v / 65536 - v / 65536 / 256 * 256 = omega arith in
    let e3 : v % 65536 / 256 % 256 ≡ v / 256 % 256 = omega arith in
    let x1 : v / 65536 / 256 % 256 * 256 + v / 65536 % 256 ≡ v / 65536 = omega arith in
    let x2 : v % 65536 / 256 % 256 * 256 + v % 65536 % 256 ≡ v % 65536 = omega arith in
    let x3 : v / 65536 * 65536 + v % 65536 ≡ v = omega arith in
    let x4 : v % 65536 % 256 ≡ v / 1 % 256 = omega arith in
    omega arith
