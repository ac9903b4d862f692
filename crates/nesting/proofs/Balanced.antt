-- Texts by how many isolates are open before and after them. Pairs alone are not kept by joining, as a text that begins with a continuation byte could end a
-- mark; these are.
use mathlib.Core.Path.{◌≡◌, refl, subst}
use mathlib.Core.List.{[], ◌++◌}
use mathlib.Core.Bool.{Bool, true, false}
use Prim.Native.Nat.{ℕ, ◌+◌, ◌-◌, ◌≤◌, ◌<◌}
use native.Mathlib.Omega.{arith}
use lib.ListN.{length, take}
use lib.Seq.{take-nil, take-append-le, take-append-add, take_all, length-take-le}
use lib.Dec.{leb}
use borrow.Author.Tests.{leb-true, leb-false}
use Rattle.resolution.specs.Effect.{Bytes}
use Rattle.resolution.specs.Resolve.{fsi, pdi}
use Rattle.theorems.proofs.Written.{Joins}
use Rattle.nesting.specs.Marks.{begins, once, count_in, UnmarkedBytes, PairedBytes}
use Rattle.nesting.proofs.Counts.{Lead, lead_take, lead_append, count_fsi, count_pdi, count_take, count_short}

-- a text that leads from x open isolates to y, and never below none
pub record Isolates (x y : ℕ) (t : Bytes) : Type 0 where
  pub lead : Lead t
  pub never : (n : ℕ) → count_in pdi (take n t) ≤ x + count_in fsi (take n t)
  pub ends : x + count_in fsi t ≡ y + count_in pdi t

isolates_append : {x y z : ℕ} (a b : Bytes) → Isolates x y a → Isolates y z b → Isolates x z (a ++ b)
isolates_append {x} {y} {z} a b h k =
    let o = count_fsi a b k.lead in
    let c = count_pdi a b k.lead in
    let p = h.ends in
    let q = k.ends in
    record { lead = lead_append a b h.lead k.lead; never = λ n. go n (leb n (length a)) refl; ends = omega arith }
  where
    beyond : (j : ℕ) → count_in pdi (take (length a + j) (a ++ b)) ≤ x + count_in fsi (take (length a + j) (a ++ b))
    beyond j =
        let l = lead_take j b k.lead in
        let o = count_fsi a (take j b) l in
        let c = count_pdi a (take j b) l in
        let p = h.ends in
        let q = k.never j in
        rw (take-append-add a b j) (omega arith)

    go : (n : ℕ) (t : Bool) → leb n (length a) ≡ t → count_in pdi (take n (a ++ b)) ≤ x + count_in fsi (take n (a ++ b))
    go n true e = rw (take-append-le n a b (leb-true _ _ e)) (h.never n)
    go n false e =
        let l : length a < n = leb-false _ _ e in
        subst (λ (j : ℕ). count_in pdi (take j (a ++ b)) ≤ x + count_in fsi (take j (a ++ b))) (let r : length a + (n - length a) ≡ n = omega arith in r) (beyond (n - length a))

isolates_none : Isolates 0 0 []
unfolding count_in
isolates_none = record { lead = tt; never = λ n. rw (take-nil {A = ℕ} n) (omega arith); ends = omega arith }

-- with one more open around it
isolates_more : (t : Bytes) → Isolates 0 0 t → Isolates 1 1 t
isolates_more t h =
    let e = h.ends in
    record { lead = h.lead; never = λ n. let k = h.never n in omega arith; ends = omega arith }

-- what is shorter than a mark has none; three bytes, as either mark is
pdi_short : (t : Bytes) → length t < 3 → count_in pdi t ≡ 0
unfolding pdi
pdi_short t h = count_short pdi t h

isolates_three : (x y : ℕ) (m : Bytes) → length m ≡ 3 → Lead m → count_in pdi m ≤ x + count_in fsi m → x + count_in fsi m ≡ y + count_in pdi m → Isolates x y m
isolates_three x y m three l h e = record { lead = l; never = λ n. go n (leb 3 n) refl; ends = e }
  where
    go : (n : ℕ) (b : Bool) → leb 3 n ≡ b → count_in pdi (take n m) ≤ x + count_in fsi (take n m)
    go n true q = let k : 3 ≤ n = leb-true _ _ q in rw (take_all n m (omega arith)) h
    go n false q =
        let k : n < 3 = leb-false _ _ q in
        let short : length (take n m) ≡ n = length-take-le n m (omega arith) in
        let none : count_in pdi (take n m) ≡ 0 = pdi_short (take n m) (omega arith) in
        omega arith

isolates_fsi : Isolates 0 1 fsi
unfolding fsi pdi count_in begins once
isolates_fsi = isolates_three 0 1 fsi refl (λ h. omega arith) (omega arith) (omega arith)

isolates_pdi : Isolates 1 0 pdi
unfolding fsi pdi count_in begins once
isolates_pdi = isolates_three 1 0 pdi refl (λ h. omega arith) (omega arith) (omega arith)

-- what is asked of every text that resolution makes
abbrev pub Balanced : Bytes → Type 0
Balanced t = Isolates 0 0 t

pub balanced_joins : Joins Balanced
balanced_joins = record {
  none = isolates_none;
  both = λ a b h k. isolates_append a b h k;
  isolated = λ a h. isolates_append fsi (a ++ pdi) isolates_fsi (isolates_append a pdi (isolates_more a h) isolates_pdi);
}

pub balanced_unmarked : (t : Bytes) → Lead t → UnmarkedBytes t → Balanced t
balanced_unmarked t l u =
    let o = u.no_opening in
    let c = u.no_closing in
    record { lead = l; never = λ n. let k = count_take pdi n t in omega arith; ends = omega arith }

pub balanced_paired : (t : Bytes) → Balanced t → PairedBytes t
balanced_paired t h =
    let e = h.ends in
    record { prefix = λ n. let k = h.never n in omega arith; whole = omega arith }
