-- The entries of the table, and which of them a number uses.
use mathlib.Core.Path.{◌≡◌, refl, ap, sym}
use mathlib.Core.Bool.{Bool, true, false}
use mathlib.Core.List.{List, [], ◌∷◌}
use Prim.Native.Nat.{ℕ, zero, suc, ◌+◌, ◌%◌, ◌<◌, ◌≤◌}
use native.Mathlib.Nat.{not-suc-le-zero, le_of_suc-le-suc}
use native.Mathlib.Omega.{arith}
use lib.Dec.{ltb}
use lib.ListN.{length, get_or, get_or-eq_default}
use borrow.Author.Tests.{lt-ltb, le-ltb, ltb-true, ltb-false}
use Rattle.categories.specs.Held.{held, entry_of}

-- inside a list it does not matter what is read behind it
pub read_inside : {A : Type 0} (l : List A) (k : ℕ) (x y : A) → k < length l → get_or l k x ≡ get_or l k y
read_inside [] k x y h = absurd (not-suc-le-zero h)
read_inside (a ∷ l) zero x y h = refl
read_inside (a ∷ l) (suc k) x y h = read_inside l k x y (le_of_suc-le-suc h)

-- a line has 200 entries
line_long : (rule : ℕ) → rule < 8 → length (get_or held rule []) ≡ 200
unfolding held
line_long zero h = refl
line_long (suc zero) h = refl
line_long (suc (suc zero)) h = refl
line_long (suc (suc (suc zero))) h = refl
line_long (suc (suc (suc (suc zero)))) h = refl
line_long (suc (suc (suc (suc (suc zero))))) h = refl
line_long (suc (suc (suc (suc (suc (suc zero)))))) h = refl
line_long (suc (suc (suc (suc (suc (suc (suc zero))))))) h = refl
line_long (suc (suc (suc (suc (suc (suc (suc (suc r)))))))) h = absurd (omega arith)

pub line_entry : (rule at : ℕ) → rule < 8 → at < 200 → get_or (get_or held rule []) at 0 ≡ get_or (get_or held rule []) at 53
line_entry rule at h k = read_inside (get_or held rule []) at 0 53 (omega (arith, line_long rule h))

-- a rule set that the table does not have
pub no_line : (rule at : ℕ) → 8 ≤ rule → 53 ≡ get_or (get_or held rule []) at 53
unfolding held
no_line rule at h = sym (ap (λ (l : List ℕ). get_or l at 53) (get_or-eq_default held [] h))

pub entry_low : (n : ℕ) → n < 100 → entry_of n ≡ n
unfolding entry_of
entry_low n h = simp (lt-ltb n 100 h)

pub entry_high : (n : ℕ) → 100 ≤ n → entry_of n ≡ 100 + n % 100
unfolding entry_of
entry_high n h = simp (le-ltb n 100 h)

-- the entry of a number is one of a line's 200
pub entry_bound : (n : ℕ) → entry_of n < 200
entry_bound n = go (ltb n 100) refl
  where
    go : (t : Bool) → ltb n 100 ≡ t → entry_of n < 200
    go true e = let h : n < 100 = ltb-true n 100 e in omega (arith, entry_low n h)
    go false e = let h : 100 ≤ n = ltb-false n 100 e in omega (arith, entry_high n h)
