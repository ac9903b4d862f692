-- Laws of counting digits.
use mathlib.Core.Path.{◌≡◌, refl, ap, ◌∙◌}
use mathlib.Core.List.{List}
use mathlib.Core.Bool.{Bool, true, false}
use Prim.Native.Nat.{ℕ, ◌+◌, ◌≤◌, ◌<◌}
use native.Mathlib.Numerals.{add-one}
use native.Mathlib.Omega.{arith}
use mir.Val.{bool_byte}
use lib.ListN.{length, drop, get_or, drop_of_length-le}
use lib.Seq.{drop-cons}
use Rattle.decimals.specs.Bytes.{choose, digit}
use Rattle.literals.specs.Literal.{digit_count}

-- a turn of the loop that counts the digits, and its end
pub count_more : (s : List ℕ) (i : ℕ) → i < length s → digit_count (drop i s) ≡ choose (digit (get_or s i 0)) 1 0 + digit_count (drop (i + 1) s)
unfolding digit_count
count_more s i h = rw (drop-cons s i 0 h, add-one)

pub count_end : (s : List ℕ) (i : ℕ) → length s ≤ i → digit_count (drop i s) ≡ 0
unfolding digit_count
count_end s i h = rw (drop_of_length-le s h)

pub one_or_none : (t : Bool) → choose t 1 0 ≤ 1
one_or_none true = omega arith
one_or_none false = omega arith

-- a test as a number
pub digit_counted : (b : ℕ) {n : ℕ} {t : Bool} → n ≡ bool_byte t → t ≡ digit b → n ≡ choose (digit b) 1 0
digit_counted b {n} {t} h e = h ∙ byte t ∙ ap (λ (x : Bool). choose x 1 0) e
  where
    byte : (x : Bool) → bool_byte x ≡ choose x 1 0
    byte true = refl
    byte false = refl
