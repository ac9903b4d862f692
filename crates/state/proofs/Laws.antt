-- What the tests and counts of the state say in numbers.
use mathlib.Core.Path.{◌≡◌, ap, refl, sym, ◌∙◌}
use mathlib.Core.Bool.{Bool, true, false}
use Prim.Native.Nat.{ℕ, ◌+◌, ◌≤◌, ◌<◌, min}
use borrow.Author.Tests.{ltb-true, ltb-false, eqb-true, eq-eqb}
use Rattle.std.specs.Prelude.{not, eqb}
use Rattle.state.specs.declared.Progress.{Progress}
use Rattle.state.specs.Setters.{max_unfound, up_to, unfound_s, counted_s, may_begin, begun_s, begun_if, begin_s}

-- one more of a count, by the least of two
pub one_more_is : (n r : ℕ) → r ≡ min (n + 1) max_unfound → r ≡ up_to max_unfound n
unfolding up_to
one_more_is n r e = e

-- so counted, where the number is one more up to the greatest
pub counted : {n : ℕ} (s : Progress) → n ≡ up_to max_unfound s.unfound → unfound_s n s ≡ counted_s s
unfolding counted_s
counted s e = ap (λ (k : ℕ). unfound_s k s) e

pub begin_may : (s : Progress) → may_begin s ≡ true → s.begun < 100
begin_may s e = ltb-true s.begun 100 e

pub begin_not : (s : Progress) → may_begin s ≡ false → 100 ≤ s.begun
begin_not s e = ltb-false s.begun 100 e

-- what beginning a placeable makes of the state, where one more may be begun, and where not
pub begin_one : (s : Progress) → may_begin s ≡ true → begin_s s ≡ begun_s (s.begun + 1) s.dirty s
unfolding begin_s begun_if
begin_one s e = rw e

pub begin_none : (s : Progress) → may_begin s ≡ false → begin_s s ≡ s
unfolding begin_s begun_if
begin_none s e = rw e

-- what the test of a refusal's number says
pub refused_yes : {n : ℕ} {b : Bool} → b ≡ not (eqb n 0) → b ≡ true → n ≡ 0 → ⊥
refused_yes {n} is h e = let z : true ≡ false = sym h ∙ is ∙ rw (eq-eqb n 0 e) refl in cc

pub refused_no : {n : ℕ} {b : Bool} → b ≡ not (eqb n 0) → b ≡ false → n ≡ 0
refused_no {n} is h = eqb-true n 0 (not_false (eqb n 0) (sym is ∙ h))
  where
    not_false : (t : Bool) → not t ≡ false → t ≡ true
    not_false true e = refl
    not_false false e = cc
