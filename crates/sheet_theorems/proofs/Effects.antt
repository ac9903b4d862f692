-- One effect, parted into what it makes of a machine and what room it needs.
use mathlib.Core.Path.{◌≡◌, refl, ap, sym, ◌∙◌}
use mathlib.Core.List.{[], ◌∷◌, ◌++◌}
use Prim.Native.Nat.{ℕ, zero, suc, ◌+◌, ◌-◌, ◌≤◌, max}
use lib.ListN.{length}
use borrow.Author.Tests.{le-leb}
use Rattle.records.specs.Errors.{enc_errors}
use Rattle.resolution.specs.Effect.{Bytes, Effect, put, report, begin, expand, unfound, open_text, keep_text, free, merged}
use Rattle.resolution.specs.Exec.{Machine, Limits, ran, allow_if, allow, list_limit, put_text, put_work, put_at, listed, step}
use Rattle.theorems.proofs.Runs.{same_machine, allowed}
use Rattle.theorems.proofs.Within.{allowed_fits}

-- the machine after text, where so many workspace texts are open
abbrev pub text_after : ℕ → Bytes → Machine → Machine
text_after zero b m = record { written = m.written ++ b; errors = m.errors; nest = m.nest; used = m.used; high = m.high; begun = m.begun; expanded = m.expanded; unfounds = m.unfounds }
text_after (suc k) b m = record { written = m.written; errors = m.errors; nest = m.nest; used = m.used + length b; high = max m.high (m.used + length b); begun = m.begun; expanded = m.expanded; unfounds = m.unfounds }

-- the machine after an effect
abbrev pub effect_after : Effect → Machine → Machine
effect_after (put b) m = text_after m.nest b m
effect_after (report e) m = record { written = m.written; errors = m.errors ++ (e ∷ []); nest = m.nest; used = m.used; high = m.high; begun = m.begun; expanded = m.expanded; unfounds = m.unfounds }
effect_after begin m = record { written = m.written; errors = m.errors; nest = m.nest; used = m.used; high = m.high; begun = suc m.begun; expanded = m.expanded; unfounds = m.unfounds }
effect_after expand m = record { written = m.written; errors = m.errors; nest = m.nest; used = m.used; high = m.high; begun = m.begun; expanded = suc m.expanded; unfounds = m.unfounds }
effect_after unfound m = record { written = m.written; errors = m.errors; nest = m.nest; used = m.used; high = m.high; begun = m.begun; expanded = m.expanded; unfounds = suc m.unfounds }
effect_after open_text m = record { written = m.written; errors = m.errors; nest = suc m.nest; used = m.used; high = m.high; begun = m.begun; expanded = m.expanded; unfounds = m.unfounds }
effect_after keep_text m = record { written = m.written; errors = m.errors; nest = m.nest - 1; used = m.used; high = m.high; begun = m.begun; expanded = m.expanded; unfounds = m.unfounds }
effect_after (free k) m = record { written = m.written; errors = m.errors; nest = m.nest; used = m.used - k; high = m.high; begun = m.begun; expanded = m.expanded; unfounds = m.unfounds }
effect_after (merged k) m = m

-- the room that it needs
abbrev pub TextNeeds : Limits → ℕ → Bytes → Machine → Type 0
TextNeeds L zero b m = length m.written + length b ≤ L.text_len
TextNeeds L (suc k) b m = m.used + length b ≤ L.work_len

abbrev pub Needs : Limits → Effect → Machine → Type 0
Needs L (put b) m = TextNeeds L m.nest b m
Needs L (report e) m = length (enc_errors (m.errors ++ (e ∷ []))) ≤ list_limit L.list_len
Needs L begin m = Unit {0}
Needs L expand m = Unit {0}
Needs L unfound m = Unit {0}
Needs L open_text m = Unit {0}
Needs L keep_text m = Unit {0}
Needs L (free k) m = Unit {0}
Needs L (merged k) m = step L (merged k) m ≡ ran m

allow_fits : (n k r : ℕ) (m : Machine) → n ≤ k → allow n k r m ≡ ran m
unfolding allow allow_if
allow_fits n k r m h = rw (le-leb n k h)

-- a merge is allowed or not whatever the machine and the lengths are
pub merge_alike : (L L' : Limits) (k : ℕ) (m n : Machine) → step L (merged k) m ≡ ran m → step L' (merged k) n ≡ ran n
unfolding step
merge_alike L L' k m n h = allow_fits _ _ 17 n (allowed_fits _ _ _ m m h)

module _ (L : Limits) where
  -- a step that is not refused had its room, and led there
  text_took : (k : ℕ) (b : Bytes) (m m' : Machine) → put_at L b m k ≡ ran m' → TextNeeds L k b m × (text_after k b m ≡ m')
  unfolding put_at put_text put_work
  text_took zero b m m' h = (allowed_fits _ _ _ _ m' h, allowed _ _ _ _ m' h)
  text_took (suc k) b m m' h = (allowed_fits _ _ _ _ m' h, allowed _ _ _ _ m' h)

  pub step_took : (e : Effect) (m m' : Machine) → step L e m ≡ ran m' → Needs L e m × (effect_after e m ≡ m')
  unfolding step listed
  step_took (put b) m m' h = text_took m.nest b m m' h
  step_took (report e) m m' h = (allowed_fits _ _ _ _ m' h, allowed _ _ _ _ m' h)
  step_took begin m m' h = (tt, same_machine _ m' h)
  step_took expand m m' h = (tt, same_machine _ m' h)
  step_took unfound m m' h = (tt, same_machine _ m' h)
  step_took open_text m m' h = (tt, same_machine _ m' h)
  step_took keep_text m m' h = (tt, same_machine _ m' h)
  step_took (free k) m m' h = (tt, same_machine _ m' h)
  step_took (merged k) m m' h = (h ∙ ap ran (sym (allowed _ _ _ _ m' h)), allowed _ _ _ _ m' h)

  -- with its room it is not refused
  text_goes : (k : ℕ) (b : Bytes) (m : Machine) → TextNeeds L k b m → put_at L b m k ≡ ran (text_after k b m)
  unfolding put_at put_text put_work
  text_goes zero b m h = allow_fits _ _ 15 _ h
  text_goes (suc k) b m h = allow_fits _ _ 16 _ h

  pub step_goes : (e : Effect) (m : Machine) → Needs L e m → step L e m ≡ ran (effect_after e m)
  unfolding step listed
  step_goes (put b) m h = text_goes m.nest b m h
  step_goes (report e) m h = allow_fits _ _ 7 _ h
  step_goes begin m h = refl
  step_goes expand m h = refl
  step_goes unfound m h = refl
  step_goes open_text m h = refl
  step_goes keep_text m h = refl
  step_goes (free k) m h = refl
  step_goes (merged k) m h = h
