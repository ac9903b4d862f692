-- Laws of runs: a run of two traces, and what a run that is not refused has counted and listed.
use mathlib.Core.Path.{◌≡◌, refl, ap, sym, ◌∙◌, subst}
use mathlib.Core.List.{[], ◌∷◌, ◌++◌, append_assoc, append-nil}
use mathlib.Core.Bool.{Bool, true, false}
use Prim.Native.Nat.{ℕ, zero, suc, ◌+◌, ◌<◌}
use native.Mathlib.Omega.{arith}
use lib.Dec.{leb}
use borrow.Author.Tests.{leb-false}
use Rattle.resolution.specs.Effect.{Bytes, Effect, put, report, begin, expand, unfound, open_text, keep_text, free, merged, Trace}
use Rattle.resolution.specs.Exec.{Machine, Limits, Ran, ran, refused, allow_if, allow, put_text, put_work, put_at, listed, step, and_then, exec}
use Rattle.theorems.specs.Finished.{reported, reports}
use Rattle.theorems.proofs.Tally.{is_begin, is_expand, is_unfound, tally}

pub not_refused : (r : ℕ) (m : Machine) → refused r ≡ ran m → ⊥
not_refused r m h = let z : ◌≡◌ {A = ℕ} 0 1 = cc in omega arith

pub same_machine : (m m' : Machine) → ran m ≡ ran m' → m ≡ m'
same_machine m m' h = cc

pub same_refusal : (c d : ℕ) → refused c ≡ refused d → c ≡ d
same_refusal c d h = cc

pub allowed : (n k r : ℕ) (m m' : Machine) → allow n k r m ≡ ran m' → m ≡ m'
unfolding allow allow_if
allowed n k r m m' = go (leb n k)
  where
    go : (b : Bool) → allow_if b r m ≡ ran m' → m ≡ m'
    go true h = same_machine m m' h
    go false h = absurd (not_refused r m' h)

-- what was refused did not fit
pub refused_fits : (n k r c : ℕ) (m : Machine) → allow n k r m ≡ refused c → (r ≡ c) × (k < n)
unfolding allow allow_if
refused_fits n k r c m = go (leb n k) refl
  where
    go : (b : Bool) → leb n k ≡ b → allow_if b r m ≡ refused c → (r ≡ c) × (k < n)
    go true q h = absurd (not_refused c m (sym h))
    go false q h = (same_refusal r c h, leb-false n k q)

-- a run of two traces
pub exec_append : (L : Limits) (a b : Trace) (m : Machine) → exec L (a ++ b) m ≡ and_then (exec L a m) (λ n. exec L b n)
unfolding exec and_then
exec_append L [] b m = refl
exec_append L (e ∷ a) b m = go (step L e m) (λ n. exec_append L a b n)
  where
    go : (r : Ran) → ((n : Machine) → exec L (a ++ b) n ≡ and_then (exec L a n) (λ n. exec L b n))
        → and_then r (λ n. exec L (a ++ b) n) ≡ and_then (and_then r (λ n. exec L a n)) (λ n. exec L b n)
    go (ran n) ih = ih n
    go (refused n) ih = refl

-- the machine between two traces
pub record Between (L : Limits) (a b : Trace) (m m' : Machine) : Type 0 where
  pub mid : Machine
  pub left : exec L a m ≡ ran mid
  pub right : exec L b mid ≡ ran m'

pub between : (L : Limits) (a b : Trace) (m m' : Machine) → exec L (a ++ b) m ≡ ran m' → Between L a b m m'
unfolding and_then
between L a b m m' h = go (exec L a m) refl (sym (exec_append L a b m) ∙ h)
  where
    go : (r : Ran) → exec L a m ≡ r → and_then r (λ n. exec L b n) ≡ ran m' → Between L a b m m'
    go (ran n) e k = record { mid = n; left = e; right = k }
    go (refused n) e k = absurd (not_refused n m' k)

-- the machine after the first effect
pub record Onward (L : Limits) (e : Effect) (t : Trace) (m m' : Machine) : Type 0 where
  pub mid : Machine
  pub first : step L e m ≡ ran mid
  pub rest : exec L t mid ≡ ran m'

pub onward : (L : Limits) (e : Effect) (t : Trace) (m m' : Machine) → exec L (e ∷ t) m ≡ ran m' → Onward L e t m m'
unfolding exec and_then
onward L e t m m' h = go (step L e m) refl h
  where
    go : (r : Ran) → step L e m ≡ r → and_then r (λ n. exec L t n) ≡ ran m' → Onward L e t m m'
    go (ran n) q k = record { mid = n; first = q; rest = k }
    go (refused n) q k = absurd (not_refused n m' k)

pub one_step : (L : Limits) (e : Effect) (m m' : Machine) → exec L (e ∷ []) m ≡ ran m' → step L e m ≡ ran m'
unfolding exec
one_step L e m m' h = let o : Onward L e [] m m' = onward L e [] m m' h in o.first ∙ o.rest

pub exec_step : (L : Limits) (e : Effect) (t : Trace) (m n : Machine) → step L e m ≡ ran n → exec L (e ∷ t) m ≡ exec L t n
unfolding exec and_then
exec_step L e t m n h = rw h

-- what one effect counts and lists
pub record Counted (e : Effect) (m m' : Machine) : Type 0 where
  pub begun : m'.begun ≡ is_begin e + m.begun
  pub expanded : m'.expanded ≡ is_expand e + m.expanded
  pub unfounds : m'.unfounds ≡ is_unfound e + m.unfounds
  pub errors : m'.errors ≡ m.errors ++ reported e

-- an effect that lists nothing
unlisted : (e : Effect) (m n m' : Machine) → n ≡ m' → reported e ≡ [] → n.errors ≡ m.errors
    → n.begun ≡ is_begin e + m.begun → n.expanded ≡ is_expand e + m.expanded → n.unfounds ≡ is_unfound e + m.unfounds → Counted e m m'
unlisted e m n m' q r l b x u =
    subst (λ z. Counted e m z) q
    (record { begun = b; expanded = x; unfounds = u; errors = l ∙ sym (append-nil m.errors) ∙ ap (λ y. m.errors ++ y) (sym r) })

put_counted : (L : Limits) (b : Bytes) (n : ℕ) (m m' : Machine) → put_at L b m n ≡ ran m' → Counted (put b) m m'
unfolding put_at put_text put_work
put_counted L b zero m m' h = unlisted _ m _ m' (allowed _ _ _ _ m' h) refl refl (omega arith) (omega arith) (omega arith)
put_counted L b (suc n) m m' h = unlisted _ m _ m' (allowed _ _ _ _ m' h) refl refl (omega arith) (omega arith) (omega arith)

-- what a step that is not refused counts and lists
pub step_counted : (L : Limits) (e : Effect) (m m' : Machine) → step L e m ≡ ran m' → Counted e m m'
unfolding step listed
step_counted L (put b) m m' h = put_counted L b m.nest m m' h
step_counted L (report e) m m' h =
    subst (λ z. Counted (report e) m z) (allowed _ _ _ _ m' h)
    (record { begun = omega arith; expanded = omega arith; unfounds = omega arith; errors = refl })
step_counted L begin m m' h = unlisted _ m _ m' (same_machine _ m' h) refl refl (omega arith) (omega arith) (omega arith)
step_counted L expand m m' h = unlisted _ m _ m' (same_machine _ m' h) refl refl (omega arith) (omega arith) (omega arith)
step_counted L unfound m m' h = unlisted _ m _ m' (same_machine _ m' h) refl refl (omega arith) (omega arith) (omega arith)
step_counted L open_text m m' h = unlisted _ m _ m' (same_machine _ m' h) refl refl (omega arith) (omega arith) (omega arith)
step_counted L keep_text m m' h = unlisted _ m _ m' (same_machine _ m' h) refl refl (omega arith) (omega arith) (omega arith)
step_counted L (free n) m m' h = unlisted _ m _ m' (same_machine _ m' h) refl refl (omega arith) (omega arith) (omega arith)
step_counted L (merged n) m m' h = unlisted _ m _ m' (allowed _ _ _ _ m' h) refl refl (omega arith) (omega arith) (omega arith)

-- what a run counts and lists: the trace's own
pub record Tallied (t : Trace) (m m' : Machine) : Type 0 where
  pub begun : m'.begun ≡ tally is_begin t + m.begun
  pub expanded : m'.expanded ≡ tally is_expand t + m.expanded
  pub unfounds : m'.unfounds ≡ tally is_unfound t + m.unfounds
  pub errors : m'.errors ≡ m.errors ++ reports t

-- counts are those of the trace; the errors listed are the trace's reports, in order
pub exec_tallied : (L : Limits) (t : Trace) (m m' : Machine) → exec L t m ≡ ran m' → Tallied t m m'
unfolding exec
exec_tallied L [] m m' h =
    subst (λ x. Tallied [] m x) (same_machine m m' h)
    (record { begun = omega arith; expanded = omega arith; unfounds = omega arith; errors = sym (append-nil _) })
exec_tallied L (e ∷ t) m m' h =
    let o : Onward L e t m m' = onward L e t m m' h in
    let c : Counted e m o.mid = step_counted L e m o.mid o.first in
    let r : Tallied t o.mid m' = exec_tallied L t o.mid m' o.rest in
    record {
      begun = omega (arith, c.begun, r.begun);
      expanded = omega (arith, c.expanded, r.expanded);
      unfounds = omega (arith, c.unfounds, r.unfounds);
      errors = r.errors ∙ rw c.errors (append_assoc m.errors (reported e) (reports t));
    }
