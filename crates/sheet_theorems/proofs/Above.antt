-- A trace run by a machine with nothing before it, and by one with something before it: where one runs to the end, so does the other, if there is room,
-- and to the same behind what was before.
use mathlib.Core.Path.{◌≡◌, refl, ap, sym, subst, ◌∙◌}
use mathlib.Core.List.{List, [], ◌∷◌, ◌++◌, append_assoc, append-nil}
use Prim.Native.Nat.{ℕ, zero, suc, ◌+◌, ◌≤◌, max}
use native.Mathlib.Omega.{arith}
use lib.ListN.{length, length-append}
use Rattle.records.specs.Encode.{enc_all}
use Rattle.records.specs.Errors.{Error, enc_error, enc_errors}
use Rattle.resolution.specs.Effect.{Bytes, Effect, put, report, begin, expand, unfound, open_text, keep_text, free, merged, Trace}
use Rattle.resolution.specs.Exec.{Machine, Limits, ran, list_limit, exec, start}
use Rattle.theorems.specs.Finished.{reports}
use Rattle.theorems.proofs.Runs.{same_machine, Onward, onward, exec_step, exec_tallied}
use Rattle.texts.proofs.ErrorList.{list_size}
use Rattle.sheet_theorems.specs.ClaimsJoining.{beside}
use Rattle.sheet_theorems.proofs.Effects.{text_after, effect_after, TextNeeds, Needs, merge_alike, step_took, step_goes}

-- records one behind the other, and their list's length
pub records_append : (l k : List Error) → enc_all enc_error (l ++ k) ≡ enc_all enc_error l ++ enc_all enc_error k
unfolding enc_all
records_append [] k = refl
records_append (e ∷ l) k = ap (λ (x : Bytes). enc_error e ++ x) (records_append l k) ∙ sym (append_assoc (enc_error e) (enc_all enc_error l) (enc_all enc_error k))

pub errors_joined : (l k : List Error) → 5 + length (enc_errors (l ++ k)) ≡ length (enc_errors l) + length (enc_errors k)
errors_joined l k =
    omega (arith, list_size k, list_size l, list_size (l ++ k), ap length (records_append l k), length-append (enc_all enc_error l) (enc_all enc_error k))

-- n is m with what base had before
pub record Above (base m n : Machine) : Type 0 where
  pub written : n.written ≡ base.written ++ m.written
  pub errors : n.errors ≡ base.errors ++ m.errors
  pub nest : n.nest ≡ m.nest
  pub used : n.used ≡ m.used
  pub high : n.high ≡ max base.high m.high
  pub begun : n.begun ≡ base.begun + m.begun
  pub expanded : n.expanded ≡ base.expanded + m.expanded
  pub unfounds : n.unfounds ≡ base.unfounds + m.unfounds

pub is_beside : (base m n : Machine) → Above base m n → n ≡ beside base m
unfolding beside
is_beside base m n a = λ i. record {
  written = a.written i;
  errors = a.errors i;
  nest = a.nest i;
  used = a.used i;
  high = a.high i;
  begun = a.begun i;
  expanded = a.expanded i;
  unfounds = a.unfounds i;
}

-- nothing open and nothing in use: the machine is its own base
pub from_start : (n : Machine) → n.nest ≡ 0 → n.used ≡ 0 → Above n start n
unfolding start
from_start n z u = record {
  written = sym (append-nil n.written);
  errors = sym (append-nil n.errors);
  nest = z;
  used = u;
  high = omega arith;
  begun = omega arith;
  expanded = omega arith;
  unfounds = omega arith;
}

module _ (base : Machine) where
  -- an effect keeps one above the other
  text_above : (k : ℕ) (b : Bytes) (m n : Machine) → Above base m n → Above base (text_after k b m) (text_after k b n)
  text_above zero b m n a = record {
    written = ap (λ (x : Bytes). x ++ b) a.written ∙ append_assoc base.written m.written b;
    errors = a.errors;
    nest = a.nest;
    used = a.used;
    high = a.high;
    begun = a.begun;
    expanded = a.expanded;
    unfounds = a.unfounds;
  }
  text_above (suc k) b m n a = record {
    written = a.written;
    errors = a.errors;
    nest = a.nest;
    used = omega (arith, a.used);
    high = omega (arith, a.used, a.high);
    begun = a.begun;
    expanded = a.expanded;
    unfounds = a.unfounds;
  }

  above_report : (e : Error) (m n : Machine) → Above base m n → n.errors ++ (e ∷ []) ≡ base.errors ++ (m.errors ++ (e ∷ []))
  above_report e m n a = ap (λ (x : List Error). x ++ (e ∷ [])) a.errors ∙ append_assoc base.errors m.errors (e ∷ [])

  effect_above : (e : Effect) (m n : Machine) → Above base m n → Above base (effect_after e m) (effect_after e n)
  effect_above (put b) m n a = subst (λ (k : ℕ). Above base (text_after m.nest b m) (text_after k b n)) (sym a.nest) (text_above m.nest b m n a)
  effect_above (report e) m n a = record {
    written = a.written;
    errors = above_report e m n a;
    nest = a.nest;
    used = a.used;
    high = a.high;
    begun = a.begun;
    expanded = a.expanded;
    unfounds = a.unfounds;
  }
  effect_above begin m n a = record { written = a.written; errors = a.errors; nest = a.nest; used = a.used; high = a.high; begun = omega (arith, a.begun); expanded = a.expanded; unfounds = a.unfounds }
  effect_above expand m n a = record { written = a.written; errors = a.errors; nest = a.nest; used = a.used; high = a.high; begun = a.begun; expanded = omega (arith, a.expanded); unfounds = a.unfounds }
  effect_above unfound m n a = record { written = a.written; errors = a.errors; nest = a.nest; used = a.used; high = a.high; begun = a.begun; expanded = a.expanded; unfounds = omega (arith, a.unfounds) }
  effect_above open_text m n a = record { written = a.written; errors = a.errors; nest = ap suc a.nest; used = a.used; high = a.high; begun = a.begun; expanded = a.expanded; unfounds = a.unfounds }
  effect_above keep_text m n a = record { written = a.written; errors = a.errors; nest = omega (arith, a.nest); used = a.used; high = a.high; begun = a.begun; expanded = a.expanded; unfounds = a.unfounds }
  effect_above (free k) m n a = record { written = a.written; errors = a.errors; nest = a.nest; used = omega (arith, a.used); high = a.high; begun = a.begun; expanded = a.expanded; unfounds = a.unfounds }
  effect_above (merged k) m n a = a

  above_text : (m n : Machine) → Above base m n → length n.written ≡ length base.written + length m.written
  above_text m n a = omega (arith, ap length a.written, length-append base.written m.written)

  -- what the upper one has room for, the lower one has
  text_below : (L : Limits) (k : ℕ) (b : Bytes) (m n : Machine) → Above base m n → TextNeeds L k b n → TextNeeds L k b m
  text_below L zero b m n a h = omega (arith, h, above_text m n a)
  text_below L (suc k) b m n a h = omega (arith, h, a.used)

  needs_below : (L : Limits) (e : Effect) (m n : Machine) → Above base m n → Needs L e n → Needs L e m
  needs_below L (put b) m n a h = text_below L m.nest b m n a (subst (λ (k : ℕ). TextNeeds L k b n) a.nest h)
  needs_below L (report e) m n a h =
      let q = ap (λ (x : List Error). length (enc_errors x)) (above_report e m n a) in
      omega (arith, h, q, errors_joined base.errors (m.errors ++ (e ∷ [])), list_size base.errors)
  needs_below L begin m n a h = tt
  needs_below L expand m n a h = tt
  needs_below L unfound m n a h = tt
  needs_below L open_text m n a h = tt
  needs_below L keep_text m n a h = tt
  needs_below L (free k) m n a h = tt
  needs_below L (merged k) m n a h = merge_alike L L k n m h

  -- a trace that a machine with something before it runs to the end, one with nothing before it runs too
  pub exec_below : (L : Limits) (t : Trace) (m n n' : Machine) → Above base m n → exec L t n ≡ ran n'
      → (m' : Machine) × (exec L t m ≡ ran m') × Above base m' n'
  unfolding exec
  exec_below L [] m n n' a h = (m, refl, subst (λ (x : Machine). Above base m x) (same_machine n n' h) a)
  exec_below L (e ∷ t) m n n' a h =
      let o : Onward L e t n n' = onward L e t n n' h in
      let s = step_took L e n o.mid o.first in
      let up : Above base (effect_after e m) o.mid = subst (λ (x : Machine). Above base (effect_after e m) x) s.1 (effect_above e m n a) in
      let r = exec_below L t (effect_after e m) o.mid n' up o.rest in
      (r.0, exec_step L e t m (effect_after e m) (step_goes L e m (needs_below L e m n a s.0)) ∙ r.1, r.2)

-- L has room for m' behind base, and no less workspace than L₁
pub record Room (base m' : Machine) (L₁ L : Limits) : Type 0 where
  pub text : length base.written + length m'.written ≤ L.text_len
  pub list : length (enc_errors (base.errors ++ m'.errors)) ≤ list_limit L.list_len
  pub work : L₁.work_len ≤ L.work_len

-- texts and lists only grow
text_grew : (k : ℕ) (b : Bytes) (m : Machine) → length m.written ≤ length (text_after k b m).written
text_grew zero b m = omega (arith, length-append m.written b)
text_grew (suc k) b m = omega arith

effect_grew : (e : Effect) (m : Machine) → length m.written ≤ length (effect_after e m).written
effect_grew (put b) m = text_grew m.nest b m
effect_grew (report e) m = omega arith
effect_grew begin m = omega arith
effect_grew expand m = omega arith
effect_grew unfound m = omega arith
effect_grew open_text m = omega arith
effect_grew keep_text m = omega arith
effect_grew (free k) m = omega arith
effect_grew (merged k) m = omega arith

pub text_grows : (L : Limits) (t : Trace) (m m' : Machine) → exec L t m ≡ ran m' → length m.written ≤ length m'.written
unfolding exec
text_grows L [] m m' h = omega (arith, ap (λ (x : Machine). length x.written) (same_machine m m' h))
text_grows L (e ∷ t) m m' h =
    let o : Onward L e t m m' = onward L e t m m' h in
    let q : effect_after e m ≡ o.mid = (step_took L e m o.mid o.first).1 in
    omega (arith, effect_grew e m, ap (λ (x : Machine). length x.written) q, text_grows L t o.mid m' o.rest)

module _ (base : Machine) (L₁ L : Limits) where
  -- room for all of it is room for the first part
  room_before : (t : Trace) (m m' : Machine) → exec L₁ t m ≡ ran m' → Room base m' L₁ L → Room base m L₁ L
  room_before t m m' h r =
      let q = ap (λ (x : List Error). length (enc_errors x)) (exec_tallied L₁ t m m' h).errors in
      record {
        text = omega (arith, r.text, text_grows L₁ t m m' h);
        list = omega (arith, r.list, q, errors_joined base.errors m.errors, errors_joined base.errors m'.errors, errors_joined m.errors (reports t), list_size (reports t));
        work = r.work;
      }

  text_above_needs : (k : ℕ) (b : Bytes) (m n : Machine) → Above base m n → Room base (text_after k b m) L₁ L → TextNeeds L₁ k b m → TextNeeds L k b n
  text_above_needs zero b m n a r h = omega (arith, r.text, above_text base m n a, length-append m.written b)
  text_above_needs (suc k) b m n a r h = omega (arith, r.work, h, a.used)

  -- where the lower one goes and there is room, the upper one has what it needs
  needs_above : (e : Effect) (m n : Machine) → Above base m n → Room base (effect_after e m) L₁ L → Needs L₁ e m → Needs L e n
  needs_above (put b) m n a r h = subst (λ (k : ℕ). TextNeeds L k b n) (sym a.nest) (text_above_needs m.nest b m n a r h)
  needs_above (report e) m n a r h =
      let q = ap (λ (x : List Error). length (enc_errors x)) (above_report base e m n a) in
      omega (arith, q, r.list)
  needs_above begin m n a r h = tt
  needs_above expand m n a r h = tt
  needs_above unfound m n a r h = tt
  needs_above open_text m n a r h = tt
  needs_above keep_text m n a r h = tt
  needs_above (free k) m n a r h = tt
  needs_above (merged k) m n a r h = merge_alike L₁ L k m n h

  -- a trace that a machine with nothing before it runs to the end, one with something before it runs too where there is room
  pub exec_above : (t : Trace) (m n m' : Machine) → Above base m n → exec L₁ t m ≡ ran m' → Room base m' L₁ L
      → (n' : Machine) × (exec L t n ≡ ran n') × Above base m' n'
  unfolding exec
  exec_above [] m n m' a h r = (n, refl, subst (λ (x : Machine). Above base x n) (same_machine m m' h) a)
  exec_above (e ∷ t) m n m' a h r =
      let o : Onward L₁ e t m m' = onward L₁ e t m m' h in
      let s = step_took L₁ e m o.mid o.first in
      let room : Room base (effect_after e m) L₁ L = subst (λ (x : Machine). Room base x L₁ L) (sym s.1) (room_before t o.mid m' o.rest r) in
      let up : Above base o.mid (effect_after e n) = subst (λ (x : Machine). Above base x (effect_after e n)) s.1 (effect_above base e m n a) in
      let y = exec_above t o.mid (effect_after e n) m' up o.rest r in
      (y.0, exec_step L e t n (effect_after e n) (step_goes L e n (needs_above e m n a room s.0)) ∙ y.1, y.2)
