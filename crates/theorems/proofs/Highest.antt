-- A machine and the workspace of its trace: nesting, use, text and highest use of the machine follow the workspace's texts.
use mathlib.Core.Path.{◌≡◌, refl, ap, sym, subst, ◌∙◌}
use mathlib.Core.List.{List, [], ◌∷◌, ◌++◌, append_assoc, append-nil}
use Prim.Native.Nat.{ℕ, zero, suc, ◌+◌, ◌-◌, ◌≤◌, ◌<◌, max}
use native.Mathlib.Omega.{arith}
use lib.ListN.{length}
use Rattle.records.specs.Tree.{Pattern}
use Rattle.entries.specs.Lookup.{Find}
use Rattle.resolution.specs.Effect.{Bytes, Effect, put, report, begin, expand, unfound, open_text, keep_text, free, merged, Trace}
use Rattle.resolution.specs.Resolve.{Setting}
use Rattle.resolution.specs.Exec.{Machine, Limits, Ran, ran, refused, put_text, put_work, put_at, step, and_then, exec}
use Rattle.theorems.specs.Finished.{trace_of}
use Rattle.theorems.specs.HighestUse.{Workspace, empty, total, use_of, longer, moved, workspace_after, highest}
use Rattle.theorems.proofs.Runs.{not_refused, same_machine, allowed, refused_fits, Onward, onward}
use Rattle.theorems.proofs.Spaces.{space_after, Freeable, AllFreeable, out_to, put_out, text_out, Empties, traces_empty}

-- a machine holds a workspace: as many texts are open, and as many bytes are in use
pub record Holds (m : Machine) (w : Workspace) : Type 0 where
  pub nest : m.nest ≡ length w.front
  pub used : m.used ≡ use_of w

-- From one machine to another: the second holds the workspace w and has so much text more; where the highest use was no less than the use, it is the higher of
-- what it was and n, and so again.
pub record Follows (m m' : Machine) (w : Workspace) (b : Bytes) (n : ℕ) : Type 0 where
  pub holds : Holds m' w
  pub made : m'.written ≡ m.written ++ b
  pub high : m.used ≤ m.high → (m'.used ≤ m'.high) × (m'.high ≡ max m.high n)

-- after one effect: the higher use is that of the workspace then
abbrev Stepped : Machine → Machine → Workspace → Bytes → Type 0
Stepped m m' w b = Follows m m' w b (use_of w)

-- an effect that changes neither nesting nor use, and writes nothing
still : (m n : Machine) (w : Workspace) → Holds m w → n.nest ≡ m.nest → n.used ≡ m.used → n.high ≡ m.high → n.written ≡ m.written → Stepped m n w []
still m n w h p q r t = record {
  holds = record { nest = p ∙ h.nest; used = q ∙ h.used };
  made = t ∙ sym (append-nil m.written);
  high = λ top. (omega (arith, q, r, top), omega (arith, r, h.used, top));
}

module _ (L : Limits) where
  -- bytes written: to the text buffer where no text is open, else to the newest
  put_held : (b : Bytes) (m m' : Machine) (f : List ℕ) (k n : ℕ) → Holds m (record { front = f; back = k }) → n ≡ length f → put_at L b m n ≡ ran m'
      → Stepped m m' (record { front = longer (length b) f; back = k }) (out_to f b)
  unfolding put_at put_text put_work longer use_of total
  put_held b m m' [] k zero h q e =
      subst (λ x. Stepped m x (record { front = []; back = k }) b) (allowed _ _ _ _ m' e)
      (record { holds = record { nest = h.nest; used = h.used }; made = refl; high = λ top. (top, omega (arith, h.used, top)) })
  put_held b m m' [] k (suc n) h q e = absurd (omega (arith, q))
  put_held b m m' (x ∷ f) k zero h q e = absurd (omega (arith, q))
  put_held b m m' (x ∷ f) k (suc n) h q e =
      subst (λ y. Stepped m y (record { front = (x + length b) ∷ f; back = k }) []) (allowed _ _ _ _ m' e)
      (record { holds = record { nest = h.nest; used = omega (arith, h.used) }; made = sym (append-nil m.written); high = λ top. (omega arith, omega (arith, h.used)) })

  -- the newest text moves to the back
  keep_held : (m m' : Machine) (f : List ℕ) (k : ℕ) → Holds m (record { front = f; back = k }) → step L keep_text m ≡ ran m' → Stepped m m' (moved f k) []
  unfolding step moved use_of total
  keep_held m m' [] k h e =
      subst (λ x. Stepped m x (record { front = []; back = k }) []) (same_machine _ m' e)
      (record { holds = record { nest = omega (arith, h.nest); used = h.used }; made = sym (append-nil m.written); high = λ top. (top, omega (arith, h.used, top)) })
  keep_held m m' (x ∷ f) k h e =
      subst (λ y. Stepped m y (record { front = f; back = k + x }) []) (same_machine _ m' e)
      (record { holds = record { nest = omega (arith, h.nest); used = omega (arith, h.used) }; made = sym (append-nil m.written); high = λ top. (top, omega (arith, h.used, top)) })

  step_held : (e : Effect) (m m' : Machine) (w : Workspace) → Freeable e w → Holds m w → step L e m ≡ ran m'
      → Stepped m m' (workspace_after e w) (put_out e w.front)
  unfolding step workspace_after use_of total
  step_held (put b) m m' w f h q = put_held b m m' w.front w.back m.nest h h.nest q
  step_held (report e) m m' w f h q = subst (λ x. Stepped m x w []) (allowed _ _ _ _ m' q) (still m _ w h refl refl refl refl)
  step_held begin m m' w f h q = subst (λ x. Stepped m x w []) (same_machine _ m' q) (still m _ w h refl refl refl refl)
  step_held expand m m' w f h q = subst (λ x. Stepped m x w []) (same_machine _ m' q) (still m _ w h refl refl refl refl)
  step_held unfound m m' w f h q = subst (λ x. Stepped m x w []) (same_machine _ m' q) (still m _ w h refl refl refl refl)
  step_held open_text m m' w f h q =
      subst (λ x. Stepped m x (record { front = 0 ∷ w.front; back = w.back }) []) (same_machine _ m' q)
      (record { holds = record { nest = omega (arith, h.nest); used = omega (arith, h.used) }; made = sym (append-nil m.written); high = λ top. (top, omega (arith, h.used, top)) })
  step_held keep_text m m' w f h q = keep_held m m' w.front w.back h q
  step_held (free n) m m' w f h q =
      subst (λ x. Stepped m x (record { front = w.front; back = w.back - n }) []) (same_machine _ m' q)
      (record { holds = record { nest = h.nest; used = omega (arith, h.used, f) }; made = sym (append-nil m.written); high = λ top. (omega (arith, top), omega (arith, h.used, top)) })
  step_held (merged n) m m' w f h q = subst (λ x. Stepped m x w []) (allowed _ _ _ _ m' q) (still m m w h refl refl refl refl)

  -- the use at a moment is no more than the highest
  use_highest : (t : Trace) (w : Workspace) → use_of w ≤ highest t w
  unfolding highest
  use_highest [] w = omega arith
  use_highest (e ∷ t) w = omega arith

  -- a run that ends holds the workspace that the trace leaves; its highest use is the higher of the one before and the trace's
  pub exec_held : (t : Trace) (m m' : Machine) (w : Workspace) → AllFreeable t w → Holds m w → exec L t m ≡ ran m' → Follows m m' (space_after t w) (text_out t w) (highest t w)
  unfolding exec highest
  exec_held [] m m' w f h q = subst (λ x. Stepped m x w []) (same_machine m m' q) (still m m w h refl refl refl refl)
  exec_held (e ∷ t) m m' w f h q =
      let o : Onward L e t m m' = onward L e t m m' q in
      let v : Workspace = workspace_after e w in
      let a : Stepped m o.mid v (put_out e w.front) = step_held e m o.mid w f.0 h o.first in
      let r : Follows o.mid m' (space_after t v) (text_out t v) (highest t v) = exec_held t o.mid m' v f.1 a.holds o.rest in
      record {
        holds = r.holds;
        made = r.made ∙ ap (λ (x : Bytes). x ++ text_out t v) a.made ∙ append_assoc m.written (put_out e w.front) (text_out t v);
        high = λ top.
            let first : (o.mid.used ≤ o.mid.high) × (o.mid.high ≡ max m.high (use_of v)) = a.high top in
            let second : (m'.used ≤ m'.high) × (m'.high ≡ max o.mid.high (highest t v)) = r.high first.0 in
            (second.0, omega (arith, first.1, second.1, h.used, top, use_highest t v));
      }

  put_starved : (b : Bytes) (m : Machine) (f : List ℕ) (k n : ℕ) → Holds m (record { front = f; back = k }) → n ≡ length f → put_at L b m n ≡ refused 16
      → L.work_len < use_of (record { front = longer (length b) f; back = k })
  unfolding put_at put_text put_work longer use_of total
  put_starved b m f k zero h q e = absurd (omega (arith, (refused_fits _ _ _ _ _ e).0))
  put_starved b m [] k (suc n) h q e = absurd (omega (arith, q))
  put_starved b m (x ∷ f) k (suc n) h q e = omega (arith, (refused_fits _ _ _ _ _ e).1, h.used)

  step_starved : (e : Effect) (m : Machine) (w : Workspace) → Holds m w → step L e m ≡ refused 16 → L.work_len < use_of (workspace_after e w)
  unfolding step workspace_after
  step_starved (put b) m w h q = put_starved b m w.front w.back m.nest h h.nest q
  step_starved (report e) m w h q = absurd (omega (arith, (refused_fits _ _ _ _ _ q).0))
  step_starved begin m w h q = absurd (not_refused 16 _ (sym q))
  step_starved expand m w h q = absurd (not_refused 16 _ (sym q))
  step_starved unfound m w h q = absurd (not_refused 16 _ (sym q))
  step_starved open_text m w h q = absurd (not_refused 16 _ (sym q))
  step_starved keep_text m w h q = absurd (not_refused 16 _ (sym q))
  step_starved (free n) m w h q = absurd (not_refused 16 _ (sym q))
  step_starved (merged n) m w h q = absurd (omega (arith, (refused_fits _ _ _ _ _ q).0))

  -- a run is refused with 16 only where the workspace is shorter than the trace's highest use
  exec_starved : (t : Trace) (m : Machine) (w : Workspace) → AllFreeable t w → Holds m w → exec L t m ≡ refused 16 → L.work_len < highest t w
  unfolding exec highest and_then
  exec_starved [] m w f h q = absurd (not_refused 16 m (sym q))
  exec_starved (e ∷ t) m w f h q = go (step L e m) refl q (exec_starved t)
    where
      go : (r : Ran) → step L e m ≡ r → and_then r (λ n. exec L t n) ≡ refused 16
          → ((n : Machine) (v : Workspace) → AllFreeable t v → Holds n v → exec L t n ≡ refused 16 → L.work_len < highest t v)
          → L.work_len < max (use_of w) (highest t (workspace_after e w))
      go (ran n) p k ih = omega (arith, ih n (workspace_after e w) f.1 (step_held e m n w f.0 h p).holds k)
      go (refused c) p k ih = omega (arith, step_starved e m w h (p ∙ k), use_highest t (workspace_after e w))

-- no text open and nothing in use
pub record Resting (m : Machine) : Type 0 where
  pub nest : m.nest ≡ 0
  pub used : m.used ≡ 0

rests : (m : Machine) → Resting m → Holds m empty
unfolding empty use_of total
rests m r = record { nest = r.nest; used = r.used }

-- the run of a message from a machine at rest: the machine is at rest again, and the highest use the higher of the one before and the message's
pub record MessageRun (t : Trace) (m m' : Machine) : Type 0 where
  pub rest : Resting m'
  pub high : m'.high ≡ max m.high (highest t empty)

module _ (L : Limits) (st : Setting) (find : Find) (p : Pattern) (m : Machine) (r : Resting m) where
  pub message_highest : (m' : Machine) → exec L (trace_of st find p) m ≡ ran m' → MessageRun (trace_of st find p) m m'
  unfolding empty use_of total
  message_highest m' q =
      let t : Trace = trace_of st find p in
      let e : Empties t = traces_empty st find p in
      let h : Follows m m' (space_after t empty) (text_out t empty) (highest t empty) = exec_held L t m m' empty e.frees (rests m r) q in
      let z : Holds m' empty = subst (λ (w : Workspace). Holds m' w) e.leaves h.holds in
      record { rest = record { nest = z.nest; used = z.used }; high = (h.high (omega (arith, r.used))).1 }

  pub message_starved : exec L (trace_of st find p) m ≡ refused 16 → L.work_len < highest (trace_of st find p) empty
  message_starved q = exec_starved L (trace_of st find p) m empty (traces_empty st find p).frees (rests m r) q
