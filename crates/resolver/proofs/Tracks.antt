-- `track`: a pattern that is being resolved already is Cyclic; any other is written under a longer trail.
use Rattle.state.specs.Progress.{refused_of}
use mathlib.Core.Path.{◌≡◌, refl, ap, sym, subst, ◌∙◌}
use mathlib.Core.List.{List, ◌∷◌}
use mathlib.Core.Bool.{Bool, true, false}
use Prim.Native.Nat.{ℕ, zero, suc, ◌+◌, ◌-◌, ◌≤◌, ◌<◌}
use native.Mathlib.Omega.{arith}
use native.Mathlib.Numerals.{add-one}
use lib.ListN.{length, get_or, set, length-set}
use lib.Seq.{get_or-set_same, get_or-set_other}
use Rattle.records.specs.Got.{got}
use Rattle.records.specs.Bytes.{part}
use Rattle.records.specs.Tree.{Pattern}
use Rattle.records.specs.Decode.{entry_pattern_at, max_depth, expression}
use Rattle.records.proofs.Laws.{number_inv}
use Rattle.records.proofs.Views.{pattern_elim}
use Rattle.texts.specs.Relations.Report.{plain_of}
use Rattle.texts.specs.declared.errors.Plain.TheVariants as plain
use Rattle.entries.specs.Lookup.{Find}
use Rattle.trail.proofs.Trail.{bytes_at_law}
use Rattle.resolution.specs.Effect.{report, State, Out, M, Done, emit}
use Rattle.resolution.specs.Exec.{Machine, Limits}
use Rattle.resolution.specs.Resolve.{Setting, Trail, on_trail, bytes_of, error_text, write_ref_error, track_if, track, write_pattern, resolve}
use Rattle.state.specs.declared.Progress.{Progress}
use Rattle.resolver.specs.Relations.Meets.{World, world, Live, LocalsStay, locals_same, locals_cleared, Ended, ended, stopped, Acts, trail_of, pattern_bytes, Env, setting_of, find_of, cross_of}
use Rattle.resolver.specs.Relations.Leaves.{ErrorAt}
use Rattle.resolver.specs.Relations.Members.{Here, PatternAt, TrackAt}
use Rattle.state.specs.Setters.{depth_s}
use Rattle.resolver.proofs.Single.Laws.{kept_same, kept_then, runs_then}
use Rattle.resolver.proofs.Single.Locals.{locals_alike}
use Rattle.resolver.proofs.Single.Steps.{runs_over}

-- the trail with one more
trail_below : (s a : List ℕ) (d i x : ℕ) → i ≤ d → trail_of s (set a d x) i ≡ trail_of s a i
unfolding trail_of
trail_below s a d zero x h = refl
trail_below s a d (suc i) x h =
    let ne : i ≡ d → ⊥ = λ q. omega arith in
    let q = trail_below s a d i x (omega arith) in
    rw (get_or-set_other a d i x 0 ne, q)

trail_step : (s a : List ℕ) (d : ℕ) → trail_of s a (d + 1) ≡ pattern_bytes s (get_or a d 0) ∷ trail_of s a d
unfolding trail_of
trail_step s a d = rw (add-one d)

trail_tail : (s a b : List ℕ) (d : ℕ) → trail_of s a (d + 1) ≡ trail_of s b (d + 1) → trail_of s a d ≡ trail_of s b d
trail_tail s a b d h = let q : pattern_bytes s (get_or a d 0) ∷ trail_of s a d ≡ pattern_bytes s (get_or b d 0) ∷ trail_of s b d = sym (trail_step s a d) ∙ h ∙ trail_step s b d in cc

-- a pattern that is entered and left
module _ (i x l w t : List ℕ) (st : Progress) (at : ℕ) where
  abbrev inner : World
  inner = world i x l w (set t st.depth at) (depth_s (st.depth + 1) st)

  live_inner : {L : Limits} {s : State} {k : Machine} → Live L (world i x l w t st) s k → Live L inner s k
  live_inner lv = record {
    go = lv.go;
    text_len = lv.text_len;
    list_len = lv.list_len;
    work_len = lv.work_len;
    trail_len = length-set t st.depth at ∙ lv.trail_len;
    text_in = lv.text_in;
    header_in = lv.header_in;
    list_in = lv.list_in;
    list_u32 = lv.list_u32;
    front_in = lv.front_in;
    back_in = lv.back_in;
    written = lv.written;
    listed = lv.listed;
    errors = lv.errors;
    nest = lv.nest;
    uses = lv.uses;
    high = lv.high;
    unfounds = lv.unfounds;
    begun = lv.begun;
    machine_begun = lv.machine_begun;
    dirty = lv.dirty;
    few = lv.few;
    most = lv.most;
    locals = locals_alike refl refl refl refl refl refl refl lv.locals;
  }

  left_stay : (v : World) → LocalsStay (depth_s (st.depth + 1) st) v.st → LocalsStay st (depth_s st.depth v.st)
  left_stay v (locals_same p q r o) = locals_same p q r o
  left_stay v (locals_cleared p) = locals_cleared p

  leave_inner : {A : Type 0} {L : Limits} {r : Out A} {k : Machine} (v : World) → Ended L inner v r k → Ended L (world i x l w t st) (world v.store v.text v.list v.work v.trail (depth_s st.depth v.st)) r k
  leave_inner v (ended k' e lv n m) = ended k' e
      (record {
        go = lv.go;
        text_len = lv.text_len;
        list_len = lv.list_len;
        work_len = lv.work_len;
        trail_len = lv.trail_len;
        text_in = lv.text_in;
        header_in = lv.header_in;
        list_in = lv.list_in;
        list_u32 = lv.list_u32;
        front_in = lv.front_in;
        back_in = lv.back_in;
        written = lv.written;
        listed = lv.listed;
        errors = lv.errors;
        nest = lv.nest;
        uses = lv.uses;
        high = lv.high;
        unfounds = lv.unfounds;
        begun = lv.begun;
        machine_begun = lv.machine_begun;
        dirty = lv.dirty;
        few = lv.few;
        most = lv.most;
        locals = locals_alike refl refl refl refl refl refl refl lv.locals;
      }) n
      (record {
        store = m.store;
        front = m.front;
        back = m.back;
        rest = m.rest;
        aside = m.aside;
        depth = refl;
        trail = λ j. trail_tail j v.trail (set t st.depth at) st.depth (ap (λ (d : ℕ). trail_of j v.trail d) (sym m.depth) ∙ m.trail j) ∙ trail_below j t st.depth st.depth at (omega arith);
        stay = left_stay v m.stay;
        outs = record { text_up = m.outs.text_up; list_up = m.outs.list_up; text_rest = m.outs.text_rest; list_rest = m.outs.list_rest };
      })
  leave_inner v (stopped n e z r) = stopped n e z r

resolve_more : (st : Setting) (find : Find) (n : ℕ) (p : Pattern) (t : Trail) → 0 < n → resolve st find n p t ≡ write_pattern st find (λ q t. resolve st find (n - 1) q t) t p
unfolding resolve
resolve_more st find zero p t h = absurd (omega arith)
resolve_more st find (suc n) p t h = let e : n ≡ suc n - 1 = omega arith in ap (λ (m : ℕ). write_pattern st find (λ q t. resolve st find m q t) t p) e

-- the bytes of a pattern that was read
bytes_of_law : (s : List ℕ) (at : ℕ) {p : Pattern} {f : ℕ} → entry_pattern_at s at ≡ got p f → bytes_of p ≡ pattern_bytes s at
unfolding entry_pattern_at bytes_of
bytes_of_law s at {p} {f} h = pattern_elim (expression max_depth) s at h (λ n a k b es hn hk z he ef ep.
    let i = number_inv s 4 at hn in
    let i1 = i.1 in
    let m : f - at ≡ 4 + n = omega arith in
    ap bytes_of ep ∙ ap (λ (j : ℕ). part s at j) m ∙ sym (bytes_at_law s at hn))

module _ (e : Env) (at q : ℕ) where
  pub track_over : (w : World) → ((refused_of w.st) ≡ 0 → ⊥) → TrackAt e at q w w
  track_over w h = record { kept = kept_same w; runs = λ u d y f k p g hp n t here. runs_over _ w h }

  -- more patterns than there may be: never
  pub track_far : (w : World) → 102 ≤ w.st.depth → TrackAt e at q w w
  track_far w h = record { kept = kept_same w; runs = λ u d y f k p g hp n t here L s m lv. absurd (let a = here.room in let b = lv.most in let c = lv.begun in omega arith) }

  module _ (x l w t : List ℕ) (st : Progress) (on : Bool) (ht : on ≡ on_trail (pattern_bytes e.store q) (trail_of e.store t st.depth)) where
    abbrev from : World
    from = world e.store x l w t st

    on_it : {n : ℕ} {tr : Trail} → Here e from 0 n tr → (p : Pattern) (g : ℕ) → entry_pattern_at e.store q ≡ got p g → on_trail (bytes_of p) tr ≡ on
    on_it here p g hp = rw (bytes_of_law e.store q hp, here.on) (sym ht)

    pub track_cyclic : {l1 x2 w2 : List ℕ} {s1 s2 : Progress} → on ≡ true → ((i x w t : List ℕ) → Acts (emit (report (plain_of plain.Cyclic))) (world i x l w t st) (world i x l1 w t s1))
        → ErrorAt e.store at x w s1 x2 w2 s2 → TrackAt e at q from (world e.store x2 l1 w2 t s2)
    unfolding track track_if write_ref_error plain_of
    track_cyclic {l1} {x2} {w2} {s1} {s2} met a b =
        let a1 = a e.store x w t in
        record {
          kept = kept_then a1.kept (b.kept l1 t);
          runs = λ u d y f k p g hp n tr here. rw (on_it here p g hp, met) (runs_then a1.runs (b.kept l1 t) (λ _. b.runs l1 t d y f k));
        }

    pub track_cross : {s1 s2 : Progress} {v : World} → (refused_of st) ≡ 0 → on ≡ false → st.depth < 102 → s1 ≡ depth_s (st.depth + 1) st
        → PatternAt e 32 q (world e.store x l w (set t st.depth q) s1) v → s2 ≡ depth_s st.depth v.st
        → TrackAt e at q from (world v.store v.text v.list v.work v.trail s2)
    unfolding track track_if entry_pattern_at max_depth
    track_cross {s1} {s2} {v} z off far e1 h e2 =
        let h1 : PatternAt e 32 q (inner e.store x l w t st q) v = subst (λ (s : Progress). PatternAt e 32 q (world e.store x l w (set t st.depth q) s) v) e1 h in
        record {
          kept = record { begun = (let a = h1.kept.begun in let b = ap (λ (s : Progress). s.begun) e2 in omega arith); over = λ f. absurd (f z) };
          runs = λ u d y f k p g hp n tr here L s m lv.
              let pos : 0 < n = (let a = here.fuel in let b = lv.most in let c = lv.begun in omega arith) in
              let lt : st.depth < length t = (let a = lv.trail_len in omega arith) in
              let eb : bytes_of p ≡ pattern_bytes e.store q = bytes_of_law e.store q hp in
              let ont : trail_of e.store (set t st.depth q) (st.depth + 1) ≡ bytes_of p ∷ tr =
              trail_step e.store (set t st.depth q) st.depth ∙ rw (get_or-set_same t st.depth q 0 lt, trail_below e.store t st.depth st.depth q (omega arith), eb, here.on) in
              let here1 : Here e (inner e.store x l w t st q) 1 (n - 1) (bytes_of p ∷ tr) = record {
                on = sym ont;
                fuel = (let a = here.fuel in omega arith);
                room = (let a = here.room in omega arith);
                same = refl;
              } in
              let en = h1.runs u p g hp (n - 1) (bytes_of p ∷ tr) here1 L s m (live_inner e.store x l w t st q lv) in
              let em : track (cross_of e u n) tr (error_text y) p ≡ write_pattern (setting_of e u) (find_of e u) (cross_of e u (n - 1)) (bytes_of p ∷ tr) p =
              rw (on_it here p g hp, off) (resolve_more (setting_of e u) (find_of e u) n p (bytes_of p ∷ tr) pos) in
              subst (λ (o : Progress). Ended L from (world v.store v.text v.list v.work v.trail o) (track (cross_of e u n) tr (error_text y) p s) m) (sym e2)
              (subst (λ (a : M Done). Ended L from (world v.store v.text v.list v.work v.trail (depth_s st.depth v.st)) (a s) m) (sym em) (leave_inner e.store x l w t st q v en));
        }
