-- A text of its own in the workspace: made aside at the front, then moved to the back.
use Rattle.state.specs.Progress.{refused_of}
use mathlib.Core.Path.{◌≡◌, refl, ap, sym, ◌∙◌}
use mathlib.Core.List.{List, [], ◌∷◌, ◌++◌}
use mathlib.Core.Bool.{true}
use Prim.Native.Nat.{ℕ, suc, ◌+◌, ◌-◌, ◌≤◌}
use native.Mathlib.Omega.{arith}
use lib.ListN.{length, take, drop, length-append}
use lib.Seq.{take-take, length-take-le, take-add, take_at, drop_at}
use lib.Dec.{ltb}
use borrow.Author.Tests.{lt-ltb}
use Rattle.numbers.specs.Value.{textual}
use Rattle.records.specs.Bytes.{part}
use Rattle.buffers.specs.Relations.Append.{Keeps}
use Rattle.resolution.specs.Effect.{Bytes, keep_text, State, Out, M, Done, ret, capture}
use Rattle.resolution.specs.Resolve.{held}
use Rattle.resolution.specs.Exec.{Machine, Limits, exec, and_then, step}
use Rattle.state.specs.declared.Progress.{Progress}
use Rattle.values.specs.declared.Value.TheVariants as val
use Rattle.resolver.specs.Relations.Meets.{World, world, Live, LocalsStay, locals_same, locals_cleared, Moved, Ended, ended, stopped, if_aside, Holds, in_work}
use Rattle.state.specs.Setters.{aside_s, kept_s}
use Rattle.resolver.proofs.Single.Laws.{kept_same, runs_ret, ended_then, exec_append, drop_more, append_nil, aside_nil}
use Rattle.resolver.proofs.Single.Locals.{locals_stay, locals_alike}

-- a text of its own: made aside at the front, moved to the back
module _ (i x l w t : List ℕ) (st : Progress) (u : World) where
  abbrev pub w0 : World
  w0 = world i x l w t st

  abbrev pub w1 : World
  w1 = world i x l w t (aside_s true st)

  abbrev pub opened : Machine → Machine
  opened k = record { written = k.written; errors = k.errors; nest = suc k.nest; used = k.used; high = k.high; begun = k.begun; expanded = k.expanded; unfounds = k.unfounds }

  pub live_opened : {L : Limits} {s : State} {k : Machine} → Live L w0 s k → Live L w1 s (opened k)
  live_opened {k = k} lv = record {
    go = lv.go;
    text_len = lv.text_len;
    list_len = lv.list_len;
    work_len = lv.work_len;
    trail_len = lv.trail_len;
    text_in = lv.text_in;
    header_in = lv.header_in;
    list_in = lv.list_in;
    list_u32 = lv.list_u32;
    front_in = lv.front_in;
    back_in = lv.back_in;
    written = lv.written;
    listed = lv.listed;
    errors = lv.errors;
    nest = sym (lt-ltb 0 (suc k.nest) (omega arith));
    uses = lv.uses;
    high = lv.high;
    unfounds = lv.unfounds;
    begun = lv.begun;
    machine_begun = lv.machine_begun;
    dirty = lv.dirty;
    few = lv.few;
    most = lv.most;
    locals = locals_alike refl refl refl refl refl refl refl lv.locals;
  }

  -- what is known of the text where it was made
  pub record Made (text : Bytes) (kept : ℕ) : Type 0 where
    pub sum : u.st.front ≡ st.front + length text
    pub low : u.st.front ≤ u.st.back
    pub high : u.st.back ≤ length u.work
    pub old : take st.front u.work ≡ take st.front w
    pub new : part u.work st.front (length text) ≡ text
    pub below : u.st.back + kept ≡ st.back

  made : {A : Type 0} {L : Limits} {s s' : State} {k k' : Machine} (r : Out A) → Live L w0 s k → Live L u s' k' → Moved w1 u r → Made r.text r.kept
  unfolding if_aside
  made r lw lu mv =
      let fi = lw.front_in in let bi = lw.back_in in let ful = lu.front_in in let bul = lu.back_in in let wl = lw.work_len in let ul = lu.work_len in
      let n0 : length (take st.front w) ≡ st.front = length-take-le st.front w (omega arith) in
      let n1 : length (take u.st.front u.work) ≡ u.st.front = length-take-le u.st.front u.work (omega arith) in
      let n2 = length-append (take st.front w) r.text in
      let n3 = ap length mv.front in
      let sm : u.st.front ≡ st.front + length r.text = omega arith in
      let ol : take st.front u.work ≡ take st.front w = sym (take-take st.front u.st.front u.work (omega arith)) ∙ ap (take st.front) mv.front ∙ take_at (take st.front w) r.text st.front n0 in
      let halves : take st.front u.work ++ part u.work st.front (length r.text) ≡ take st.front w ++ r.text = sym (take-add st.front (length r.text) u.work) ∙ ap (λ (i : ℕ). take i u.work) (sym sm) ∙ mv.front in
      let n4 : length (take st.front u.work) ≡ st.front = ap length ol ∙ n0 in
      record {
        sum = sm;
        low = ful;
        high = bul;
        old = ol;
        new = sym (drop_at (take st.front u.work) (part u.work st.front (length r.text)) st.front n4) ∙ ap (drop st.front) halves ∙ drop_at (take st.front w) r.text st.front n0;
        below = mv.back;
      }

  -- the state's record of a term's arguments goes by four fields alone
  kept_stays : {f b : ℕ} → LocalsStay (aside_s true st) u.st → LocalsStay st (kept_s f b st.aside u.st)
  kept_stays (locals_same p q r o) = locals_same p q r o
  kept_stays (locals_cleared p) = locals_cleared p

  module _ (w3 : List ℕ) (n to : ℕ) (en : n ≡ u.st.front - st.front) (et : to ≡ u.st.back - n) (kp : Keeps u.work st.front to n w3) where
    abbrev pub w4 : World
    w4 = world u.store u.text u.list w3 u.trail (kept_s st.front to st.aside u.st)

    pub ended_capture : (m : M Done) (L : Limits) (s : State) (k : Machine) → (refused_of u.st) ≡ 0 → Live L w0 s k → Ended L w1 u (m s) (opened k) → Ended L w0 w4 (capture m s) k
    unfolding capture exec step and_then
    ended_capture m L s k z lw (ended k' e lv nn mv) =
        let md = made (m s) lw lv mv in
        let a1 = md.sum in let a2 = md.low in let a3 = md.high in let a4 = md.below in
        let us = lv.uses in let sz = kp.size in
        let nk : k'.nest - 1 ≡ k.nest = omega arith in
        let tn : to + n ≡ u.st.back = omega arith in
        ended (record { written = k'.written; errors = k'.errors; nest = k'.nest - 1; used = k'.used; high = k'.high; begun = k'.begun; expanded = k'.expanded; unfounds = k'.unfounds })
        (exec_append L (m s).trace (keep_text ∷ []) (opened k) ∙ rw e)
        (record {
          go = lv.go;
          text_len = lv.text_len;
          list_len = lv.list_len;
          work_len = sz ∙ lv.work_len;
          trail_len = lv.trail_len;
          text_in = lv.text_in;
          header_in = lv.header_in;
          list_in = lv.list_in;
          list_u32 = lv.list_u32;
          front_in = omega arith;
          back_in = omega arith;
          written = lv.written;
          listed = lv.listed;
          errors = lv.errors;
          nest = lw.nest ∙ ap (ltb 0) (sym nk);
          uses = omega arith;
          high = lv.high;
          unfounds = lv.unfounds;
          begun = lv.begun;
          machine_begun = lv.machine_begun;
          dirty = lv.dirty;
          few = lv.few;
          most = lv.most;
          locals = locals_stay refl sz (omega arith) (ap (λ (j : ℕ). drop j w3) (sym tn) ∙ kp.rest ∙ ap (λ (j : ℕ). drop j u.work) tn) refl refl refl refl lv.locals;
        })
        nk
        (record {
          front = kp.front ∙ md.old ∙ sym (ap (λ (q : List ℕ). take st.front w ++ q) (aside_nil st.aside) ∙ append_nil _);
          back = omega arith;
          rest = drop_more w3 u.work (to + n) st.back (omega arith) kp.rest ∙ mv.rest;
          aside = refl;
          depth = mv.depth;
          trail = mv.trail;
          stay = kept_stays mv.stay;
          store = mv.store;
          outs = record { text_up = mv.outs.text_up; list_up = mv.outs.list_up; text_rest = mv.outs.text_rest; list_rest = mv.outs.list_rest };
        })
    ended_capture m L s k z lw (stopped c e nz r) = absurd (nz (sym r ∙ z))

    pub holds_capture : (j a : List ℕ) (m : M Done) (L : Limits) (s : State) (k : Machine) → (refused_of u.st) ≡ 0 → Live L w0 s k → Ended L w1 u (m s) (opened k) → Holds j a w3 to (val.Work to u.st.back) (textual (m s).text)
    holds_capture j a m L s k z lw (ended k' e lv nn mv) =
        let md = made (m s) lw lv mv in
        let a1 = md.sum in let a2 = md.low in let a3 = md.high in let sz = kp.size in
        let ln : n ≡ length (m s).text = omega arith in
        let bt : u.st.back - to ≡ n = omega arith in
        in_work to u.st.back refl (omega arith) (omega arith) (omega arith)
        (ap textual (sym (ap (λ (q : ℕ). part w3 to q) bt ∙ kp.moved ∙ ap (λ (q : ℕ). part u.work st.front q) ln ∙ md.new)))
    holds_capture j a m L s k z lw (stopped c e nz r) = absurd (nz (sym r ∙ z))

  -- the text was not made
  pub capture_stopped : (m : M Done) (L : Limits) (s : State) (k : Machine) → ((refused_of u.st) ≡ 0 → ⊥) → Ended L w1 u (m s) (opened k) → Ended L w0 u (capture m s) k
  unfolding capture exec step and_then
  capture_stopped m L s k f (ended k' e lv nn mv) = absurd (f lv.go)
  capture_stopped m L s k f (stopped c e nz r) = stopped c (exec_append L (m s).trace (keep_text ∷ []) (opened k) ∙ rw e) nz r

  -- where it was, it lies as it should
  pub capture_lies : (m : M Done) (L : Limits) (s : State) (k : Machine) → (refused_of u.st) ≡ 0 → Live L w0 s k → Ended L w1 u (m s) (opened k) → (st.front ≤ u.st.front) × (u.st.front ≤ u.st.back) × (u.st.back ≤ length u.work)
  capture_lies m L s k z lw (ended k' e lv nn mv) = let md = made (m s) lw lv mv in let a1 = md.sum in (omega arith, md.low, md.high)
  capture_lies m L s k z lw (stopped c e nz r) = absurd (nz (sym r ∙ z))

pub ended_held : {w v : World} (m : M Bytes) (L : Limits) (s : State) (k : Machine) → Ended L w v (m s) k → Ended L w v (held m s) k
unfolding held
ended_held {w} {v} m L s k h = ended_then m (λ b. ret (textual b)) L s k h (kept_same v) (λ k' l' mv. runs_ret (textual (m s).value) v L (m s).state k' l')
