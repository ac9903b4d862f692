-- A term reference: its arguments are the local ones while it is written, and there are none after it.
use Rattle.state.specs.Progress.{refused_of}
use mathlib.Core.Path.{◌≡◌, refl, ap, sym, subst, ◌∙◌}
use mathlib.Core.List.{List, [], ◌++◌}
use mathlib.Core.Option.{Option, none, some}
use Prim.Native.Nat.{ℕ, suc, ◌+◌, ◌-◌, ◌≤◌}
use native.Mathlib.Omega.{arith}
use lib.ListN.{length}
use Rattle.numbers.specs.Value.{Value}
use Rattle.records.specs.Got.{got, bad}
use Rattle.records.specs.Bytes.{byte_at, number_at}
use Rattle.records.specs.Tree.{Named, Inline, Inlines, Pattern, Arguments, without, with_arguments}
use Rattle.records.specs.Decode.{many, arguments_at, term_arguments_at, inline}
use Rattle.records.proofs.Views.{both, never, term_arguments_elim}
use Rattle.entries.specs.Lookup.{Find}
use Rattle.resolution.specs.Effect.{Bytes, Trace, Locals, State, Out, M, Done, ◌>>=◌, ◌>>◌, set_locals, release}
use Rattle.resolution.specs.Exec.{Machine, Limits}
use Rattle.resolution.specs.Resolve.{Trail, look_up, as_term, term_found, write_term, term_arguments, get_arguments}
use Rattle.state.specs.declared.Progress.{Progress}
use Rattle.values.specs.declared.Value as CodeValue
use Rattle.std.specs.Prelude as rust
use Rattle.state.specs.declared.Referring.{Referring}
use Rattle.resolver.specs.Relations.Meets.{World, world, Live, LocalsAt, no_locals, some_locals, named_none, named_texts, locals_cleared, Ended, ended, stopped, Runs, Kept, Env, Setup, setting_of, find_of, cross_of}
use Rattle.resolver.specs.Relations.Leaves.{NamedAt, ReferenceIs}
use Rattle.resolver.specs.Relations.Members.{Here, PositionalAt, FoundTermAt, TermAt}
use Rattle.state.specs.Setters.{locals_s, clear_s, back_s}
use Rattle.resolver.proofs.Single.Laws.{kept_same, kept_then, append_nil}
use Rattle.resolver.proofs.Single.Steps.{runs_as, runs_over}
use Rattle.resolver.proofs.Single.Release.{ended_release, stopped_release, release_back, release_over}
use Rattle.resolver.proofs.Binds.{ret_bind, bind_assoc, given, quiet_found_term, quiet_resolve}
use Rattle.resolver.proofs.References.{term_read, reference_none, reference_is}
use Rattle.resolver.proofs.Calls.{arguments_stopped, arguments_unnamed, arguments_runs, kept_named}

-- the state with a term's arguments
abbrev within : Locals → State → State
within l s = record { begun = s.begun; dirty = s.dirty; locals = l }

-- what the writing of a term gives, by what the writing of the term that was found gives
cleared : Out Done → Out Done
cleared r = record { trace = r.trace; text = r.text; kept = r.kept; state = within none r.state; value = tt }

module _ (cross : Pattern → Trail → M Done) (t : Trail) (find : Find) (i : Bytes) (a : Option Bytes) (named : List (Bytes × Value)) where
  abbrev found_term : M Done
  found_term = look_up find i >>= λ o. term_found cross t i a (as_term o)

  term_is : write_term cross t find i a named ≡ (set_locals (some named) >> (found_term >> set_locals none))
  unfolding write_term ◌>>◌
  term_is = ap (λ (m : M Done). set_locals (some named) >>= λ _. m) (sym (bind_assoc (look_up find i) (λ o. term_found cross t i a (as_term o)) (λ _. set_locals none)))

  term_out : (s : State) → write_term cross t find i a named s ≡ cleared (found_term (within (some named) s))
  unfolding set_locals ◌>>◌ ◌>>=◌ cleared
  term_out s =
      let r = found_term (within (some named) s) in
      let e : 0 + (r.kept + 0) ≡ r.kept = omega arith in
      ap (λ (m : M Done). m s) term_is
      ∙ ap (λ (q : Trace). record { trace = q; text = r.text ++ []; kept = 0 + (r.kept + 0); state = within none r.state; value = tt }) (append_nil r.trace)
      ∙ ap (λ (q : Bytes). record { trace = r.trace; text = q; kept = 0 + (r.kept + 0); state = within none r.state; value = tt }) (append_nil r.text)
      ∙ ap (λ (q : ℕ). record { trace = r.trace; text = r.text; kept = q; state = within none r.state; value = tt }) e

-- the term's arguments are set, and cleared
module _ (i x l w t : List ℕ) (st : Progress) (at count base : ℕ) where
  abbrev inside : World
  inside = world i x l w t (locals_s at count base st)

  live_inside : {L : Limits} {s : State} {k : Machine} {o : Locals} → LocalsAt inside o → Live L (world i x l w t st) s k → Live L inside (within o s) k
  live_inside lo lv = record {
    go = lv.go;
    text_len = lv.text_len;
    list_len = lv.list_len;
    work_len = lv.work_len;
    trail_len = lv.trail_len;
    text_in = lv.text_in;
    header_in = lv.header_in;
    list_in = lv.list_in;
    list_u32 = lv.list_u32;
    front_in = lv.front_in;
    back_in = lv.back_in;
    written = lv.written;
    listed = lv.listed;
    errors = lv.errors;
    nest = lv.nest;
    uses = lv.uses;
    high = lv.high;
    unfounds = lv.unfounds;
    begun = lv.begun;
    machine_begun = lv.machine_begun;
    dirty = lv.dirty;
    few = lv.few;
    most = lv.most;
    locals = lo;
  }

  leave_inside : {L : Limits} {r : Out Done} {k : Machine} (u : World) → Ended L inside u r k → Ended L (world i x l w t st) (world u.store u.text u.list u.work u.trail (clear_s u.st)) (cleared r) k
  unfolding cleared
  leave_inside u (ended k' e lv n m) = ended k' e
      (record {
        go = lv.go;
        text_len = lv.text_len;
        list_len = lv.list_len;
        work_len = lv.work_len;
        trail_len = lv.trail_len;
        text_in = lv.text_in;
        header_in = lv.header_in;
        list_in = lv.list_in;
        list_u32 = lv.list_u32;
        front_in = lv.front_in;
        back_in = lv.back_in;
        written = lv.written;
        listed = lv.listed;
        errors = lv.errors;
        nest = lv.nest;
        uses = lv.uses;
        high = lv.high;
        unfounds = lv.unfounds;
        begun = lv.begun;
        machine_begun = lv.machine_begun;
        dirty = lv.dirty;
        few = lv.few;
        most = lv.most;
        locals = no_locals refl refl;
      }) n
      (record {
        store = m.store;
        front = m.front;
        back = m.back;
        rest = m.rest;
        aside = m.aside;
        depth = m.depth;
        trail = m.trail;
        stay = locals_cleared refl;
        outs = record { text_up = m.outs.text_up; list_up = m.outs.list_up; text_rest = m.outs.text_rest; list_rest = m.outs.list_rest };
      })
  leave_inside u (stopped n e z r) = stopped n e z r

-- an action that left nothing at the workspace's back
release_none : {A : Type 0} (m : M A) (L : Limits) (w v : World) (s : State) (k : Machine) → (m s).kept ≡ 0 → Live L w s k → Ended L w v (m s) k → Ended L w v (release m s) k
release_none m L w v s k z lw (ended k' e lv n mv) =
    let b : w.st.back ≡ v.st.back = (let o = mv.back in omega arith) in
    subst (λ (j : ℕ). Ended L w (world v.store v.text v.list v.work v.trail (back_s j v.st)) (release m s) k) b (ended_release w v m L s k lw (ended k' e lv n mv))
release_none m L w v s k z lw (stopped n e nz r) = stopped_release w v m L s k (λ q. nz (sym r ∙ q)) (stopped n e nz r)

-- no arguments
bare_locals : (i x l w t : List ℕ) (st : Progress) → st.back ≤ length w → LocalsAt (world i x l w t (locals_s 0 0 st.back st)) (some [])
unfolding many named_texts
bare_locals i x l w t st h = some_locals [] 0 st.back refl refl refl (omega arith) (named_none {base = st.back} (omega arith) h)

module _ (e : Env) (left at : ℕ) where
  pub term_over : (w : World) → ((refused_of w.st) ≡ 0 → ⊥) → TermAt e left at w w
  term_over w h = record { kept = kept_same w; runs = λ u i a r f k n t here. runs_over _ w h }

  module _ {r : rust.Option Referring} (rd : ReferenceIs e.store (at + 1) r) where
    pub term_unread : (w : World) → r ≡ rust.None → TermAt e left at w w
    term_unread w er = record { kept = kept_same w; runs = λ u i a q f k n t here. term_read e.store at (suc left) k (λ p g hn ha hr. reference_none e.store (at + 1) rd er hn ha) }

    module _ (y : Referring) (er : r ≡ rust.Some y) where
      -- what stands past the reference: no arguments, or those of a call
      arguments_at_law : {C : Type 0} {i : Bytes} {a : Option Bytes} {q : Arguments} {f : ℕ} → inline (suc left) e.store at ≡ got (Inline.term i a q) f → (term_arguments_at (inline left) e.store y.end ≡ got q f → C) → C
      arguments_at_law {q = q} {f = f} k c = term_read e.store at (suc left) k (λ p g hn ha hr.
          let d : suc left - 1 ≡ left = omega arith in
          let eg = (reference_is e.store (at + 1) rd y er hn ha).3 in
          c (subst (λ (j : ℕ). term_arguments_at (inline left) e.store j ≡ got q f) (sym eg) (subst (λ (j : ℕ). term_arguments_at (inline j) e.store g ≡ got q f) d hr)))

      pub term_unflagged : (w : World) → byte_at e.store y.end ≡ bad → TermAt e left at w w
      term_unflagged w hb = record { kept = kept_same w; runs = λ u i a q f k n t here. arguments_at_law k (λ h. term_arguments_elim (inline left) e.store y.end h (λ h0 _. never hb h0) (λ p b h1 _ _. never hb h1)) }

      module _ {flag p : ℕ} (hb : byte_at e.store y.end ≡ got flag p) where
        is_without : {C : Type 0} {q : Arguments} {f : ℕ} → flag ≡ 0 → term_arguments_at (inline left) e.store y.end ≡ got q f → (q ≡ without → C) → C
        is_without z h c = term_arguments_elim (inline left) e.store y.end h (λ _ eq. c eq) (λ p b h1 _ _. both hb h1 (λ ef _. absurd (omega arith)))

        is_with : {C : Type 0} {q : Arguments} {f : ℕ} → (flag ≡ 0 → ⊥) → term_arguments_at (inline left) e.store y.end ≡ got q f
            → ((xs : Inlines) (ns : Named) → arguments_at (inline left) e.store p ≡ got (xs, ns) f → q ≡ with_arguments xs ns → C) → C
        is_with {q = q} {f = f} nz h c = term_arguments_elim (inline left) e.store y.end h (λ h0 _. both hb h0 (λ ef _. absurd (nz ef))) (λ p' b h1 hx eq. both hb h1 (λ _ ep.
            c b.0 b.1 (subst (λ (j : ℕ). arguments_at (inline left) e.store j ≡ got (b.0, b.1) f) (sym ep) hx) eq))

        -- without arguments
        pub term_bare : (x l w t : List ℕ) (st : Progress) {s1 s2 : Progress} {u4 : World} → (refused_of st) ≡ 0 → flag ≡ 0 → s1 ≡ locals_s 0 0 st.back st → FoundTermAt e at (world e.store x l w t s1) u4 → s2 ≡ clear_s u4.st
            → TermAt e left at (world e.store x l w t st) (world u4.store u4.text u4.list u4.work u4.trail s2)
        unfolding term_arguments cleared
        term_bare x l w t st {s1} {s2} {u4} z zf e1 h e2 =
            let h1 : FoundTermAt e at (world e.store x l w t (locals_s 0 0 st.back st)) u4 = subst (λ (s : Progress). FoundTermAt e at (world e.store x l w t s) u4) e1 h in
            let w0 : World = world e.store x l w t st in
            record {
              kept = record { begun = (let o = h1.kept.begun in let o2 = ap (λ (s : Progress). s.begun) e2 in omega arith); over = λ f. absurd (f z) };
              runs = λ u i a q f k n tr here L s m lv. arguments_at_law k (λ ht. is_without zf ht (λ eq.
                  let T = write_term (cross_of e u n) tr (find_of e u) i a [] in
                  let en = h1.runs u (suc left) i a q f k n tr (record { on = here.on; fuel = here.fuel; room = here.room; same = here.same }) L (within (some []) s) m
                  (live_inside e.store x l w t st 0 0 st.back (bare_locals e.store x l w t st lv.back_in) lv) in
                  let ev = leave_inside e.store x l w t st 0 0 st.back u4 en in
                  let et : Ended L w0 (world u4.store u4.text u4.list u4.work u4.trail (clear_s u4.st)) (T s) m =
                  subst (λ (o : Out Done). Ended L w0 (world u4.store u4.text u4.list u4.work u4.trail (clear_s u4.st)) o m) (sym (term_out (cross_of e u n) tr (find_of e u) i a [] s)) ev in
                  let kn : (T s).kept ≡ 0 = ap (λ (o : Out Done). o.kept) (term_out (cross_of e u n) tr (find_of e u) i a [] s)
                  ∙ quiet_found_term (setting_of e u) (find_of e u) (cross_of e u n) (λ p2 t2 q2. quiet_resolve (setting_of e u) (find_of e u) n p2 t2 q2) tr i a (within (some []) s) in
                  let em : (term_arguments (setting_of e u) (find_of e u) (cross_of e u n) tr q >>= λ g. write_term (cross_of e u n) tr (find_of e u) i a g.named) ≡ T =
                  ap (λ (o : Arguments). term_arguments (setting_of e u) (find_of e u) (cross_of e u n) tr o >>= λ g. write_term (cross_of e u n) tr (find_of e u) i a g.named) eq
                  ∙ ret_bind (given [] []) (λ g. write_term (cross_of e u n) tr (find_of e u) i a g.named) in
                  subst (λ (o : M Done). Ended L w0 (world u4.store u4.text u4.list u4.work u4.trail s2) (release o s) m) (sym em)
                  (subst (λ (o : Progress). Ended L w0 (world u4.store u4.text u4.list u4.work u4.trail o) (release T s) m) (sym e2)
                  (release_none T L w0 (world u4.store u4.text u4.list u4.work u4.trail (clear_s u4.st)) s m kn lv et))));
            }

        -- with arguments
        module _ (nz : flag ≡ 0 → ⊥) (w : World) where
          -- the action, where the arguments are known
          term_by : (v : World) → Kept w v
              → ((u : Setup e) (i : Bytes) (a : Option Bytes) (q : Arguments) (f : ℕ) (xs : Inlines) (ns : Named) → inline (suc left) e.store at ≡ got (Inline.term i a q) f → arguments_at (inline left) e.store p ≡ got (xs, ns) f
              → (n : ℕ) (t : Trail) → Here e w 0 n t
              → Runs (release (get_arguments (setting_of e u) (find_of e u) (cross_of e u n) t xs ns >>= λ g. write_term (cross_of e u n) t (find_of e u) i a g.named)) w v)
              → TermAt e left at w v
          unfolding term_arguments
          term_by v kp go = record {
            kept = kp;
            runs = λ u i a q f k n t here. arguments_at_law k (λ ht. is_with nz ht (λ xs ns ha eq.
                runs_as (ap (λ (o : Arguments). release (term_arguments (setting_of e u) (find_of e u) (cross_of e u n) t o >>= λ g. write_term (cross_of e u n) t (find_of e u) i a g.named)) eq)
                (go u i a q f xs ns k ha n t here)));
          }

          pub term_stopped : {u1 : World} {first : CodeValue.Value} {end : ℕ} → PositionalAt e left p w u1 first end → ((refused_of u1.st) ≡ 0 → ⊥) → TermAt e left at w u1
          term_stopped {u1} {first} {end} pos z = term_by u1 pos.kept (λ u i a q f xs ns k ha n t here.
              release_over w u1 _ z (arguments_stopped e left p w u1 first end pos _ z u xs ns f ha n t here))

          pub term_unnamed : {u1 : World} {first : CodeValue.Value} {end : ℕ} → PositionalAt e left p w u1 first end → number_at 2 e.store end ≡ bad → TermAt e left at w u1
          term_unnamed {u1} {first} {end} pos b = term_by u1 pos.kept (λ u i a q f xs ns k ha n t here. arguments_unnamed e left p w u1 first end pos b ha)

          module _ {x l w1 t : List ℕ} {s1 : Progress} {first : CodeValue.Value} {end : ℕ} (pos : PositionalAt e left p w (world e.store x l w1 t s1) first end)
              {m named : ℕ} (hm : number_at 2 e.store end ≡ got m named) {w2 : List ℕ} {s2 : Progress} (nm : NamedAt e.store named m w1 s1 w2 s2)
              {s3 : Progress} (e3 : s3 ≡ locals_s named m s1.back s2) {u4 : World} (fd : FoundTermAt e at (world e.store x l w2 t s3) u4) {s5 : Progress} (e5 : s5 ≡ clear_s u4.st) where
            abbrev known : World
            known = world e.store x l w2 t s2

            abbrev last : Progress → World
            last s = world u4.store u4.text u4.list u4.work u4.trail s

            found_it : FoundTermAt e at (world e.store x l w2 t (locals_s named m s1.back s2)) u4
            found_it = subst (λ (s : Progress). FoundTermAt e at (world e.store x l w2 t s) u4) e3 fd

            kept_last : Kept known (last (clear_s u4.st))
            kept_last = record { begun = found_it.kept.begun; over = found_it.kept.over }

            kept_whole : Kept w (last (clear_s u4.st))
            kept_whole = kept_then (kept_named e left p w x l w1 t s1 first end pos m named hm w2 s2 nm) kept_last

            term_runs : (u : Setup e) (i : Bytes) (a : Option Bytes) (q : Arguments) (f : ℕ) (xs : Inlines) (ns : Named) → inline (suc left) e.store at ≡ got (Inline.term i a q) f → arguments_at (inline left) e.store p ≡ got (xs, ns) f
                → (n : ℕ) (tr : Trail) → Here e w 0 n tr
                → Runs (get_arguments (setting_of e u) (find_of e u) (cross_of e u n) tr xs ns >>= λ g. write_term (cross_of e u n) tr (find_of e u) i a g.named) w (last (clear_s u4.st))
            term_runs u i a q f xs ns k ha n tr here =
                arguments_runs e left p w x l w1 t s1 first end pos m named hm w2 s2 nm (λ g. write_term (cross_of e u n) tr (find_of e u) i a g.named) kept_last u xs ns f ha n tr here
                (λ vs L s o lv fi ni hr here2.
                subst (λ (r : Out Done). Ended L known (last (clear_s u4.st)) r o) (sym (term_out (cross_of e u n) tr (find_of e u) i a (named_texts ns) s))
                (leave_inside e.store x l w2 t s2 named m s1.back u4
                (found_it.runs u (suc left) i a q f k n tr (record { on = here2.on; fuel = here2.fuel; room = here2.room; same = here2.same }) L (within (some (named_texts ns)) s) o
                (live_inside e.store x l w2 t s2 named m s1.back (some_locals ns f s2.back refl hr refl (omega arith) ni) lv))))

            pub term_refused : ((refused_of s5) ≡ 0 → ⊥) → TermAt e left at w (last s5)
            term_refused z = subst (λ (s : Progress). TermAt e left at w (last s)) (sym e5)
                (term_by (last (clear_s u4.st)) kept_whole (λ u i a q f xs ns k ha n tr here.
                release_over w (last (clear_s u4.st)) _ (λ o. z (ap (λ (s : Progress). (refused_of s)) e5 ∙ o)) (term_runs u i a q f xs ns k ha n tr here)))

            pub term_freed : {s6 : Progress} → s6 ≡ back_s w.st.back s5 → TermAt e left at w (last s6)
            term_freed {s6} e6 =
                let e7 : s6 ≡ back_s w.st.back (clear_s u4.st) = e6 ∙ ap (λ (s : Progress). back_s w.st.back s) e5 in
                term_by (last s6)
                (record { begun = (let o = kept_whole.begun in let o2 = ap (λ (s : Progress). s.begun) e7 in omega arith); over = λ f. ap (λ (s : Progress). (refused_of s)) e7 ∙ kept_whole.over f })
                (λ u i a q f xs ns k ha n tr here. release_back w (last (clear_s u4.st)) _ e7 (term_runs u i a q f xs ns k ha n tr here))
