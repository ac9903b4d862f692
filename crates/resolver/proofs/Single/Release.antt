-- What an action left at the workspace's back is freed: the back goes where it was before.
use Rattle.state.specs.Progress.{refused_of}
use mathlib.Core.Path.{◌≡◌, ap, sym, subst, ◌∙◌}
use mathlib.Core.List.{[], ◌∷◌}
use mathlib.Core.Bool.{true≢false}
use mathlib.Core.Option.{some}
use Prim.Native.Nat.{ℕ, ◌-◌}
use native.Mathlib.Omega.{arith}
use lib.ListN.{length, drop}
use Rattle.records.specs.Got.{got}
use Rattle.records.specs.Tree.{Named}
use Rattle.records.specs.Decode.{many, named_at}
use Rattle.records.proofs.Views.{both}
use Rattle.resolution.specs.Effect.{free, Locals, State, Out, M, ◌>>=◌, release}
use Rattle.resolution.specs.Exec.{Machine, Limits, refused, exec, and_then, step}
use Rattle.state.specs.declared.Progress.{Progress}
use Rattle.resolver.specs.Relations.Meets.{World, world, Live, Ended, ended, stopped, Runs, Kept, LocalsAt, no_locals, some_locals, LocalsStay, locals_same, locals_cleared, named_texts}
use Rattle.state.specs.Setters.{back_s}
use Rattle.resolver.proofs.Single.Laws.{exec_append, drop_more, kept_same, ended_then}
use Rattle.resolver.proofs.Single.Locals.{named_stays}

-- where an action ended refused, it was stopped
pub ended_over : {A : Type 0} {C : Type 0} {L : Limits} {w u : World} {r : Out A} {k : Machine} → ((refused_of u.st) ≡ 0 → ⊥) → Ended L w u r k
    → ((n : ℕ) → exec L r.trace k ≡ refused n → (n ≡ 0 → ⊥) → (refused_of u.st) ≡ n → C) → C
ended_over f (ended k' e lv n mv) c = absurd (f lv.go)
ended_over f (stopped n e z r) c = c n e z r

module _ (w u : World) where
  abbrev pub freed : World
  freed = world u.store u.text u.list u.work u.trail (back_s w.st.back u.st)

  pub kept_freed : Kept w u → Kept w freed
  kept_freed h = record { begun = h.begun; over = h.over }

  -- a term's arguments were there before, and lie above the back that was there then
  pub locals_freed : {l l' : Locals} → u.store ≡ w.store → length u.work ≡ length w.work → drop w.st.back u.work ≡ drop w.st.back w.work → LocalsStay w.st u.st
      → LocalsAt w l → LocalsAt u l' → LocalsAt freed l'
  locals_freed i n r st before (no_locals f o) = no_locals f o
  locals_freed i n r (locals_cleared c) before (some_locals ns f low t h o k x) = absurd (true≢false (sym t ∙ c))
  locals_freed i n r (locals_same e₀ e₁ e₂ e₃) (no_locals f' o') (some_locals ns f low t h o k x) = absurd (true≢false (sym t ∙ e₀ ∙ f'))
  locals_freed {l' = l'} i n r (locals_same e₀ e₁ e₂ e₃) (some_locals ns' f' low' t' h' o' k' x') (some_locals ns f low t h o k x) =
      let g : many [] ◌∷◌ u.st.local_count named_at u.store u.st.local_at ≡ got ns' f' = rw (e₂, i, e₁) h' in
      both g h (λ en _.
      some_locals ns' f' low' t g (o ∙ ap (λ (q : Named). some (named_texts q)) (sym en)) k'
      (rw e₃ (named_stays n (drop_more u.work w.work w.st.back low' k' r) x')))

  pub ended_release : {A : Type 0} (m : M A) (L : Limits) (s : State) (k : Machine) → Live L w s k → Ended L w u (m s) k → Ended L w freed (release m s) k
  unfolding release exec step and_then
  ended_release m L s k lw (ended k' e lv n mv) =
      let b = mv.back in let wl = lw.work_len in let bi = lw.back_in in let us = lv.uses in let f = lv.front_in in let bl = lv.back_in in let ul = lv.work_len in
      ended (record { written = k'.written; errors = k'.errors; nest = k'.nest; used = k'.used - (m s).kept; high = k'.high; begun = k'.begun; expanded = k'.expanded; unfounds = k'.unfounds })
      (exec_append L (m s).trace (free (m s).kept ∷ []) k ∙ rw e)
      (record {
        go = lv.go;
        text_len = lv.text_len;
        list_len = lv.list_len;
        work_len = lv.work_len;
        trail_len = lv.trail_len;
        text_in = lv.text_in;
        header_in = lv.header_in;
        list_in = lv.list_in;
        list_u32 = lv.list_u32;
        front_in = omega arith;
        back_in = omega arith;
        written = lv.written;
        listed = lv.listed;
        errors = lv.errors;
        nest = lv.nest;
        uses = omega arith;
        high = lv.high;
        unfounds = lv.unfounds;
        begun = lv.begun;
        machine_begun = lv.machine_begun;
        dirty = lv.dirty;
        few = lv.few;
        most = lv.most;
        locals = locals_freed mv.store (ul ∙ sym wl) mv.rest mv.stay lw.locals lv.locals;
      })
      n
      (record { store = mv.store; front = mv.front; back = omega arith; rest = mv.rest; aside = mv.aside; depth = mv.depth; trail = mv.trail; stay = go mv.stay; outs = record { text_up = mv.outs.text_up; list_up = mv.outs.list_up; text_rest = mv.outs.text_rest; list_rest = mv.outs.list_rest } })
    where
      go : LocalsStay w.st u.st → LocalsStay w.st (back_s w.st.back u.st)
      go (locals_same e₀ e₁ e₂ e₃) = locals_same e₀ e₁ e₂ e₃
      go (locals_cleared c) = locals_cleared c
  ended_release m L s k lw (stopped n e z r) = stopped n (exec_append L (m s).trace (free (m s).kept ∷ []) k ∙ rw e) z r

  -- the same, where the code gives the state by an equation
  pub release_back : {A : Type 0} (m : M A) {r : Progress} → r ≡ back_s w.st.back u.st → Runs m w u → Runs (release m) w (world u.store u.text u.list u.work u.trail r)
  release_back m er h L s k lw = subst (λ (q : Progress). Ended L w (world u.store u.text u.list u.work u.trail q) (release m s) k) (sym er) (ended_release m L s k lw (h L s k lw))

  -- refused before it was freed
  pub stopped_release : {A : Type 0} (m : M A) (L : Limits) (s : State) (k : Machine) → ((refused_of u.st) ≡ 0 → ⊥) → Ended L w u (m s) k → Ended L w u (release m s) k
  unfolding release exec step and_then
  stopped_release m L s k f h = ended_over f h (λ n e z r. stopped n (exec_append L (m s).trace (free (m s).kept ∷ []) k ∙ rw e) z r)

  pub release_over : {A : Type 0} (m : M A) → ((refused_of u.st) ≡ 0 → ⊥) → Runs m w u → Runs (release m) w u
  release_over m f h L s k lw = stopped_release m L s k f (h L s k lw)

-- an action after one that ended refused does nothing
pub runs_stopped : {A B : Type 0} {w u : World} (m : M A) (f : A → M B) → ((refused_of u.st) ≡ 0 → ⊥) → Runs m w u → Runs (m >>= f) w u
runs_stopped {u = u} m f z h L s k lw = ended_then m f L s k (h L s k lw) (kept_same u) (λ k' lv mv. absurd (z lv.go))
