-- A select: its selector's text is freed, then the variant that was chosen is written, or MissingDefault is listed.
use Rattle.state.specs.Progress.{refused_of}
use Rattle.records.specs.Relations.Answer.{Next}
use Rattle.std.specs.Prelude.{Some, None}
use mathlib.Core.Path.{◌≡◌, refl, ap, sym, subst, ◌∙◌}
use mathlib.Core.Option.{Option, none, some}
use Prim.Native.Nat.{ℕ, zero, suc}
use native.Mathlib.Omega.{arith}
use Rattle.numbers.specs.Value.{Value}
use Rattle.records.specs.Got.{got}
use Rattle.records.specs.Bytes.{number_at}
use Rattle.records.specs.Tree.{Pattern, Expression, Inline, Variants, no_variant, or, variant}
use Rattle.records.specs.Decode.{pattern_at, expression, inline}
use Rattle.records.specs.Images.{Store, store_of}
use Rattle.records.specs.Errors.{missing_default}
use Rattle.records.proofs.Views.{select_elim}
use Rattle.entries.specs.Lookup.{Find}
use Rattle.resolution.specs.Effect.{report, M, Done, emit, release}
use Rattle.resolution.specs.Resolve.{Setting, Trail, chosen, write_pattern, write_expression, write_nth, write_variant, resolve_inline}
use Rattle.state.specs.declared.Progress.{Progress}
use Rattle.values.specs.declared.Value as CodeValue
use Rattle.resolver.specs.Relations.Meets.{World, world, Runs, Kept, Acts, Holds, Env, Setup, setting_of, find_of, cross_of}
use Rattle.variants.specs.Relations.Pick.{pattern_of, nth_of, Pick, picked, no_pick, PickAt}
use Rattle.resolver.specs.Relations.Members.{Here, PatternAt, SelectAt, ValueAt}
use Rattle.state.specs.Setters.{back_s}
use Rattle.resolver.proofs.Single.Laws.{stays, here_stays, kept_same, kept_then, ended_then}
use Rattle.resolver.proofs.Single.Steps.{runs_as, runs_over}
use Rattle.resolver.proofs.Single.Release.{freed, kept_freed, ended_release, release_over, runs_stopped}

-- the nth variant
module _ (st : Setting) (find : Find) (cross : Pattern → Trail → M Done) (t : Trail) where
  nth_none : (vs : Variants) → write_nth st find cross t vs none ≡ emit (report missing_default)
  unfolding write_nth
  nth_none no_variant = refl
  nth_none (or v vs) = refl

  nth_some : (vs : Variants) (i : ℕ) {p : Pattern} → nth_of vs i ≡ some p → write_nth st find cross t vs (some i) ≡ write_pattern st find cross t p
  unfolding write_nth nth_of pattern_of write_variant
  nth_some no_variant i h = let z : ◌≡◌ {A = ℕ} 0 1 = cc in absurd (omega arith)
  nth_some (or (variant k d q) vs) zero {p} h = let e : q ≡ p = cc in ap (write_pattern st find cross t) e
  nth_some (or (variant k d q) vs) (suc i) h = nth_some vs i h

module _ (e : Env) (left at : ℕ) where
  pub select_over : (w : World) → ((refused_of w.st) ≡ 0 → ⊥) → SelectAt e left at w w
  select_over w h = record { kept = kept_same w; runs = λ u y f k n t here. runs_over _ w h }

  module _ (w u1 : World) (c : CodeValue.Value) (val : ValueAt e left at w u1 c) where
    -- refused while the selector was resolved
    pub select_stopped : ((refused_of u1.st) ≡ 0 → ⊥) → SelectAt e left at w u1
    unfolding write_expression
    select_stopped z = record {
      kept = val.kept;
      runs = λ u y f k n t here. select_elim (expression left) (inline left) e.store at k (λ i p k' q vs hi hk zk hv ey.
          runs_as (ap (λ (x : Expression). write_expression (setting_of e u) (find_of e u) (cross_of e u n) t x) ey)
          (runs_stopped _ _ z (release_over w u1 _ z (val.runs u i p hi n t here))));
    }

    module _ {s2 : Progress} (es : s2 ≡ back_s w.st.back u1.st) {rn : Next} (past : (y : Inline) (f : ℕ) → inline left e.store at ≡ got y f → rn ≡ Some f) where
      abbrev after : World
      after = world u1.store u1.text u1.list u1.work u1.trail s2

      -- no selector stands there: never
      pub select_never : rn ≡ None → SelectAt e left at w after
      select_never en = record {
        kept = subst (λ (o : Progress). Kept w (world u1.store u1.text u1.list u1.work u1.trail o)) (sym es) (kept_freed w u1 val.kept);
        runs = λ u y f k. select_elim (expression left) (inline left) e.store at k (λ i p k' q vs hi hk zk hv ey.
            let o = past i p hi in let z : ◌≡◌ {A = ℕ} 0 1 = cc in absurd (omega arith));
      }

      module _ (q : ℕ) (en : rn ≡ Some q) {rc : Next}
          (ch : (v : Value) (low : ℕ) (st : Store) (f : ℕ) → Holds e.store e.given.args u1.work low c v → store_of e.store ≡ got st f → PickAt e.store q (chosen st.locale v) rc) where
        -- what comes after the choice
        after_choice : {v : World} → Kept (freed w u1) v
            → ((u : Setup e) (vs : Variants) (o : Option ℕ) → Pick e.store left o vs rc → (n : ℕ) (t : Trail) → Here e (freed w u1) 0 n t → Runs (write_nth (setting_of e u) (find_of e u) (cross_of e u n) t vs o) (freed w u1) v)
            → SelectAt e left at w v
        unfolding write_expression release
        after_choice {v} kp go = record {
          kept = kept_then (kept_freed w u1 val.kept) kp;
          runs = λ u y f k n t here. select_elim (expression left) (inline left) e.store at k (λ i p k' q' vs hi hk zk hv ey.
              let eq : q ≡ p = (let o = past i p hi in cc) in
              let r = resolve_inline (setting_of e u) (find_of e u) (cross_of e u n) t i in
              runs_as (ap (λ (x : Expression). write_expression (setting_of e u) (find_of e u) (cross_of e u n) t x) ey)
              (λ L s m lv.
              ended_then (release r) (λ x. write_nth (setting_of e u) (find_of e u) (cross_of e u n) t vs (chosen (setting_of e u).locale x vs)) L s m
              (ended_release w u1 r L s m lv (val.runs u i p hi n t here L s m lv)) kp (λ m' l' mv.
              let hd = val.holds u i p hi n t here L s m lv l'.go in
              let pk = ch (r s).value u1.st.back u.held u.used hd u.held_at left k' q' vs f (subst (λ (j : ℕ). number_at 2 e.store j ≡ got k' q') (sym eq) hk) hv in
              go u vs (chosen u.held.locale (r s).value vs) pk n t (here_stays here (kept_freed w u1 val.kept) (stays mv)) L (r s).state m' l')));
        }

        pub select_chosen : {to : ℕ} {v : World} → rc ≡ Some to → PatternAt e left to after v → SelectAt e left at w v
        select_chosen {to} {v} ec h =
            let h2 : PatternAt e left to (freed w u1) v = subst (λ (o : Progress). PatternAt e left to (world u1.store u1.text u1.list u1.work u1.trail o) v) es h in
            after_choice h2.kept (λ u vs o pk n t here. go u vs o n t here h2 pk)
          where
            go : (u : Setup e) (vs : Variants) (o : Option ℕ) (n : ℕ) (t : Trail) → Here e (freed w u1) 0 n t → PatternAt e left to (freed w u1) v → Pick e.store left o vs rc
                → Runs (write_nth (setting_of e u) (find_of e u) (cross_of e u n) t vs o) (freed w u1) v
            go u vs o n t here h2 (picked i q' p f er eo hn hp) =
                let eq : q' ≡ to = cc in
                runs_as (ap (write_nth (setting_of e u) (find_of e u) (cross_of e u n) t vs) eo ∙ nth_some (setting_of e u) (find_of e u) (cross_of e u n) t vs i hn)
                (h2.runs u p f (subst (λ (j : ℕ). pattern_at (expression left) e.store j ≡ got p f) eq hp) n t
                (record { on = here.on; fuel = (let a = here.fuel in omega arith); room = (let a = here.room in omega arith); same = here.same }))
            go u vs o n t here h2 (no_pick er eo) = let z : ◌≡◌ {A = ℕ} 0 1 = cc in absurd (omega arith)

        pub select_default : {v : World} → rc ≡ None → Acts (emit (report missing_default)) after v → SelectAt e left at w v
        select_default {v} ec h =
            let h2 : Acts (emit (report missing_default)) (freed w u1) v = subst (λ (o : Progress). Acts (emit (report missing_default)) (world u1.store u1.text u1.list u1.work u1.trail o) v) es h in
            after_choice h2.kept (λ u vs o pk n t here. go u vs o n t h2 pk)
          where
            go : (u : Setup e) (vs : Variants) (o : Option ℕ) (n : ℕ) (t : Trail) → Acts (emit (report missing_default)) (freed w u1) v → Pick e.store left o vs rc
                → Runs (write_nth (setting_of e u) (find_of e u) (cross_of e u n) t vs o) (freed w u1) v
            go u vs o n t h2 (picked i q' p f er eo hn hp) = let z : ◌≡◌ {A = ℕ} 0 1 = cc in absurd (omega arith)
            go u vs o n t h2 (no_pick er eo) = runs_as (ap (write_nth (setting_of e u) (find_of e u) (cross_of e u n) t vs) eo ∙ nth_none (setting_of e u) (find_of e u) (cross_of e u n) t vs) h2.runs
