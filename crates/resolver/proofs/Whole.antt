-- The run of a pattern, from where text, list and counts stand.
use Rattle.state.specs.Progress.{refused_of}
use mathlib.Core.Path.{◌≡◌, refl, ap, sym, subst, ◌∙◌}
use mathlib.Core.List.{List, [], ◌∷◌}
use Prim.Native.Nat.{ℕ, ◌+◌, ◌-◌, ◌≤◌}
use native.Mathlib.Omega.{arith}
use lib.ListN.{length, get_or}
use lib.Dec.{ltb}
use Rattle.records.specs.Got.{got}
use Rattle.records.specs.Bytes.{number_at}
use Rattle.records.specs.Tree.{Pattern}
use Rattle.records.specs.Decode.{expression, pattern_at, entry_pattern_at, max_depth}
use Rattle.records.specs.Encode.{enc_all}
use Rattle.records.proofs.Views.{pattern_elim}
use Rattle.records.proofs.Laws.{number_inv}
use Rattle.resolution.specs.Effect.{Out, Done}
use Rattle.resolution.specs.Resolve.{bytes_of, resolve}
use Rattle.resolution.specs.Exec.{Machine, ran, exec, start}
use Rattle.resolution.specs.Format.{Buffers, limits_of, max_patterns, fresh}
use Rattle.theorems.specs.Finished.{trace_of}
use Rattle.theorems.proofs.Net.{inward, Netted, netted}
use Rattle.theorems.proofs.Kept.{keeps_none}
use Rattle.trail.specs.Relations.Trail.{prefixed, pattern_bytes, trail_of}
use Rattle.state.specs.Progress.{scope_of, scoped_s}
use Rattle.state.specs.declared.Progress.{Progress}
use Rattle.resolver.specs.Relations.Meets.{World, world, Live, no_locals, Ended, ended, stopped, Env, Setup, setting_of, find_of}
use Rattle.resolver.specs.Relations.Members.{PatternAt}
use Rattle.state.specs.Setters.{depth_s, new_s}
use Rattle.resolver.proofs.Refusals.{refused_small}
use Rattle.resolver.specs.Relations.Runs.{Rests, RanAs, ran_as, refused_as}

abbrev pub buffers : List ℕ → List ℕ → List ℕ → Buffers
buffers x l w = record { text = x; list = l; work = w }

-- the state in which a pattern's run begins: nothing is begun, there are no term's arguments, and the pattern is on the trail
abbrev pub entered : Progress → Progress
entered p = scoped_s (scope_of (new_s 0)) (depth_s 1 p)

-- a pattern that is written from one state is written from each that equals it
pub from_state : {e : Env} {n at : ℕ} {s x l w t : List ℕ} {p q : Progress} {v : World} → p ≡ q → PatternAt e n at (world s x l w t p) v → PatternAt e n at (world s x l w t q) v
from_state {e} {n} {at} {s} {x} {l} {w} {t} {p} {q} {v} eq h = subst (λ (y : Progress). PatternAt e n at (world s x l w t y) v) eq h

module _ (e : Env) (q : ℕ) (x l w : List ℕ) (p : Progress) (t : List ℕ) (tl : length t ≡ 102) (t0 : get_or t 0 0 ≡ q) {v : World} (h : PatternAt e 32 q (world e.store x l w t (entered p)) v) where
  on_start : (y : Pattern) (f : ℕ) → pattern_at (expression 32) e.store q ≡ got y f → bytes_of y ∷ [] ≡ trail_of e.store t 1
  unfolding trail_of pattern_bytes prefixed bytes_of
  on_start y f hp = pattern_elim (expression 32) e.store q hp (λ n a k b es hn hk z he ef ep.
      let m : f - q ≡ 4 + n = after_four n a f hn ef in
      rw (ep, t0, hn, m))
    where
      after_four : (n a f : ℕ) → number_at 4 e.store q ≡ got n a → f ≡ a + n → f - q ≡ 4 + n
      after_four n a f hn ef = let i = number_end n a hn in omega arith
        where
          number_end : (n a : ℕ) → number_at 4 e.store q ≡ got n a → a ≡ q + 4
          number_end n a hn = (number_inv e.store 4 q hn).1

  module _ (k : Machine) (none : k.begun ≡ 0) (r : Rests x l w p k) where
    live_start : Live (limits_of (buffers x l w)) (world e.store x l w t (entered p)) fresh k
    unfolding fresh limits_of
    live_start = record {
      go = r.go;
      text_len = refl;
      list_len = refl;
      work_len = refl;
      trail_len = tl;
      text_in = r.text_in;
      header_in = r.header_in;
      list_in = r.list_in;
      list_u32 = r.list_u32;
      front_in = omega (arith, r.front);
      back_in = omega (arith, r.back);
      written = r.written;
      listed = r.listed;
      errors = r.errors;
      nest = r.aside ∙ ap (λ (n : ℕ). ltb 0 n) (sym r.nest);
      uses = omega (arith, r.used, r.front, r.back);
      high = r.high;
      unfounds = r.unfounds;
      begun = refl;
      machine_begun = none;
      dirty = refl;
      few = λ _. omega arith;
      most = omega arith;
      locals = no_locals refl refl;
    }

    module _ (u : Setup e) (y : Pattern) where
      out : Out Done
      out = resolve (setting_of e u) (find_of e u) max_patterns y (bytes_of y ∷ []) fresh

      run : (f : ℕ) → entry_pattern_at e.store q ≡ got y f → Ended (limits_of (buffers x l w)) (world e.store x l w t (entered p)) v out k
      unfolding out resolve entry_pattern_at max_depth max_patterns
      run f hp = h.runs u y f hp 101 (bytes_of y ∷ []) (record { on = on_start y f hp; fuel = omega arith; room = omega arith; same = refl }) (limits_of (buffers x l w)) fresh k live_start

      -- nothing is kept, so nothing is in use again
      free_again : (m : Machine) → exec (limits_of (buffers x l w)) out.trace k ≡ ran m → (m.nest ≡ 0) × (m.used ≡ 0)
      unfolding out
      free_again m eq =
          let n : Netted k m out.text out.kept = netted (setting_of e u) (find_of e u) max_patterns y (bytes_of y ∷ []) fresh (limits_of (buffers x l w)) k m eq in
          let z : k.nest ≡ 0 = r.nest in
          let used : m.used ≡ k.used + inward 0 out.text + out.kept = subst (λ (i : ℕ). m.used ≡ k.used + inward i out.text + out.kept) z n.used in
          (n.level ∙ z, omega (arith, used, r.used, keeps_none (setting_of e u) (find_of e u) max_patterns y (bytes_of y ∷ []) fresh))

      ended_as : Ended (limits_of (buffers x l w)) (world e.store x l w t (entered p)) v out k → RanAs (exec (limits_of (buffers x l w)) out.trace k) x l p v.text v.list v.work v.st v.st.begun × ((refused_of v.st) ≡ 0 → v.st.begun ≤ 101)
      unfolding limits_of
      ended_as (ended m eq lv n mv) =
          let z = free_again m eq in (
            ran_as m eq (record {
              go = lv.go;
              text_in = lv.text_in;
              header_in = lv.header_in;
              list_in = lv.list_in;
              list_u32 = lv.list_u32;
              front = omega (arith, lv.uses, z.1);
              back = omega (arith, lv.uses, z.1, lv.back_in);
              aside = lv.nest ∙ ap (λ (i : ℕ). ltb 0 i) z.0;
              written = lv.written;
              listed = lv.listed;
              errors = lv.errors;
              nest = z.0;
              used = z.1;
              high = lv.high;
              unfounds = lv.unfounds;
            }) (sym lv.machine_begun) (record { text_up = mv.outs.text_up; list_up = mv.outs.list_up; text_rest = mv.outs.text_rest; list_rest = mv.outs.list_rest }),
            λ g. omega (arith, lv.begun, lv.most),
          )
      ended_as (stopped n eq z g) = (refused_as n eq z (refused_small (limits_of (buffers x l w)) out.trace k n eq) g, λ o. absurd (z (sym g ∙ o)))

      pub run_on : (f : ℕ) → entry_pattern_at e.store q ≡ got y f
          → RanAs (exec (limits_of (buffers x l w)) (trace_of (setting_of e u) (find_of e u) y) k) x l p v.text v.list v.work v.st v.st.begun × ((refused_of v.st) ≡ 0 → v.st.begun ≤ 101)
      unfolding out
      run_on f hp = ended_as (run f hp)

-- where the first message of a formatting begins
pub rests_start : (x l w : List ℕ) → 5 ≤ length l → Rests x l w (new_s (length w)) start
unfolding start enc_all
rests_start x l w header = record {
  go = refl;
  text_in = omega arith;
  header_in = omega arith;
  list_in = header;
  list_u32 = omega arith;
  front = refl;
  back = refl;
  aside = refl;
  written = refl;
  listed = refl;
  errors = refl;
  nest = refl;
  used = refl;
  high = refl;
  unfounds = refl;
}
