-- The numbers of a formatting's refusals, before the run and in it.
use mathlib.Core.Path.{◌≡◌, refl, subst, ◌∙◌, sym}
use mathlib.Core.List.{[], ◌∷◌}
use mathlib.Core.Bool.{Bool, true, false}
use mathlib.Core.Option.{Option, none, some}
use Prim.Native.Nat.{ℕ, zero, suc}
use Rattle.records.specs.Got.{Got, got, bad}
use Rattle.records.specs.Tree.{Pattern}
use Rattle.records.specs.Images.{Entry, Store, store_of}
use Rattle.order.specs.Accepted.{Judged, accepted, refused_for, judge}
use Rattle.order.proofs.Accepted.{refused_with}
use Rattle.entries.specs.Lookup.{Find, find_in}
use Rattle.resolution.specs.Effect.{Bytes, Effect, put, report, begin, expand, unfound, open_text, keep_text, free, merged, Trace}
use Rattle.resolution.specs.Resolve.{Setting}
use Rattle.resolution.specs.Exec.{Machine, Limits, Ran, ran, refused, put_text, put_work, put_at, step, and_then, exec, start}
use Rattle.resolution.specs.Format.{Buffers, Formatted, limits_of, refuse, or_refuse, ended, run_pattern, format_with, format_arguments, format_part, format_entry, format_store, format}
use Rattle.theorems.specs.Finished.{trace_of, setting_of, Before, Running, Numbered}
use Rattle.theorems.proofs.Runs.{not_refused, refused_fits}

module _ (L : Limits) where
  put_refused : (b : Bytes) (n : ℕ) (m : Machine) (c : ℕ) → put_at L b m n ≡ refused c → Running c
  unfolding put_at put_text put_work
  put_refused b zero m c h = subst Running (refused_fits _ _ 15 c _ h).0 Running.text
  put_refused b (suc n) m c h = subst Running (refused_fits _ _ 16 c _ h).0 Running.work

  step_refused : (e : Effect) (m : Machine) (c : ℕ) → step L e m ≡ refused c → Running c
  unfolding step
  step_refused (put b) m c h = put_refused b m.nest m c h
  step_refused (report e) m c h = subst Running (refused_fits _ _ 7 c _ h).0 Running.list
  step_refused begin m c h = absurd (not_refused c _ (sym h))
  step_refused expand m c h = absurd (not_refused c _ (sym h))
  step_refused unfound m c h = absurd (not_refused c _ (sym h))
  step_refused open_text m c h = absurd (not_refused c _ (sym h))
  step_refused keep_text m c h = absurd (not_refused c _ (sym h))
  step_refused (free n) m c h = absurd (not_refused c _ (sym h))
  step_refused (merged n) m c h = subst Running (refused_fits _ _ 17 c _ h).0 Running.merge

  pub exec_refused : (t : Trace) (m : Machine) (c : ℕ) → exec L t m ≡ refused c → Running c
  unfolding exec and_then
  exec_refused [] m c h = absurd (not_refused c m (sym h))
  exec_refused (e ∷ t) m c h = go (step L e m) refl (λ n. exec_refused t n c) h
    where
      go : (r : Ran) → step L e m ≡ r → ((n : Machine) → exec L t n ≡ refused c → Running c) → and_then r (λ n. exec L t n) ≡ refused c → Running c
      go (ran n) q ih k = ih n k
      go (refused d) q ih k = step_refused e m c (q ∙ k)

  -- a run is refused with 15, 7, 16 or 17
  pub run_refused : (st : Setting) (find : Find) (p : Pattern) (c : ℕ) → run_pattern st find L p ≡ refused c → Running c
  unfolding run_pattern
  run_refused st find p c h = exec_refused (trace_of st find p) start c h

module _ (b : Buffers) where
  numbered_test : (c : Bool) (n : ℕ) (f : Formatted) → Before n → Numbered f.answer → Numbered (or_refuse c n b f).answer
  unfolding or_refuse refuse
  numbered_test true n f g h = h
  numbered_test false n f g h = g

  numbered_end : (st : Setting) (find : Find) (p : Pattern) (r : Ran) → run_pattern st find (limits_of b) p ≡ r → Numbered (ended r b).answer
  unfolding ended
  numbered_end st find p (ran m) h = tt
  numbered_end st find p (refused c) h = run_refused (limits_of b) st find p c h

  numbered_arguments : (store : Store) (p : Pattern) (g : Judged) → ((n : ℕ) → g ≡ refused_for n → Before n) → Numbered (format_arguments store p g b).answer
  unfolding format_arguments format_with refuse
  numbered_arguments store p (accepted args) h = numbered_test _ 7 _ Before.header (numbered_end (setting_of store args) (find_in store.items) p _ refl)
  numbered_arguments store p (refused_for n) h = h n refl

  module _ (image : Bytes) where
    numbered_part : (store : Store) (o : Option Pattern) → Numbered (format_part store o image b).answer
    unfolding format_part refuse
    numbered_part store (some p) = numbered_arguments store p (judge image) (refused_with Before Before.arguments Before.order image)
    numbered_part store none = Before.part

    numbered_entry : (store : Store) (a : Option Bytes) (o : Option Entry) → Numbered (format_entry store o a image b).answer
    unfolding format_entry refuse
    numbered_entry store a (some x) = numbered_part store _
    numbered_entry store a none = Before.message

    numbered_store : (id : Bytes) (a : Option Bytes) (g : Got Store) → Numbered (format_store g id a image b).answer
    unfolding format_store refuse
    numbered_store id a (got store z) = numbered_test _ 8 _ Before.ids (numbered_entry store a _)
    numbered_store id a bad = Before.store

    -- every refusal of a formatting is one of those listed, in its place
    pub numbered : (s id : Bytes) (a : Option Bytes) → Numbered (format s id a image b).answer
    unfolding format
    numbered s id a = numbered_store id a (store_of s)
