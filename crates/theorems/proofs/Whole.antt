-- Whole formattings: the errors and placeables of a run that ends, what it leaves in use, and that more entries and longer buffers change nothing.
use mathlib.Core.Path.{◌≡◌, refl, ap, ◌∙◌}
use mathlib.Core.List.{[], ◌∷◌}
use Prim.Native.Nat.{ℕ, ◌≤◌}
use native.Mathlib.Omega.{arith}
use Rattle.records.specs.Tree.{Pattern}
use Rattle.entries.specs.Lookup.{Find}
use Rattle.entries.proofs.Holders.{Extends}
use Rattle.resolution.specs.Effect.{put, report, begin, expand, unfound, open_text, keep_text, free, merged, Trace, Out, Done}
use Rattle.resolution.specs.Resolve.{Setting, bytes_of, resolve}
use Rattle.resolution.specs.Exec.{Machine, Limits, ran, exec, start}
use Rattle.resolution.specs.Format.{max_patterns, fresh, run_pattern}
use Rattle.theorems.specs.Finished.{reports, too_many_in, trace_of, Placeables}
use Rattle.theorems.proofs.Tally.{is_over, tally}
use Rattle.theorems.proofs.Runs.{Tallied, exec_tallied}
use Rattle.theorems.proofs.Steady.{steady}
use Rattle.theorems.proofs.Wider.{Wider, exec_wider}
use Rattle.theorems.proofs.Counts.{Counted, counted}
use Rattle.theorems.proofs.Fuel.{ok_fresh, deep_enough}
use Rattle.theorems.proofs.Net.{Netted, netted}
use Rattle.theorems.proofs.Kept.{keeps_none}

-- the reports of TooManyPlaceables in a trace are those in its errors
too_many_reports : (t : Trace) → too_many_in (reports t) ≡ tally is_over t
too_many_reports [] = refl
too_many_reports (put b ∷ t) = omega (arith, too_many_reports t)
too_many_reports (report e ∷ t) = omega (arith, too_many_reports t)
too_many_reports (begin ∷ t) = omega (arith, too_many_reports t)
too_many_reports (expand ∷ t) = omega (arith, too_many_reports t)
too_many_reports (unfound ∷ t) = omega (arith, too_many_reports t)
too_many_reports (open_text ∷ t) = omega (arith, too_many_reports t)
too_many_reports (keep_text ∷ t) = omega (arith, too_many_reports t)
too_many_reports (free n ∷ t) = omega (arith, too_many_reports t)
too_many_reports (merged n ∷ t) = omega (arith, too_many_reports t)

module _ (st : Setting) (find : Find) (p : Pattern) where
  -- a formatting's depth is deep enough: with any greater one it runs the same
  pub any_depth : (L : Limits) (n : ℕ) → max_patterns ≤ n → exec L (resolve st find n p (bytes_of p ∷ []) fresh).trace start ≡ run_pattern st find L p
  unfolding run_pattern
  any_depth L n h = rw (deep_enough st find n h p (bytes_of p ∷ []))

  module _ (L : Limits) (m : Machine) (h : run_pattern st find L p ≡ ran m) where
    -- the errors listed are the trace's reports, in order
    pub lists_reports : m.errors ≡ reports (trace_of st find p)
    unfolding run_pattern start
    lists_reports = (exec_tallied L (trace_of st find p) start m h).errors

    -- expanded, begun, and the one TooManyPlaceables
    pub placeables : Placeables m
    unfolding run_pattern start fresh
    placeables =
        let r : Tallied (trace_of st find p) start m = exec_tallied L (trace_of st find p) start m h in
        let c : Counted fresh (trace_of st find p) (resolve st find max_patterns p (bytes_of p ∷ []) fresh).state = counted st find max_patterns p (bytes_of p ∷ []) fresh ok_fresh in
        let o : too_many_in m.errors ≡ tally is_over (trace_of st find p) = ap too_many_in lists_reports ∙ too_many_reports (trace_of st find p) in
        record {
          expanded = omega (arith, r.begun, r.expanded, c.begins, c.expands);
          few = omega (arith, r.begun, c.begins, c.ok.few);
          once = λ q. omega (arith, r.begun, c.begins, c.overs);
          never = λ q. omega (arith, r.begun, c.begins, c.overs);
        }

    -- the text is the action's own, no workspace text is open, and nothing is in use
    pub nothing_left : (m.written ≡ (resolve st find max_patterns p (bytes_of p ∷ []) fresh).text) × (m.nest ≡ 0) × (m.used ≡ 0)
    unfolding run_pattern start
    nothing_left =
        let out : Out Done = resolve st find max_patterns p (bytes_of p ∷ []) fresh in
        let r : Netted start m out.text out.kept = netted st find max_patterns p (bytes_of p ∷ []) fresh L start m h in
        (r.made, r.level, omega (arith, r.used, keeps_none st find max_patterns p (bytes_of p ∷ []) fresh))

    -- where nothing was unfound, a bundle that has more and buffers at least as long give the same machine: text, errors, counts and highest use
    pub whole_steady : (find' : Find) (L' : Limits) → Extends find find' → Wider L L' → m.unfounds ≡ 0 → run_pattern st find' L' p ≡ ran m
    unfolding run_pattern start
    whole_steady find' L' ext w z =
        let r : Tallied (trace_of st find p) start m = exec_tallied L (trace_of st find p) start m h in
        rw (steady st find find' ext max_patterns p (bytes_of p ∷ []) fresh (omega (arith, r.unfounds))) (exec_wider L L' w (trace_of st find p) start m h)
