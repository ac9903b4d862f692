-- A formatting from a well-formed store is the same with the u32 limit of its list and without it.
use mathlib.Core.Path.{◌≡◌, refl, ap, sym, subst, ◌∙◌}
use mathlib.Core.List.{List, [], ◌∷◌, ◌++◌, append_assoc, append-nil}
use mathlib.Core.Option.{Option, some}
use Prim.Native.Nat.{◌≤◌}
use lib.ListN.{length}
use Rattle.records.specs.Tree.{Pattern}
use Rattle.records.specs.Images.{Entry, Store}
use Rattle.records.specs.Errors.{Error, enc_errors}
use Rattle.records.specs.Valid.{ValidStore}
use Rattle.layout.specs.Exact.{Octets}
use Rattle.layout.proofs.Theorems.{store_sound}
use Rattle.entries.specs.Lookup.{find_in, part_of}
use Rattle.resolution.specs.Effect.{Bytes, Effect, put, report, begin, expand, unfound, open_text, keep_text, free, merged, Trace}
use Rattle.resolution.specs.Resolve.{Setting, as_message}
use Rattle.resolution.specs.Exec.{Machine, Limits, Ran, ran, refused, allow, listed, step, and_then, exec, start}
use Rattle.resolution.specs.Format.{Buffers, limits_of, ended, run_pattern, format}
use Rattle.theorems.specs.Finished.{reported, reports, trace_of, setting_of, Reached}
use Rattle.theorems.specs.Unlimited.{step_freely, exec_freely, run_freely, format_freely, SameFreely, LimitIdle}
use Rattle.theorems.proofs.Runs.{step_counted}
use Rattle.theorems.proofs.Written.{reports_append}
use Rattle.theorems.proofs.Bounded.{prefix_bound, limit_idle}
use Rattle.theorems.proofs.Judged.{Judged, reached_ends, judged}

module _ (L : Limits) where
  -- a step that lists at most 20 million bytes
  step_free : (e : Effect) (m : Machine) → length (enc_errors (m.errors ++ reported e)) ≤ 20000000 → step L e m ≡ step_freely L e m
  unfolding step_freely step allow listed
  step_free (put b) m h = refl
  step_free (report e) m h = rw (limit_idle (length (enc_errors (m.errors ++ (e ∷ [])))) L.list_len h)
  step_free begin m h = refl
  step_free expand m h = refl
  step_free unfound m h = refl
  step_free open_text m h = refl
  step_free keep_text m h = refl
  step_free (free n) m h = refl
  step_free (merged n) m h = refl

  -- a run from where the trace x has listed its errors, on along y
  exec_free : (x y : Trace) (m : Machine) → m.errors ≡ reports x
      → ((a b : Trace) → x ++ y ≡ a ++ b → length (enc_errors (reports a)) ≤ 20000000) → exec L y m ≡ exec_freely L y m
  unfolding exec exec_freely and_then
  exec_free x [] m q h = refl
  exec_free x (e ∷ y) m q h =
      let both : reports (x ++ (e ∷ [])) ≡ m.errors ++ reported e = reports_append x (e ∷ []) ∙ ap (λ (l : List Error). l ++ (reported e ++ [])) (sym q) ∙ ap (λ (l : List Error). m.errors ++ l) (append-nil (reported e)) in
      let on : x ++ (e ∷ y) ≡ (x ++ (e ∷ [])) ++ y = sym (append_assoc x (e ∷ []) y) in
      let few : length (enc_errors (reports (x ++ (e ∷ [])))) ≤ 20000000 = h (x ++ (e ∷ [])) y on in
      let small : length (enc_errors (m.errors ++ reported e)) ≤ 20000000 = subst (λ (l : List Error). length (enc_errors l) ≤ 20000000) both few in
      ap (λ (r : Ran). and_then r (λ n. exec L y n)) (step_free e m small)
      ∙ go (step_freely L e m) (step_free e m small) (λ n k. exec_free (x ++ (e ∷ [])) y n ((step_counted L e m n k).errors ∙ sym both) (λ a b j. h a b (on ∙ j)))
    where
      go : (r : Ran) → step L e m ≡ r → ((n : Machine) → step L e m ≡ ran n → exec L y n ≡ exec_freely L y n)
          → and_then r (λ n. exec L y n) ≡ and_then r (λ n. exec_freely L y n)
      go (ran n) k ih = ih n k
      go (refused n) k ih = refl

-- a formatting's run from a well-formed store
run_free : (v : Store) → ValidStore v → (st : Setting) (id : Bytes) (e : Entry) (a : Option Bytes) (p : Pattern) → as_message (find_in v.items id) ≡ some e
    → part_of a e ≡ some p → (L : Limits) → run_pattern st (find_in v.items) L p ≡ run_freely st (find_in v.items) L p
unfolding run_pattern run_freely start
run_free v valid st id e a p h q L = exec_free L [] (trace_of st (find_in v.items) p) start refl (λ x y d. prefix_bound v valid st id e a p h q x y d)

module _ (s : Bytes) (oct : Octets s) (id : Bytes) (a : Option Bytes) (image : Bytes) (b : Buffers) where
  -- with the limit and without it, the same
  same_freely : (r : Reached s id a image b) → format s id a image b ≡ format_freely r
  same_freely r =
      let st : Setting = setting_of r.store r.arguments in
      let q : run_pattern st (find_in r.store.items) (limits_of b) r.part ≡ run_freely st (find_in r.store.items) (limits_of b) r.part = run_free r.store (store_sound s oct r.stored).0 st id r.entry a r.part r.found r.has (limits_of b) in
      reached_ends s id a image b r ∙ ap (λ (x : Ran). ended x b) q

  freely : Judged s id a image b → SameFreely s id a image b
  freely (Judged.before n q) = SameFreely.before n q
  freely (Judged.reached r) = SameFreely.reached r (same_freely r)

-- the limit decides nothing
pub limit_decides_nothing : LimitIdle
limit_decides_nothing s oct id a image b = freely s oct id a image b (judged s id a image b)
