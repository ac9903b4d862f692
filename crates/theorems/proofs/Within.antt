-- What a run that ends has made fits into the buffers.
use mathlib.Core.Path.{◌≡◌, refl, subst}
use mathlib.Core.List.{[], ◌∷◌}
use mathlib.Core.Bool.{Bool, true, false}
use Prim.Native.Nat.{ℕ, zero, suc, ◌≤◌}
use native.Mathlib.Omega.{arith}
use lib.ListN.{length, length-append}
use lib.Dec.{leb}
use borrow.Author.Tests.{leb-true}
use Rattle.records.specs.Bytes.{to_be}
use Rattle.records.specs.Tree.{Pattern}
use Rattle.records.specs.Encode.{enc_all, enc_whole}
use Rattle.records.specs.Errors.{enc_errors, list_header}
use Rattle.entries.specs.Lookup.{Find}
use Rattle.resolution.specs.Effect.{Bytes, Effect, put, report, begin, expand, unfound, open_text, keep_text, free, merged, Trace}
use Rattle.resolution.specs.Resolve.{Setting}
use Rattle.resolution.specs.Exec.{Machine, Limits, ran, allow_if, allow, list_limit, put_text, put_work, put_at, step, exec, start}
use Rattle.resolution.specs.Format.{run_pattern}
use Rattle.theorems.specs.Finished.{trace_of}
use Rattle.theorems.proofs.Runs.{not_refused, same_machine, allowed, Onward, onward}

-- the text fits the text buffer, the list the list buffer (if its header does) and a u32, the highest use the workspace; and it is the highest
pub record Within (L : Limits) (m : Machine) : Type 0 where
  pub text : length m.written ≤ L.text_len
  pub list : list_header ≤ L.list_len → length (enc_errors m.errors) ≤ L.list_len
  pub stated : length (enc_errors m.errors) ≤ 4294967295
  pub work : m.high ≤ L.work_len
  pub used : m.used ≤ m.high

-- what was allowed fits
pub allowed_fits : (n k r : ℕ) (m m' : Machine) → allow n k r m ≡ ran m' → n ≤ k
unfolding allow allow_if
allowed_fits n k r m m' = go (leb n k) refl
  where
    go : (b : Bool) → leb n k ≡ b → allow_if b r m ≡ ran m' → n ≤ k
    go true e h = leb-true n k e
    go false e h = absurd (not_refused r m' h)

module _ (L : Limits) where
  put_within : (b : Bytes) (n : ℕ) (m m' : Machine) → Within L m → put_at L b m n ≡ ran m' → Within L m'
  unfolding put_at put_text put_work
  put_within b zero m m' f h = subst (λ x. Within L x) (allowed _ _ _ _ m' h) (record {
    text = omega (arith, length-append m.written b, allowed_fits _ _ _ _ m' h);
    list = f.list;
    stated = f.stated;
    work = f.work;
    used = f.used;
  })
  put_within b (suc n) m m' f h = subst (λ x. Within L x) (allowed _ _ _ _ m' h) (record {
    text = f.text;
    list = f.list;
    stated = f.stated;
    work = omega (arith, allowed_fits _ _ _ _ m' h, f.work);
    used = omega arith;
  })

  step_within : (e : Effect) (m m' : Machine) → Within L m → step L e m ≡ ran m' → Within L m'
  unfolding step list_limit
  step_within (put b) m m' f h = put_within b m.nest m m' f h
  step_within (report e) m m' f h = subst (λ x. Within L x) (allowed _ _ _ _ m' h) (record {
    text = f.text;
    list = λ z. omega (arith, allowed_fits _ _ _ _ m' h);
    stated = omega (arith, allowed_fits _ _ _ _ m' h);
    work = f.work;
    used = f.used;
  })
  step_within begin m m' f h = subst (λ x. Within L x) (same_machine _ m' h) (record { text = f.text; list = f.list; stated = f.stated; work = f.work; used = f.used })
  step_within expand m m' f h = subst (λ x. Within L x) (same_machine _ m' h) (record { text = f.text; list = f.list; stated = f.stated; work = f.work; used = f.used })
  step_within unfound m m' f h = subst (λ x. Within L x) (same_machine _ m' h) (record { text = f.text; list = f.list; stated = f.stated; work = f.work; used = f.used })
  step_within open_text m m' f h = subst (λ x. Within L x) (same_machine _ m' h) (record { text = f.text; list = f.list; stated = f.stated; work = f.work; used = f.used })
  step_within keep_text m m' f h = subst (λ x. Within L x) (same_machine _ m' h) (record { text = f.text; list = f.list; stated = f.stated; work = f.work; used = f.used })
  step_within (free n) m m' f h = subst (λ x. Within L x) (same_machine _ m' h) (record { text = f.text; list = f.list; stated = f.stated; work = f.work; used = omega (arith, f.used) })
  step_within (merged n) m m' f h = subst (λ x. Within L x) (allowed _ _ _ _ m' h) f

  pub exec_within : (t : Trace) (m m' : Machine) → Within L m → exec L t m ≡ ran m' → Within L m'
  unfolding exec
  exec_within [] m m' f h = subst (λ x. Within L x) (same_machine m m' h) f
  exec_within (e ∷ t) m m' f h =
      let o : Onward L e t m m' = onward L e t m m' h in
      exec_within t o.mid m' (step_within e m o.mid f o.first) o.rest

  pub start_within : Within L start
  unfolding start enc_errors enc_whole enc_all to_be list_header
  start_within = record { text = omega arith; list = λ z. z; stated = omega arith; work = omega arith; used = omega arith }

  -- what a run that ends has made fits
  pub within : (st : Setting) (find : Find) (p : Pattern) (m : Machine) → run_pattern st find L p ≡ ran m → Within L m
  unfolding run_pattern
  within st find p m h = exec_within (trace_of st find p) start m start_within h
