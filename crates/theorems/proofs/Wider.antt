-- Longer buffers: the same run.
use mathlib.Core.Path.{◌≡◌, refl, ◌∙◌}
use mathlib.Core.List.{[], ◌∷◌}
use mathlib.Core.Bool.{Bool, true, false}
use Prim.Native.Nat.{ℕ, zero, suc, ◌≤◌}
use native.Mathlib.Omega.{arith}
use lib.Dec.{leb}
use borrow.Author.Tests.{leb-true, le-leb}
use Rattle.resolution.specs.Effect.{Bytes, Effect, put, report, begin, expand, unfound, open_text, keep_text, free, merged, Trace}
use Rattle.resolution.specs.Exec.{Machine, Limits, ran, allow_if, allow, list_limit, put_text, put_work, put_at, step, exec}
use Rattle.theorems.proofs.Runs.{not_refused, Onward, onward, exec_step}

-- text, list and workspace each at least as long
pub record Wider (L L' : Limits) : Type 0 where
  pub text : L.text_len ≤ L'.text_len
  pub list : L.list_len ≤ L'.list_len
  pub work : L.work_len ≤ L'.work_len

-- what fits into one length fits into a longer one
pub allow_wider : (n k k' r : ℕ) (m m' : Machine) → k ≤ k' → allow n k r m ≡ ran m' → allow n k' r m ≡ ran m'
unfolding allow allow_if
allow_wider n k k' r m m' le = go (leb n k) refl
  where
    go : (b : Bool) → leb n k ≡ b → allow_if b r m ≡ ran m' → allow_if (leb n k') r m ≡ ran m'
    go true e h = rw (le-leb n k' (omega (arith, leb-true n k e))) h
    go false e h = absurd (not_refused r m' h)

pub list_wider : (k k' : ℕ) → k ≤ k' → list_limit k ≤ list_limit k'
unfolding list_limit
list_wider k k' h = omega arith

module _ (L L' : Limits) (w : Wider L L') where
  put_wider : (b : Bytes) (n : ℕ) (m m' : Machine) → put_at L b m n ≡ ran m' → put_at L' b m n ≡ ran m'
  unfolding put_at put_text put_work
  put_wider b zero m m' h = allow_wider _ _ _ _ _ m' w.text h
  put_wider b (suc n) m m' h = allow_wider _ _ _ _ _ m' w.work h

  step_wider : (e : Effect) (m m' : Machine) → step L e m ≡ ran m' → step L' e m ≡ ran m'
  unfolding step
  step_wider (put b) m m' h = put_wider b m.nest m m' h
  step_wider (report e) m m' h = allow_wider _ _ _ _ _ m' (list_wider _ _ w.list) h
  step_wider begin m m' h = h
  step_wider expand m m' h = h
  step_wider unfound m m' h = h
  step_wider open_text m m' h = h
  step_wider keep_text m m' h = h
  step_wider (free n) m m' h = h
  step_wider (merged n) m m' h = h

  -- a run that is not refused leads to the same machine where the buffers are longer
  pub exec_wider : (t : Trace) (m m' : Machine) → exec L t m ≡ ran m' → exec L' t m ≡ ran m'
  unfolding exec
  exec_wider [] m m' h = h
  exec_wider (e ∷ t) m m' h =
      let o : Onward L e t m m' = onward L e t m m' h in
      exec_step L' e t m o.mid (step_wider e m o.mid o.first) ∙ exec_wider t o.mid m' o.rest
