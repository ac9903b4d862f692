-- The highest use: a run needs a workspace of just that length, where text and list are as long or longer.
use mathlib.Core.Path.{◌≡◌, refl, ap, ◌∙◌}
use mathlib.Core.List.{[], ◌∷◌}
use mathlib.Core.Bool.{Bool, true, false}
use Prim.Native.Nat.{ℕ, zero, suc, ◌≤◌, ◌<◌}
use native.Mathlib.Omega.{arith}
use lib.Dec.{leb}
use borrow.Author.Tests.{leb-true, leb-false, le-leb, lt-leb}
use Rattle.resolution.specs.Effect.{Bytes, Effect, put, report, begin, expand, unfound, open_text, keep_text, free, merged, Trace}
use Rattle.resolution.specs.Exec.{Machine, Limits, ran, refused, allow_if, allow, put_text, put_work, put_at, step, and_then, exec}
use Rattle.theorems.proofs.Runs.{same_machine, allowed, Onward, onward, exec_step}
use Rattle.theorems.proofs.Wider.{allow_wider, list_wider}

-- text and list as long, or longer
pub record AsWide (L L' : Limits) : Type 0 where
  pub text : L.text_len ≤ L'.text_len
  pub list : L.list_len ≤ L'.list_len

same_high : (m m' : Machine) → m ≡ m' → m.high ≡ m'.high
same_high m m' e = ap (λ (x : Machine). x.high) e

put_high : (L : Limits) (b : Bytes) (n : ℕ) (m m' : Machine) → put_at L b m n ≡ ran m' → m.high ≤ m'.high
unfolding put_at put_text put_work
put_high L b zero m m' h = omega (arith, same_high _ m' (allowed _ _ _ _ m' h))
put_high L b (suc n) m m' h = omega (arith, same_high _ m' (allowed _ _ _ _ m' h))

step_high : (L : Limits) (e : Effect) (m m' : Machine) → step L e m ≡ ran m' → m.high ≤ m'.high
unfolding step
step_high L (put b) m m' h = put_high L b m.nest m m' h
step_high L (report e) m m' h = omega (arith, same_high _ m' (allowed _ _ _ _ m' h))
step_high L begin m m' h = omega (arith, same_high _ m' (same_machine _ m' h))
step_high L expand m m' h = omega (arith, same_high _ m' (same_machine _ m' h))
step_high L unfound m m' h = omega (arith, same_high _ m' (same_machine _ m' h))
step_high L open_text m m' h = omega (arith, same_high _ m' (same_machine _ m' h))
step_high L keep_text m m' h = omega (arith, same_high _ m' (same_machine _ m' h))
step_high L (free n) m m' h = omega (arith, same_high _ m' (same_machine _ m' h))
step_high L (merged n) m m' h = omega (arith, same_high _ m' (allowed _ _ _ _ m' h))

-- the highest use never falls
pub exec_high : (L : Limits) (t : Trace) (m m' : Machine) → exec L t m ≡ ran m' → m.high ≤ m'.high
unfolding exec
exec_high L [] m m' h = omega (arith, same_high m m' (same_machine m m' h))
exec_high L (e ∷ t) m m' h =
    let o : Onward L e t m m' = onward L e t m m' h in
    omega (arith, step_high L e m o.mid o.first, exec_high L t o.mid m' o.rest)

-- what is allowed in a workspace that holds it
fits : (n k k' r : ℕ) (m m' : Machine) → n ≤ k' → allow n k r m ≡ ran m' → allow n k' r m ≡ ran m'
unfolding allow allow_if
fits n k k' r m m' le h = rw (le-leb n k' le) (ap ran (allowed n k r m m' h))

module _ (L L' : Limits) (wide : AsWide L L') where
  put_fits : (b : Bytes) (n : ℕ) (m m' : Machine) → m'.high ≤ L'.work_len → put_at L b m n ≡ ran m' → put_at L' b m n ≡ ran m'
  unfolding put_at put_text put_work
  put_fits b zero m m' le h = allow_wider _ _ _ _ _ m' wide.text h
  put_fits b (suc n) m m' le h = fits _ _ _ _ _ m' (omega (arith, same_high _ m' (allowed _ _ _ _ m' h))) h

  step_fits : (e : Effect) (m m' : Machine) → m'.high ≤ L'.work_len → step L e m ≡ ran m' → step L' e m ≡ ran m'
  unfolding step
  step_fits (put b) m m' le h = put_fits b m.nest m m' le h
  step_fits (report e) m m' le h = allow_wider _ _ _ _ _ m' (list_wider _ _ wide.list) h
  step_fits begin m m' le h = h
  step_fits expand m m' le h = h
  step_fits unfound m m' le h = h
  step_fits open_text m m' le h = h
  step_fits keep_text m m' le h = h
  step_fits (free n) m m' le h = h
  step_fits (merged n) m m' le h = h

  -- a workspace that holds the highest use: the same run
  pub work_enough : (t : Trace) (m m' : Machine) → m'.high ≤ L'.work_len → exec L t m ≡ ran m' → exec L' t m ≡ ran m'
  unfolding exec
  work_enough [] m m' le h = h
  work_enough (e ∷ t) m m' le h =
      let o : Onward L e t m m' = onward L e t m m' h in
      let up : o.mid.high ≤ m'.high = exec_high L t o.mid m' o.rest in
      exec_step L' e t m o.mid (step_fits e m o.mid (omega arith) o.first) ∙ work_enough t o.mid m' le o.rest

  too_long : (n r : ℕ) (m : Machine) → L'.work_len < n → allow n L'.work_len r m ≡ refused r
  unfolding allow allow_if
  too_long n r m lt = rw (lt-leb n L'.work_len lt)

  put_short : (b : Bytes) (n : ℕ) (m m' : Machine) → m.high ≤ L'.work_len → L'.work_len < m'.high → put_at L b m n ≡ ran m' → put_at L' b m n ≡ refused 16
  unfolding put_at put_text put_work
  put_short b zero m m' le lt h = absurd (omega (arith, same_high _ m' (allowed _ _ _ _ m' h)))
  put_short b (suc n) m m' le lt h = too_long _ _ _ (omega (arith, same_high _ m' (allowed _ _ _ _ m' h)))

  step_short : (e : Effect) (m m' : Machine) → m.high ≤ L'.work_len → L'.work_len < m'.high → step L e m ≡ ran m' → step L' e m ≡ refused 16
  unfolding step
  step_short (put b) m m' le lt h = put_short b m.nest m m' le lt h
  step_short (report e) m m' le lt h = absurd (omega (arith, same_high _ m' (allowed _ _ _ _ m' h)))
  step_short begin m m' le lt h = absurd (omega (arith, same_high _ m' (same_machine _ m' h)))
  step_short expand m m' le lt h = absurd (omega (arith, same_high _ m' (same_machine _ m' h)))
  step_short unfound m m' le lt h = absurd (omega (arith, same_high _ m' (same_machine _ m' h)))
  step_short open_text m m' le lt h = absurd (omega (arith, same_high _ m' (same_machine _ m' h)))
  step_short keep_text m m' le lt h = absurd (omega (arith, same_high _ m' (same_machine _ m' h)))
  step_short (free n) m m' le lt h = absurd (omega (arith, same_high _ m' (same_machine _ m' h)))
  step_short (merged n) m m' le lt h = absurd (omega (arith, same_high _ m' (allowed _ _ _ _ m' h)))

  step_stops : (e : Effect) (t : Trace) (m : Machine) (r : ℕ) → step L' e m ≡ refused r → exec L' (e ∷ t) m ≡ refused r
  unfolding exec and_then
  step_stops e t m r h = rw h

  -- a workspace that does not hold the highest use: 16
  pub work_short : (t : Trace) (m m' : Machine) → m.high ≤ L'.work_len → L'.work_len < m'.high → exec L t m ≡ ran m' → exec L' t m ≡ refused 16
  unfolding exec
  work_short [] m m' le lt h = absurd (omega (arith, same_high m m' (same_machine m m' h)))
  work_short (e ∷ t) m m' le lt h =
      let o : Onward L e t m m' = onward L e t m m' h in
      go o (leb o.mid.high L'.work_len) refl (work_short t o.mid m')
    where
      go : (o : Onward L e t m m') (b : Bool) → leb o.mid.high L'.work_len ≡ b
          → (o.mid.high ≤ L'.work_len → L'.work_len < m'.high → exec L t o.mid ≡ ran m' → exec L' t o.mid ≡ refused 16)
          → exec L' (e ∷ t) m ≡ refused 16
      go o true q ih = exec_step L' e t m o.mid (step_fits e m o.mid (leb-true _ _ q) o.first) ∙ ih (leb-true _ _ q) lt o.rest
      go o false q ih = step_stops e t m 16 (step_short e m o.mid le (leb-false _ _ q) o.first)
