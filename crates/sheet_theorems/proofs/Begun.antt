-- No run looks at the placeables begun: with more of them at its start it does the same, and has as many more at its end.
use mathlib.Core.Path.{◌≡◌, refl, ap, ◌∙◌}
use mathlib.Core.List.{[], ◌∷◌}
use mathlib.Core.Bool.{Bool, true, false}
use Prim.Native.Nat.{ℕ, zero, suc, ◌+◌}
use native.Mathlib.Omega.{arith}
use lib.Dec.{leb}
use Rattle.resolution.specs.Effect.{Bytes, Effect, put, report, begin, expand, unfound, open_text, keep_text, free, merged, Trace}
use Rattle.resolution.specs.Exec.{Machine, Limits, Ran, ran, refused, allow_if, allow, put_text, put_work, put_at, step, and_then, exec}
use Rattle.sheet_theorems.specs.Begun.{with_begun, add_begun}

module _ (b : ℕ) where
  allow_apart : (n k r : ℕ) (m : Machine) → allow n k r (with_begun (b + m.begun) m) ≡ add_begun b (allow n k r m)
  unfolding allow
  allow_apart n k r m = go (leb n k)
    where
      go : (x : Bool) → allow_if x r (with_begun (b + m.begun) m) ≡ add_begun b (allow_if x r m)
      go true = unfold allow_if add_begun in refl
      go false = unfold allow_if add_begun in refl

  module _ (L : Limits) where
    put_apart : (t : Bytes) (n : ℕ) (m : Machine) → put_at L t (with_begun (b + m.begun) m) n ≡ add_begun b (put_at L t m n)
    unfolding put_at put_text put_work with_begun
    put_apart t zero m = allow_apart _ _ 15 _
    put_apart t (suc n) m = allow_apart _ _ 16 _

    step_apart : (e : Effect) (m : Machine) → step L e (with_begun (b + m.begun) m) ≡ add_begun b (step L e m)
    unfolding step add_begun with_begun
    step_apart (put t) m = put_apart t m.nest m
    step_apart (report e) m = allow_apart _ _ 7 _
    step_apart begin m =
        let q : suc (b + m.begun) ≡ b + suc m.begun = omega arith in
        ap (λ (n : ℕ). ran (with_begun n m)) q
    step_apart expand m = refl
    step_apart unfound m = refl
    step_apart open_text m = refl
    step_apart keep_text m = refl
    step_apart (free n) m = refl
    step_apart (merged n) m = allow_apart _ _ 17 m

    -- a run from a machine with more begun
    pub begun_apart : (t : Trace) (m : Machine) → exec L t (with_begun (b + m.begun) m) ≡ add_begun b (exec L t m)
    unfolding exec and_then add_begun
    begun_apart [] m = refl
    begun_apart (e ∷ t) m = ap (λ (r : Ran). and_then r (λ n. exec L t n)) (step_apart e m) ∙ go (step L e m) (λ n. begun_apart t n)
      where
        go : (r : Ran) → ((n : Machine) → exec L t (with_begun (b + n.begun) n) ≡ add_begun b (exec L t n))
            → and_then (add_begun b r) (λ n. exec L t n) ≡ add_begun b (and_then r (λ n. exec L t n))
        go (ran n) ih = ih n
        go (refused c) ih = refl
