-- A run is refused with a number that fits a byte: 7, 15, 16 or 17.
use mathlib.Core.Path.{◌≡◌, subst}
use mathlib.Core.List.{[], ◌∷◌}
use mathlib.Core.Bool.{Bool, true, false}
use Prim.Native.Nat.{ℕ, zero, suc, ◌<◌}
use native.Mathlib.Omega.{arith}
use Rattle.resolution.specs.Effect.{Bytes, Effect, put, report, begin, expand, unfound, open_text, keep_text, free, merged, Trace}
use Rattle.resolution.specs.Exec.{Machine, Limits, Ran, ran, refused, allow_if, allow, put_text, put_work, put_at, step, and_then, exec}

-- the number of a refusal fits a byte
data Small : Ran → Type 0 where
  runs : (m : Machine) → Small (ran m)
  stops : (n : ℕ) → n < 256 → Small (refused n)

allowed : (b : Bool) (n : ℕ) (m : Machine) → n < 256 → Small (allow_if b n m)
unfolding allow_if
allowed true n m h = runs m
allowed false n m h = stops n h

placed : (L : Limits) (b : Bytes) (m : Machine) (k : ℕ) → Small (put_at L b m k)
unfolding put_at put_text put_work allow
placed L b m zero = allowed _ 15 _ (omega arith)
placed L b m (suc k) = allowed _ 16 _ (omega arith)

stepped : (L : Limits) (e : Effect) (m : Machine) → Small (step L e m)
unfolding step allow
stepped L (put b) m = placed L b m m.nest
stepped L (report e) m = allowed _ 7 _ (omega arith)
stepped L begin m = runs _
stepped L expand m = runs _
stepped L unfound m = runs _
stepped L open_text m = runs _
stepped L keep_text m = runs _
stepped L (free n) m = runs _
stepped L (merged k) m = allowed _ 17 _ (omega arith)

followed : (o : Ran) (f : Machine → Ran) → Small o → ((m : Machine) → Small (f m)) → Small (and_then o f)
unfolding and_then
followed (ran m) f h k = k m
followed (refused n) f h k = h

ran_small : (L : Limits) (t : Trace) (m : Machine) → Small (exec L t m)
unfolding exec
ran_small L [] m = runs m
ran_small L (e ∷ es) m = followed (step L e m) (λ k. exec L es k) (stepped L e m) (λ k. ran_small L es k)

small_is : (o : Ran) (n : ℕ) → o ≡ refused n → Small o → n < 256
small_is o n e (runs m) = let z : ◌≡◌ {A = ℕ} 0 1 = cc in absurd (omega arith)
small_is o n e (stops k h) = let q : k ≡ n = cc in subst (λ (i : ℕ). i < 256) q h

-- a trace is refused with a number that fits a byte
pub refused_small : (L : Limits) (t : Trace) (m : Machine) (n : ℕ) → exec L t m ≡ refused n → n < 256
refused_small L t m n e = small_is (exec L t m) n e (ran_small L t m)
