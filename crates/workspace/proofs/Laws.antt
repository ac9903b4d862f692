-- The highest use, where front and back are places in the workspace, and where not.
use mathlib.Core.Path.{◌≡◌, refl}
use mathlib.Core.Bool.{Bool, true, false, ◌&&◌}
use Prim.Native.Nat.{ℕ, ◌+◌, ◌-◌, ◌≤◌, ◌<◌, max}
use native.Mathlib.Omega.{arith}
use lib.Dec.{leb}
use borrow.Author.Tests.{le-leb, lt-leb}
use Rattle.workspace.specs.Use.{use_at, higher_if, highest_now}

module _ (high front back n : ℕ) where
  pub highest_is : front ≤ back → back ≤ n → highest_now high front back n ≡ max high (front + (n - back))
  unfolding highest_now higher_if use_at
  highest_is p q = rw (le-leb front back p, le-leb back n q)

  pub higher_now : front ≤ back → back ≤ n → high < front + (n - back) → front + (n - back) ≡ highest_now high front back n
  higher_now p q h = omega (arith, highest_is p q, h)

  pub lower_now : front ≤ back → back ≤ n → front + (n - back) ≤ high → high ≡ highest_now high front back n
  lower_now p q h = omega (arith, highest_is p q, h)

  pub crossed : back < front → highest_now high front back n ≡ high
  unfolding highest_now higher_if
  crossed p = rw (lt-leb front back p)

  pub beyond : n < back → highest_now high front back n ≡ high
  unfolding highest_now higher_if
  beyond p = go (leb front back)
    where
      go : (b : Bool) → higher_if (b && leb back n) high (use_at front back n) ≡ high
      go true = rw (lt-leb back n p)
      go false = refl
