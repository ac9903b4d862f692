-- What stands before the digits and behind the letters has the value 0.
use mathlib.Core.Path.{◌≡◌}
use Prim.Native.Nat.{ℕ, ◌<◌}
use native.Mathlib.Omega.{arith}
use borrow.Author.Tests.{le-leb, lt-leb}
use Rattle.decimals.specs.Bytes.{digit}
use Rattle.scalars.specs.Scalars.{hex_value}

module _ (b : ℕ) where
  pub value_before : b < 48 → hex_value b ≡ 0
  unfolding hex_value digit
  value_before h = simp (lt-leb 48 b h, lt-leb 65 b (omega arith), lt-leb 97 b (omega arith))

  pub value_after : 102 < b → hex_value b ≡ 0
  unfolding hex_value digit
  value_after h = simp (le-leb 48 b (omega arith), lt-leb b 57 (omega arith), le-leb 65 b (omega arith), lt-leb b 70 (omega arith), le-leb 97 b (omega arith), lt-leb b 102 h)
