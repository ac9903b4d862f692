-- The use of a workspace whose texts stand at its front and at its back. Document 01: "A text still being made stands at the front, above the one it
-- interrupts; once made, it moves to the back, below those still alive there. Use is the bytes of both."
use Rattle.std.specs.Prelude.{Bool, true, false, ◌&&◌, ℕ, ◌+◌, ◌-◌, max, leb}

-- "the bytes of both": of a workspace of n bytes, those before its front and those from its back on
unfoldable pub use_at : ℕ → ℕ → ℕ → ℕ
use_at front back n = front + (n - back)

-- where there is a use now, the higher of it and the use so far; else the use so far
unfoldable pub higher_if : Bool → ℕ → ℕ → ℕ
higher_if true high used = max high used
higher_if false high used = high

-- the same by the places: there is a use now where the front is not past the back, nor the back past the end
unfoldable pub highest_now : ℕ → ℕ → ℕ → ℕ → ℕ
highest_now high front back n = higher_if (leb front back && leb back n) high (use_at front back n)
