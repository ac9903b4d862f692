-- What the code answers for what was read.
use Rattle.std.specs.Prelude.{ℕ, Option, Some, None}
use Rattle.records.specs.Got.{Got, got, bad}

-- the position past what was read, if it was there
abbrev pub Next : Type 0
Next = Option ℕ

-- a number, and the position past it
abbrev pub Num : Type 0
Num = Option (ℕ × ℕ)

unfoldable pub next_of : {A : Type 0} → Got A → Next
next_of (got a e) = Some e
next_of bad = None

unfoldable pub num_of : Got ℕ → Num
num_of (got n e) = Some (n, e)
num_of bad = None
