-- The bytes that a file has left, before and after it is read, where they are known.
use Rattle.std.specs.Prelude.{ℕ, List, Option}
use Rattle.std.specs.Io.KnownBytes.{Consumes}

-- some at the front are gone, or none, and no others
abbrev pub LosesFront : Option (List ℕ) → Option (List ℕ) → Type 0
LosesFront old new = (bs : List ℕ) × Consumes old new bs
