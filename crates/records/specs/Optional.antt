-- A value that may be there.
use Rattle.std.specs.Prelude.{Bool, true, false, ℕ, List}
use Rattle.std.specs.Borrow.{Bor}
use Rattle.std.specs.Prelude as code
use Rattle.std.proofs.Math.Option.{Option, some, none}

-- a value with a mark that says whether it is there
unfoldable pub option_of : {A : Type 0} → Bool → A → Option A
option_of true a = some a
option_of false a = none

-- the first that is there
unfoldable pub or_else : {A : Type 0} → Option A → Option A → Option A
or_else none b = b
or_else (some a) b = some a

-- bytes that the code has in an Option
abbrev pub lent : code.Option (Bor (List ℕ)) → Option (List ℕ)
lent code.None = none
lent (code.Some s) = some s.now
