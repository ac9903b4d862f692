-- What the answer of a walker says of a decoder. A walker goes over checked bytes: the relation speaks of the bytes at which a decoder reads.
use Rattle.records.specs.Relations.Answer.{Next}
use Rattle.std.specs.Prelude.{Some}
use Rattle.std.specs.Prelude.{ℕ, ◌≡◌}
use Rattle.records.specs.Got.{Got, got}

-- the answer is the position past what was read
abbrev pub Passes : {A : Type 0} → Got A → Next → Type 0
Passes {A} g r = (a : A) (f : ℕ) → g ≡ got a f → r ≡ Some f
