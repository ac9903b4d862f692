-- Reads in a row, each from where the one before ended; and a count of bytes with what is left for them.
use Rattle.records.specs.Relations.Answer.{Num}
use Rattle.std.specs.Prelude.{ℕ, ◌-◌, List, length, Some, None}
use Rattle.records.specs.Got.{Parser}
use Rattle.records.specs.Relations.Answer.{num_of}
use Rattle.records.specs.Bytes.{number_at}
use Rattle.reader.specs.declared.Row.{Row}
use Rattle.reader.specs.declared.Sized.{Sized}

-- the position past what was read at a position, or that position where nothing was
abbrev pub end_of : Num → ℕ → ℕ
end_of (Some r) at = r.1
end_of None at = at

-- the position past what p reads at a position
abbrev pub past_at : Parser ℕ → List ℕ → ℕ → ℕ
past_at p s at = end_of (num_of (p s at)) at

abbrev pub row_of : Num → Num → Num → Row
row_of a b c = record { first = a; second = b; third = c }

-- three reads in a row, from a position on
abbrev pub row_at : Parser ℕ → Parser ℕ → Parser ℕ → List ℕ → ℕ → Row
row_at p q r s at = row_of (num_of (p s at)) (num_of (q s (past_at p s at))) (num_of (r s (past_at q s (past_at p s at))))

abbrev pub sized_of : Num → ℕ → ℕ → Sized
sized_of n p l = record { size = n; at = p; left = l }

-- a u32 at a position, where it ends, and how many bytes there are from there on
abbrev pub sized_at : List ℕ → ℕ → Sized
sized_at s at = sized_of (num_of (number_at 4 s at)) (past_at (number_at 4) s at) (length s - past_at (number_at 4) s at)
