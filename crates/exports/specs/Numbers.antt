-- What an exported function answers: 0 or a refusal's number, and the figures that it writes into the lent numbers.
use Rattle.std.specs.Prelude.{ℕ, zero, suc}
use Rattle.bundle.specs.Additions as additions
use Rattle.bundle.specs.Additions.{done, refused}
use Rattle.resolution.specs.Format as formatting
use Rattle.resolution.specs.Format.{Buffers, Formatted, finished, refused_before, refused_running}

-- "A refusal's result is its number"; 0 where the call is done
unfoldable pub number_of : additions.Answer → ℕ
number_of (done n) = 0
number_of (refused n) = n

-- "An addition's carries its count of Overriding records"; where it is refused, the lent number is as before
unfoldable pub count_of : additions.Answer → ℕ → ℕ
count_of (done n) k = n
count_of (refused n) k = k

-- "A refusal's result is its number", of a formatting; 0 where it is finished
unfoldable pub format_number_of : formatting.Answer → ℕ
format_number_of (finished t e b u w) = 0
format_number_of (refused_before n) = n
format_number_of (refused_running n) = n

-- the five lent numbers
pub record Lent : Type 0 where
  pub written : ℕ
  pub errors : ℕ
  pub begun : ℕ
  pub unfound : ℕ
  pub used : ℕ

-- "A formatting's carries text length, error count, placeables begun, unfound and a workspace figure"; where it is refused, the numbers are as before
unfoldable pub lent_after : formatting.Answer → Lent → Lent
lent_after (finished t e b u w) k = record { written = t; errors = e; begun = b; unfound = u; used = w }
lent_after (refused_before n) k = k
lent_after (refused_running n) k = k

-- what a formatting hands to its caller: the number that is answered, the lent numbers and the three buffers
pub record Handed : Type 0 where
  pub number : ℕ
  pub figures : Lent
  pub buffers : Buffers

-- of the definition's formatting, over the numbers as they were
unfoldable pub handed : Formatted → Lent → Handed
handed f k = record { number = format_number_of f.answer; figures = lent_after f.answer k; buffers = f.buffers }

-- the fifth lent number by itself: r is the number that is answered, n the highest use, k the lent number before; it is n where r is 0, else k
unfoldable pub used_after : ℕ → ℕ → ℕ → ℕ
used_after zero n k = n
used_after (suc r) n k = k
