-- Bytes put at the front of those that a case lends, and the counts that are printed.
use Rattle.std.specs.Prelude.{ℕ, ◌+◌, ◌%◌, ◌^◌, Bool, true, false, List, ◌++◌, length, drop, replicate, nat_le, nat_lt, slice_index, slice_set}

-- bytes at the front of others, if there is room
unfoldable pub front_if : Bool → List ℕ → List ℕ → List ℕ
front_if true f s = f ++ drop (length f) s
front_if false f s = s

unfoldable pub fronted : List ℕ → List ℕ → List ℕ
fronted s f = front_if (nat_le (length f) (length s)) f s

-- so many counts, none of them made
unfoldable pub no_counts : ℕ → List ℕ
no_counts n = replicate n 0

-- the count at a place, so much higher, in 64 bits; there is none past the last place
unfoldable pub counted_if : Bool → List ℕ → ℕ → ℕ → List ℕ
counted_if true c place by = slice_set c place ((slice_index c place + by) % 2 ^ 64)
counted_if false c place by = c

unfoldable pub counted_at : List ℕ → ℕ → ℕ → List ℕ
counted_at c place by = counted_if (nat_lt place (length c)) c place by

-- the count at a place; 0 past the last one
unfoldable pub count_if : Bool → List ℕ → ℕ → ℕ
count_if true c place = slice_index c place
count_if false c place = 0

unfoldable pub count_at : List ℕ → ℕ → ℕ
count_at c place = count_if (nat_lt place (length c)) c place
