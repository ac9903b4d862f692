-- What the tally says of the records of the entries that are marked.
use Rattle.std.specs.Prelude.{ℕ, ◌+◌, ◌≤◌, ◌≡◌, Bool, true, false, List, length, eqb}
use Rattle.records.specs.Encode.{enc_all}
use Rattle.records.specs.Errors.{Error, enc_error}
use Rattle.listing.specs.declared.Tally.{Tally}

abbrev pub counted : Bool → ℕ → ℕ
counted true n = n
counted false n = 0

-- a tally with one record more, if the mark is 1, for an Id of n bytes
pub record Tallied (t : Tally) (mark n : ℕ) (r : Tally) : Type 0 where
  pub count : r.count ≡ t.count + counted (eqb mark 1) 1
  pub size : r.size ≡ t.size + counted (eqb mark 1) (6 + n)
  pub few : r.count ≤ t.count + 1
  pub small : r.size ≤ t.size + (6 + n)

-- how many records, and how many bytes
pub record Tallies (l : List Error) (t : Tally) : Type 0 where
  pub count : t.count ≡ length l
  pub size : t.size ≡ length (enc_all enc_error l)
