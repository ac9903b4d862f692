-- What is written of the records of the entries that are marked.
use Rattle.std.specs.Prelude.{Ok, ℕ, ◌+◌, ◌≤◌, ◌<◌, ◌≡◌, Bool, true, false, List, [], length, eqb}
use Rattle.records.specs.Got.{got}
use Rattle.records.specs.Encode.{enc_all}
use Rattle.records.specs.Errors.{Error, enc_error, enc_errors}
use Rattle.records.specs.Images.{Entry, entry_at}
use Rattle.buffers.specs.Relations.Append.{Wrote, full, over}
use Rattle.texts.specs.declared.errors.Kind.{Kind}
use Rattle.texts.specs.declared.errors.Kind.TheVariants as kind
use Rattle.entries.specs.Repeats.{repeat_if}
use Rattle.growth.specs.Items.{at_front}

unfoldable pub kind_by : Bool → Kind
kind_by true = kind.Message
kind_by false = kind.Term

-- the record of the entry at a position, if the mark is 1, appended to a list that has room for it
abbrev pub record_of : ℕ → Entry → List ℕ
record_of mark x = enc_all enc_error (repeat_if (eqb mark 1) x [])

pub record ListsEntry (image : List ℕ) (at mark : ℕ) (list : List ℕ) (to r : ℕ) (out : List ℕ) : Type 0 where
  pub same : length out ≡ length list
  pub lists : (x : Entry) (f : ℕ) → entry_at image at ≡ got x f → to + length (record_of mark x) ≤ length list → to + length (record_of mark x) ≤ 4294967295
      → (r ≡ to + length (record_of mark x)) × (out ≡ over list to (record_of mark x))

-- a list that fits stands at the front of the buffer; for one that doesn't, nothing is written
pub data Lists (errors : List Error) (list : List ℕ) (r : Wrote) (out : List ℕ) : Type 0 where
  lists_all : r ≡ Ok (length errors) → length (enc_errors errors) ≤ length list → out ≡ at_front (enc_errors errors) list → Lists errors list r out
  lists_short : r ≡ full → length list < length (enc_errors errors) → out ≡ list → Lists errors list r out
