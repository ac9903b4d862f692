-- The code's answers for what the outline says; and, of bytes at which a decoder reads, what they say of what was read.
use Rattle.records.specs.Relations.Answer.{Next}
use Rattle.std.specs.Prelude.{ℕ, ◌≡◌, List, Option, Some, None}
use Rattle.std.proofs.Math.Option.{Option as Maybe, some, none}
use Rattle.records.specs.Got.{Got, got, bad}
use Rattle.records.specs.Tree.{Pattern}
use Rattle.records.specs.Decode.{entry_pattern_at}
use Rattle.records.specs.Images.{Kind, Entry, entry_at}
use Rattle.entries.specs.Lookup.{Holder}
use Rattle.entries.specs.Outline.{Location, Ids, located_after}
use Rattle.entries.specs.declared.Holder.{Holder as Held}
use Rattle.entries.specs.declared.Holder.TheVariants as held

-- the code's answer for what holds an id
unfoldable pub found_of : Maybe Location → Option Held
found_of none = None
found_of (some (Location.message q)) = Some (held.Message q)
found_of (some (Location.term q)) = Some (held.Term q)
found_of (some Location.function) = Some held.Function

-- what the code's answer says
unfoldable pub held_by : Option Held → Maybe Location
held_by (Some (held.Message q)) = some (Location.message q)
held_by (Some (held.Term q)) = some (Location.term q)
held_by (Some held.Function) = some Location.function
held_by None = none

-- what an id has after an item, where that can be read
unfoldable pub after_ids : Got Ids → List ℕ → Maybe Location → Maybe Location
after_ids (got x e) i o = located_after x i o
after_ids bad i o = o

-- the code's answer for a position
unfoldable pub at_position : Maybe ℕ → Next
at_position none = None
at_position (some q) = Some q

-- what holds an id, and the position of the entry
pub data HolderAt (s : List ℕ) (o : Maybe Holder) (r : Option Held) : Type 0 where
  is_message_at : (q : ℕ) (e : Entry) (f : ℕ) → r ≡ Some (held.Message q) → o ≡ some (Holder.entry e) → e.kind ≡ Kind.message → entry_at s q ≡ got e f → HolderAt s o r
  term_at : (q : ℕ) (e : Entry) (f : ℕ) → r ≡ Some (held.Term q) → o ≡ some (Holder.entry e) → e.kind ≡ Kind.term → entry_at s q ≡ got e f → HolderAt s o r
  is_function_at : r ≡ Some held.Function → o ≡ some Holder.function → HolderAt s o r
  nothing_at : r ≡ None → o ≡ none → HolderAt s o r

-- a pattern of an entry, by its position
pub data PartAt (s : List ℕ) (o : Maybe Pattern) (r : Next) : Type 0 where
  part_at : (q : ℕ) (p : Pattern) (f : ℕ) → r ≡ Some q → o ≡ some p → entry_pattern_at s q ≡ got p f → PartAt s o r
  no_part : r ≡ None → o ≡ none → PartAt s o r
