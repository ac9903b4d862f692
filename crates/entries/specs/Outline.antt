-- The outline of a store: what stands where by the lengths alone, whatever the bytes are, in the order of document 01, "Records of the store". No byte of
-- a pattern is looked at, and no rule for an Id is tested. A list goes as far as its records can be read.
use Rattle.std.specs.Prelude.{ℕ, zero, suc, Bool, true, false, not, List, [], ◌∷◌, get_or, eqb}
use Rattle.std.proofs.Math.Option.{Option, some, none}
use Rattle.records.specs.Got.{Got, got, bad, Parser, after, test}
use Rattle.records.specs.Bytes.{bytes_at, byte_at, number_at, str_at}
use Rattle.records.specs.Decode.{as_a}
use Rattle.walks.specs.Outline.{Outline, pattern_outline, many_outline, optional_outline}
use Rattle.records.specs.Names.{first_named}
use Rattle.entries.specs.Lookup.{last_named}
use Rattle.records.specs.Optional.{or_else}

-- what is read behind n bytes of any kind
unfoldable pub behind : {A : Type 0} → ℕ → Parser A → Parser A
behind n p s at = after (bytes_at n s at) (λ bs i. p s i)

-- the list behind what was read; an empty one where nothing was
unfoldable pub list_after : {A B : Type 0} → Got A → (A → ℕ → List B) → List B
list_after (got a e) k = k a e
list_after bad k = []

-- at most n, one behind the other, as far as they can be read: what the head of each says; the next one stands where `whole` ends
unfoldable pub readable : {A B : Type 0} → ℕ → Parser A → Parser B → List ℕ → ℕ → List A
readable zero head whole s at = []
readable (suc n) head whole s at = list_after (head s at) (λ a e. a ∷ list_after (whole s at) (λ b f. readable n head whole s f))

-- "value Flag, pattern if 1"
unfoldable pub value_outline : Outline
value_outline s at = optional_outline pattern_outline s at

-- an attribute, "Id and pattern": its name, and the position of its pattern
unfoldable pub attribute_head : Parser (List ℕ × ℕ)
attribute_head s at = after (str_at s at) (λ n p. got (n, p) p)

-- an attribute to its end, and all of an entry's
unfoldable pub attribute_outline : Outline
attribute_outline s at = after (str_at s at) (λ n p. pattern_outline s p)

unfoldable pub attributes_outline : Outline
attributes_outline s at = after (number_at 2 s at) (λ k p. many_outline k attribute_outline s p)

-- "Entry: kind, Id, value Flag, pattern if 1, u16 attribute count, each Id and pattern"
unfoldable pub entry_outline : Outline
entry_outline s at =
    after (behind 1 str_at s at) (λ i p.
    after (value_outline s p) (λ v q.
    attributes_outline s q))

-- what holds an id, by the position of the entry
pub data Location : Type 0 where
  message term : ℕ → Location
  function : Location

-- "kind (1 message, 2 term)": any other byte than 1 is taken as 2
unfoldable pub kind_as : Bool → ℕ → Location
kind_as true at = Location.message at
kind_as false at = Location.term at

-- "kind, Id": the Id, and the entry by its position
unfoldable pub entry_head : Parser (List ℕ × Location)
entry_head s at = after (behind 1 str_at s at) (λ i e. got (i, kind_as (eqb (get_or s at 0) 1) at) e)

-- the entries of a resource image: "u32 whole length, version 1, u16 entry count, entries"
unfoldable pub entries_in : List ℕ → ℕ → List (List ℕ × Location)
entries_in s at = list_after (behind 5 (number_at 2) s at) (λ k p. readable k entry_head entry_outline s p)

-- the Id of a function record: "u32 length of the record, version 1, code byte 1 (NUMBER), Id"
unfoldable pub function_in : List ℕ → ℕ → List (List ℕ × Location)
function_in s at = list_after (behind 6 str_at s at) (λ n e. (n, Location.function) ∷ [])

-- the ids of an item: of equal ones the first wins, or the last
pub data Ids : Type 0 where
  first_wins last_wins : List (List ℕ × Location) → Ids

-- "mode byte (1 plain resource, 2 overriding resource, 3 function)": the first test is for 2, the second for 3; any other byte is taken as 1
unfoldable pub ids_by : Bool → Bool → List ℕ → ℕ → Ids
ids_by true b s p = Ids.last_wins (entries_in s p)
ids_by false true s p = Ids.first_wins (function_in s p)
ids_by false false s p = Ids.first_wins (entries_in s p)

-- "Item: mode byte, then a resource image or a function record"
unfoldable pub item_head : Parser Ids
item_head s at = after (byte_at s at) (λ m p. got (ids_by (eqb m 2) (eqb m 3) s p) p)

-- an item to its end: the length of its record counts itself
unfoldable pub item_outline : Outline
item_outline s at = after (bytes_at 1 s at) (λ b p. after (number_at 4 s p) (λ n q. as_a (λ r. tt) (bytes_at n s p)))

-- "u16 item count, items"
unfoldable pub items_in : List ℕ → List Ids
items_in s = list_after (number_at 2 s 7) (λ k p. readable k item_head item_outline s p)

-- "Plain additions and functions: first wins. Overriding: last wins."
unfoldable pub located_after : Ids → List ℕ → Option Location → Option Location
located_after (Ids.first_wins l) i o = or_else o (first_named i l)
located_after (Ids.last_wins l) i o = or_else (last_named i l) o

-- what an id has after all items, where it had o before them
unfoldable pub locate_from : List Ids → List ℕ → Option Location → Option Location
locate_from [] i o = o
locate_from (x ∷ xs) i o = locate_from xs i (located_after x i o)

-- what holds an id in a store
unfoldable pub locate : List ℕ → List ℕ → Option Location
locate s i = locate_from (items_in s) i none

-- the position of the pattern of an entry's value: behind the Flag, where that is not 0
unfoldable pub value_in : Parser ℕ
value_in s at = after (behind 1 str_at s at) (λ i p. after (byte_at s p) (λ f q. test (not (eqb f 0)) (got q q)))

-- the attributes of the entry at a position
unfoldable pub attributes_in : List ℕ → ℕ → List (List ℕ × ℕ)
attributes_in s at =
    list_after (behind 1 str_at s at) (λ i p.
    list_after (value_outline s p) (λ v q.
    list_after (number_at 2 s q) (λ k r. readable k attribute_head attribute_outline s r)))

unfoldable pub position_of : Got ℕ → Option ℕ
position_of (got q e) = some q
position_of bad = none

-- the position of the pattern that a reference to the entry at a position names: its value, or an attribute
unfoldable pub part_in : Option (List ℕ) → List ℕ → ℕ → Option ℕ
part_in none s at = position_of (value_in s at)
part_in (some a) s at = first_named a (attributes_in s at)
