-- One item more in a store's bytes.
use Rattle.std.specs.Prelude.{Bool, true, false, ◌&&◌, List, ◌++◌, ℕ, ◌+◌, ◌-◌, length, drop, ltb, leb}
use Rattle.records.specs.Bytes.{part, to_be}
use Rattle.records.specs.Images.{max_store, max_items}

-- bytes at the front of a buffer, "later bytes as before"
unfoldable pub at_front : List ℕ → List ℕ → List ℕ
at_front b s = b ++ drop (length b) s

-- the slice with one item more, its bytes `item`, after the others: the used length and the item count go up, the rest of the header stays
unfoldable pub with_item : List ℕ → ℕ → ℕ → List ℕ → List ℕ
with_item s used count item =
    at_front (to_be 4 (used + length item) ++ (part s 4 3 ++ (to_be 2 (count + 1) ++ (part s 9 (used - 9) ++ item)))) s

-- "6 used length plus item above the slice or 1,048,576, or 256 items present": room for n bytes in a slice of `size`
unfoldable pub has_room : ℕ → ℕ → ℕ → ℕ → Bool
has_room size used count n = leb (used + n) size && (leb (used + n) max_store && ltb count max_items)

unfoldable pub written_if : Bool → List ℕ → List ℕ → List ℕ
written_if true s s' = s'
written_if false s s' = s

-- an item filed: where it has room behind the header and the other items; else nothing changes
unfoldable pub file_item : List ℕ → ℕ → ℕ → List ℕ → List ℕ
file_item s used count item = written_if (leb 9 used && has_room (length s) used count (length item)) s (with_item s used count item)
