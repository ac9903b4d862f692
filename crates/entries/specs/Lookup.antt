-- What an id has in a list of items: document 01, "bundle.rs, entry.rs, message.rs, resource.rs"; the Rust's hash map of entries.
use Rattle.std.specs.Prelude.{List, [], ◌∷◌, ℕ}
use Rattle.std.proofs.Math.Option.{Option, some, none}
use Rattle.decimals.specs.Bytes.{same_bytes}
use Rattle.records.specs.Tree.{Pattern}
use Rattle.records.specs.Images.{Entry, Item}
use Rattle.records.specs.Optional.{option_of, or_else}
use Rattle.records.specs.Names.{first_named}

-- "Messages, terms and functions share one name space": what holds an id
pub data Holder : Type 0 where
  entry : Entry → Holder
  function : Holder

abbrev pub Find : Type 0
Find = List ℕ → Option Holder

-- of things with a name, the last of a name
unfoldable pub last_named : {A : Type 0} → List ℕ → List (List ℕ × A) → Option A
last_named i [] = none
last_named i (x ∷ xs) = or_else (last_named i xs) (option_of (same_bytes x.0 i) x.1)

-- the first entry of an image that has an id, and the last
unfoldable pub first_entry : List ℕ → List Entry → Option Holder
first_entry i [] = none
first_entry i (e ∷ es) = or_else (option_of (same_bytes e.id i) (Holder.entry e)) (first_entry i es)

unfoldable pub last_entry : List ℕ → List Entry → Option Holder
last_entry i [] = none
last_entry i (e ∷ es) = or_else (last_entry i es) (option_of (same_bytes e.id i) (Holder.entry e))

-- "Plain additions and functions: first wins. Overriding: last wins."
unfoldable pub holder_after : Item → List ℕ → Option Holder → Option Holder
holder_after (Item.plain es) i o = or_else o (first_entry i es)
holder_after (Item.overriding es) i o = or_else (last_entry i es) o
holder_after (Item.function n) i o = or_else o (option_of (same_bytes n i) Holder.function)

unfoldable pub find_from : List Item → List ℕ → Option Holder → Option Holder
find_from [] i o = o
find_from (x ∷ xs) i o = find_from xs i (holder_after x i o)

-- what an id has in a bundle
unfoldable pub find_in : List Item → Find
find_in items i = find_from items i none

-- the pattern that a reference to an entry names: its value, or the first attribute of a name (the Rust's `find_map` over attributes)
unfoldable pub part_of : Option (List ℕ) → Entry → Option Pattern
part_of none e = e.value
part_of (some a) e = first_named a e.attributes
