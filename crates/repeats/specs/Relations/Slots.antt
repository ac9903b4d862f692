-- Slots: a table in which the first entry of an id has its position, in one of the eight slots that the id looks at, and one that says which of these ids a
-- store holds. A slot that is taken stays so, and equal ids look at the same eight: so an id that has a slot is found there, by its first entry.
use Rattle.std.specs.Prelude.{Option, Some, None, cond, ℕ, zero, suc, ◌+◌, ◌*◌, ◌/◌, ◌%◌, ◌≤◌, ◌<◌, ◌-◌, ◌≡◌, Bool, true, false, ◌||◌, List, [], ◌∷◌, length, get_or, set, replicate, eqb, ltb}
use Rattle.std.proofs.Math.Option.{none}
use Rattle.records.specs.Got.{Got, got, bad}
use Rattle.decimals.specs.Bytes.{run, same_bytes}
use Rattle.records.specs.Bytes.{part, number_at, span_at}
use Rattle.records.specs.Decode.{many}
use Rattle.records.specs.Images.{Entry, Item, is_some, entry_at, item_at}
use Rattle.entries.specs.Lookup.{Find, first_entry, holder_after}
use Rattle.entries.specs.Outline.{behind}

-- a number for an id, by its bytes
unfoldable pub hash_step : ℕ → ℕ → ℕ
hash_step h b = (h * 31 + b) % 4294967296

-- a slot for a number: below 8,192
unfoldable pub mixed : ℕ → ℕ
mixed h = (((h + h / 65536) * 2654435769) % 4294967296) / 524288

-- the first of the eight slots that an id looks at
unfoldable pub slot_of : List ℕ → ℕ
slot_of id = mixed (run hash_step 0 id)

-- the bytes of a span are an id
unfoldable pub span_is : List ℕ → List ℕ → Got ℕ → Bool
span_is image x (got a e) = same_bytes (part image a (e - a)) x
span_is image x bad = false

-- the entry at a position has an id
abbrev pub has_id : List ℕ → List ℕ → ℕ → Bool
has_id image x p = span_is image x (behind 1 span_at image p)

-- a slot that has p suits an id: it is free, or the entry at p has the id
unfoldable pub suits : List ℕ → List ℕ → ℕ → Bool
suits image x p = eqb p 0 || has_id image x p

abbrev pub either : Bool → ℕ → ℕ → ℕ
either true a b = a
either false a b = b

-- of n slots, from j on, the first that suits an id; else 8200
unfoldable pub seek_from : List ℕ → List ℕ → List ℕ → ℕ → ℕ → ℕ
seek_from image places x zero j = 8200
seek_from image places x (suc n) j = either (suits image x (get_or places j 0)) j (seek_from image places x n (suc j))

-- an id's slot
unfoldable pub seek_of : List ℕ → List ℕ → List ℕ → ℕ
seek_of image places x = seek_from image places x 8 (slot_of x)

-- a slot, if it is one of the table
unfoldable pub if_slot : ℕ → Option ℕ
if_slot h = cond (ltb h 8200) (Some h) None

-- what a table has for an id
abbrev pub slotted : List ℕ → List ℕ → List ℕ → ℕ
slotted image places x = get_or places (seek_of image places x) 0

abbrev pub if_free : Bool → List ℕ → List ℕ → List ℕ
if_free true a b = a
if_free false a b = b

-- a position in a slot, if there is one and it is free
unfoldable pub placed : List ℕ → ℕ → ℕ → List ℕ
placed places h at = if_free (ltb h 8200) (if_free (eqb (get_or places h 0) 0) (set places h at) places) places

-- an id of the first entries that has a slot has a position there, from before their end; and what stands in a slot, from before their end, has an id of theirs
pub record Placed (image : List ℕ) (start k : ℕ) (places : List ℕ) : Type 0 where
  pub low : (m : ℕ) (pre : List Entry) (i : ℕ) → m ≤ k → many [] ◌∷◌ m entry_at image start ≡ got pre i → (x : List ℕ) → is_some (first_entry x pre) ≡ true → seek_of image places x < 8200
      → (0 < slotted image places x) × (slotted image places x < i)
  pub first : (m : ℕ) (pre : List Entry) (i : ℕ) → m ≤ k → many [] ◌∷◌ m entry_at image start ≡ got pre i → (x : List ℕ) (j : ℕ) → 0 < get_or places j 0 → get_or places j 0 < i → has_id image x (get_or places j 0) ≡ true
      → is_some (first_entry x pre) ≡ true

-- all entries of an image
abbrev pub PlacesAll : List ℕ → List ℕ → Type 0
PlacesAll image places = (count start : ℕ) → number_at 2 image 5 ≡ got count start → Placed image start count places

-- a table of 8,200 slots that are free
abbrev pub Cleared : List ℕ → Type 0
Cleared places = places ≡ replicate 8200 0

-- an id has a slot that is taken: an entry of the id stands there
pub record Stands (image places x : List ℕ) : Type 0 where
  pub inside : seek_of image places x < 8200
  pub taken : 0 < slotted image places x

-- of the ids that stand, those that are held: as before, or by the test
pub record Notes (image places held : List ℕ) (by : List ℕ → Bool) (out : List ℕ) : Type 0 where
  pub same : length out ≡ length held
  pub notes : length held ≡ 8200 → (x : List ℕ) → Stands image places x → eqb (get_or out (seek_of image places x) 0) 1 ≡ by x || eqb (get_or held (seek_of image places x) 0) 1

-- the two tables of an image, and what a store holds
pub record Ready (image places held : List ℕ) (find : Find) : Type 0 where
  pub placed : PlacesAll image places
  pub holds : (x : List ℕ) → Stands image places x → eqb (get_or held (seek_of image places x) 0) 1 ≡ is_some (find x)

-- the ids of entries, and of an item
pub record NotesEntries (s image places : List ℕ) (n at : ℕ) (held out : List ℕ) : Type 0 where
  pub says : (es : List Entry) (f : ℕ) → many [] ◌∷◌ n entry_at s at ≡ got es f → Notes image places held (λ x. is_some (first_entry x es)) out

pub record NotesItem (s image places : List ℕ) (at : ℕ) (held out : List ℕ) : Type 0 where
  pub says : (x : Item) (f : ℕ) → item_at s at ≡ got x f → Notes image places held (λ i. is_some (holder_after x i none)) out
