-- Steadiness under additions: document 01, "Demand 3's steadiness is a single claim about the whole list of additions, not one for each."
use Rattle.std.specs.Prelude.{◌≡◌, List, [], ◌∷◌, ℕ, ◌≤◌, length, take}
use Rattle.std.proofs.Math.Option.{Option}
use Rattle.layout.specs.Exact.{Octets}
use Rattle.records.specs.Got.{got}
use Rattle.records.specs.Images.{Item, Store, store_of}
use Rattle.bundle.specs.Additions.{done, refused, Added, refuse, add_resource, add_function}
use Rattle.bundle.specs.Growth.{Accepted, AcceptedResource}
use Rattle.resolution.specs.Effect.{Bytes}
use Rattle.resolution.specs.Format.{finished, Buffers, Formatted, format}
use Rattle.theorems.specs.Finished.{list_of, Sound}

-- "Its calls are Add resource, plain, with any image and list buffer, and Add function, with any id and code."
pub data Addition : Type 0 where
  resource : (image list : Bytes) → Addition
  function : (id : Bytes) (code : ℕ) → Addition

-- an image is a slice of bytes
abbrev pub InBytes : Addition → Type 0
InBytes (resource image list) = Octets image
InBytes (function id code) = Unit {0}

abbrev pub AllInBytes : List Addition → Type 0
AllInBytes [] = Unit {0}
AllInBytes (x ∷ xs) = InBytes x × AllInBytes xs

-- a call's answer, and what it leaves
unfoldable pub added_by : Addition → Bytes → Added
added_by (resource image list) s = add_resource s image list
added_by (function id code) s = add_function s id code

-- the bundle's slice after a call, accepted or refused
unfoldable pub slice_after : Addition → Bytes → Bytes
slice_after x s = (added_by x s).slice

-- "Each addition gets the slice that the last one left"
unfoldable pub slices_after : List Addition → Bytes → Bytes
slices_after [] s = s
slices_after (x ∷ xs) s = slices_after xs (slice_after x s)

-- the list buffer that a call is lent: functions have none
abbrev pub list_lent : Addition → Bytes
list_lent (resource image list) = list
list_lent (function id code) = []

-- "an accepted one has put its item after the others": the entries that its image reads as, or the function of its id
abbrev pub PutAfter : Addition → Bytes → Type 0
PutAfter (resource image list) s = AcceptedResource s image (slice_after (resource image list) s) Item.plain
PutAfter (function id code) s = Accepted s (slice_after (function id code) s) (Item.function id)

-- what one addition did to the slice that it was given
pub record AddedTo (s : Bytes) (x : Addition) : Type 0 where
  -- "its length unchanged"
  pub size : length (slice_after x s) ≡ length s
  -- "an accepted one has put its item after the others"
  pub accepted : (n : ℕ) → (added_by x s).answer ≡ done n → PutAfter x s
  -- "a refused one has changed nothing": neither the slice nor the list
  pub refused : (n : ℕ) → (added_by x s).answer ≡ refused n → added_by x s ≡ refuse n s (list_lent x)

-- "Each addition gets the slice that the last one left": so of every addition of the list, at the slice that it gets
abbrev pub EachAdded : Bytes → List Addition → Type 0
EachAdded s [] = Unit {0}
EachAdded s (x ∷ xs) = AddedTo s x × EachAdded (slice_after x s) xs

-- "A bundle is well-formed where refusal 4 doesn't apply to its slice."
abbrev pub WellFormed : Bytes → Type 0
WellFormed s = (v : Store) × (used : ℕ) × (store_of s ≡ got v used)

-- "text, list and workspace each at least as long"
pub record Longer (b b' : Buffers) : Type 0 where
  pub text : length b.text ≤ length b'.text
  pub list : length b.list ≤ length b'.list
  pub work : length b.work ≤ length b'.work

-- "Equal are the bytes of text and list up to their lengths, the error count, placeables begun and unfound": the whole answer, its workspace figure
-- included, and those bytes
pub record Same (t : ℕ) (x y : Formatted) : Type 0 where
  pub answer : y.answer ≡ x.answer
  pub text : take t y.buffers.text ≡ take t x.buffers.text
  pub list : list_of y.buffers.list ≡ list_of x.buffers.list

-- "The first formatting and the list start from the same slice. … The first is any that ends in success with unfound 0. The second has the same
-- message id, attribute and arguments image, and text, list and workspace each at least as long; it too ends in success."
abbrev pub Steadiness : Type 0
Steadiness =
    (s : Bytes) → Octets s
    → (xs : List Addition) → AllInBytes xs
    → (id : Bytes) (a : Option Bytes) (image : Bytes) (b b' : Buffers) → Longer b b'
    → (t e n w : ℕ) → (format s id a image b).answer ≡ finished t e n 0 w
    → Same t (format s id a image b) (format (slices_after xs s) id a image b')

-- Demand 3, held to its words. The first formatting is `format s id a image b`, the second `format (slices_after xs s) id a image b'`; t, e, k and w are
-- the first's text length, error count, placeables begun and workspace figure.
pub record Unchanged (s : Bytes) (xs : List Addition) (id : Bytes) (a : Option Bytes) (image : Bytes) (b b' : Buffers) (t e k w : ℕ) : Type 0 where
  -- "Each addition gets the slice that the last one left, its length unchanged", over the whole list
  pub size : length (slices_after xs s) ≡ length s
  -- and at each of its additions: "an accepted one has put its item after the others, a refused one has changed nothing"
  pub each : EachAdded s xs
  -- "it too ends in success"; equal are "the error count, placeables begun and unfound", the text's length and the workspace figure (document 02, Card 8: it
  -- "joins what additions can't change")
  pub answer : (format (slices_after xs s) id a image b').answer ≡ finished t e k 0 w
  -- "Equal are the bytes of text": up to its length
  pub text : take t (format (slices_after xs s) id a image b').buffers.text ≡ take t (format s id a image b).buffers.text
  -- "and list up to their lengths": the length that the list states
  pub list : list_of (format (slices_after xs s) id a image b').buffers.list ≡ list_of (format s id a image b).buffers.list
  -- "demand 3 is over demand 2's definition": the text and the list of both are those of the definition's trace
  pub first : Sound s id a image b t e k 0 w
  pub second : Sound (slices_after xs s) id a image b' t e k 0 w

-- Demand 3: no list of plain resource or function additions changes a formatting that finished with unfound 0. "A single claim about the whole list of
-- additions, not one for each."
abbrev pub Demand3 : Type 0
Demand3 =
    (s : Bytes) → Octets s → WellFormed s
    → (xs : List Addition) → AllInBytes xs
    → (id : Bytes) (a : Option Bytes) (image : Bytes) (b b' : Buffers) → Longer b b'
    → (t e k w : ℕ) → (format s id a image b).answer ≡ finished t e k 0 w
    → Unchanged s xs id a image b b' t e k w
