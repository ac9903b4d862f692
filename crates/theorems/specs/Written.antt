-- What a finished formatting leaves in the text and list buffers, read back by document 01's own rules and layouts.
use Rattle.std.specs.Prelude.{◌≡◌, List, ◌↔◌, true, ℕ, ◌≤◌, ◌<◌, min, length, take}
use Rattle.std.proofs.Math.Option.{Option, some}
use Rattle.rules.specs.Rules.{is_utf8}
use Rattle.records.specs.Errors.{Error}
use Rattle.texts.specs.ErrorList.{errors_of}
use Rattle.layout.specs.Exact.{Octets}
use Rattle.resolution.specs.Effect.{Bytes}
use Rattle.resolution.specs.Format.{finished, Buffers, format}
use Rattle.theorems.specs.Finished.{reports, too_many_in, Finished, list_of, out_of}

-- "Text is well-formed UTF-8": the text of every finished formatting is, up to its length
abbrev pub TextWellFormed : Type 0
TextWellFormed =
    (s : Bytes) → Octets s
    → (id : Bytes) (a : Option Bytes) (image : Bytes) → Octets image
    → (b : Buffers) (t e k u w : ℕ) → (format s id a image b).answer ≡ finished t e k u w
    → is_utf8 (take t (format s id a image b).buffers.text) ≡ true

-- The bytes of the list buffer, up to the length that they state, read back as exactly the errors that resolution reported, in order; the answer's
-- error count is how many these are.
pub record ReadBack (s : Bytes) (id : Bytes) (a : Option Bytes) (image : Bytes) (b : Buffers) (e : ℕ) : Type 0 where
  pub parts : Finished s id a image b
  pub read : errors_of (list_of (format s id a image b).buffers.list) ≡ some (reports (out_of parts).trace)
  pub counted : e ≡ length (reports (out_of parts).trace)

-- so of every finished formatting
abbrev pub ListReadBack : Type 0
ListReadBack =
    (s : Bytes) → Octets s
    → (id : Bytes) (a : Option Bytes) (image : Bytes) → Octets image
    → (b : Buffers) (t e k u w : ℕ) → (format s id a image b).answer ≡ finished t e k u w
    → ReadBack s id a image b e

-- What demand 3 says of placeables, of a formatting that answers k begun.
pub record PlaceablesListed (s : Bytes) (id : Bytes) (a : Option Bytes) (image : Bytes) (b : Buffers) (k : ℕ) : Type 0 where
  pub parts : Finished s id a image b
  -- "the number expanded, counted where the definition starts on a placeable's expression", is the number begun, but never above 100
  pub expanded : parts.machine.expanded ≡ min k 100
  -- "placeables begun (0 to 101)"
  pub few : k ≤ 101
  -- the errors that the bytes of the list buffer are read as
  pub errors : List Error
  pub written : errors_of (list_of (format s id a image b).buffers.list) ≡ some errors
  -- TooManyPlaceables is among them exactly when a 101st was begun
  pub exactly : (k ≡ 101) ↔ (0 < too_many_in errors)
  -- and then once
  pub once : k ≡ 101 → too_many_in errors ≡ 1

-- so in every finished formatting
abbrev pub AllPlaceablesListed : Type 0
AllPlaceablesListed =
    (s : Bytes) → Octets s
    → (id : Bytes) (a : Option Bytes) (image : Bytes) → Octets image
    → (b : Buffers) (t e k u w : ℕ) → (format s id a image b).answer ≡ finished t e k u w
    → PlaceablesListed s id a image b k
