-- "Steadiness under additions is wanted for whole sheets": demand 3 of document 01, for sheets, as one claim over the whole list of additions.
use Rattle.std.specs.Prelude.{◌≡◌, List, ℕ, length, take}
use Rattle.layout.specs.Exact.{Octets}
use Rattle.resolution.specs.Effect.{Bytes}
use Rattle.resolution.specs.Format.{finished, Buffers}
use Rattle.theorems.specs.Finished.{list_of}
use Rattle.theorems.specs.Steadiness.{Addition, AllInBytes, slices_after, EachAdded, WellFormed, Longer}
use Rattle.sheets.specs.Sheet.{format_sheet}
use Rattle.sheet_theorems.specs.ClaimsJoining.{Joins}

-- The first sheet is `format_sheet s image b`, the second `format_sheet (slices_after xs s) image b'`; t, e, k and w are the first's text length, error
-- count, placeables begun and workspace figure.
pub record SheetUnchanged (s : Bytes) (xs : List Addition) (image : Bytes) (b b' : Buffers) (t e k w : ℕ) : Type 0 where
  -- "Each addition gets the slice that the last one left, its length unchanged", over the whole list
  pub size : length (slices_after xs s) ≡ length s
  -- and at each of its additions: "an accepted one has put its item after the others, a refused one has changed nothing"
  pub each : EachAdded s xs
  -- "it too ends in success"; equal are "the error count, placeables begun and unfound", the text's length and the workspace figure (document 02, Card 8: it
  -- "joins what additions can't change")
  pub answer : (format_sheet (slices_after xs s) image b').answer ≡ finished t e k 0 w
  -- "Equal are the bytes of text": up to its length
  pub text : take t (format_sheet (slices_after xs s) image b').buffers.text ≡ take t (format_sheet s image b).buffers.text
  -- "and list up to their lengths": the length that the list states
  pub list : list_of (format_sheet (slices_after xs s) image b').buffers.list ≡ list_of (format_sheet s image b).buffers.list
  -- both are the joinings of their messages
  pub first : Joins s image b t e k 0 w
  pub second : Joins (slices_after xs s) image b' t e k 0 w

-- No list of plain resource or function additions changes a sheet that finished with unfound 0, in buffers each at least as long.
abbrev pub SheetSteadiness : Type 0
SheetSteadiness =
    (s : Bytes) → Octets s → WellFormed s
    → (xs : List Addition) → AllInBytes xs
    → (image : Bytes) → Octets image
    → (b b' : Buffers) → Longer b b'
    → (t e k w : ℕ) → (format_sheet s image b).answer ≡ finished t e k 0 w
    → SheetUnchanged s xs image b b' t e k w
