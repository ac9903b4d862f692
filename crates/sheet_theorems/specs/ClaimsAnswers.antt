-- What is claimed of a finished sheet's answer and bytes: its messages' placeables, its sums, its workspace figure, its list read back, its text.
use Rattle.std.specs.Prelude.{◌≡◌, List, ◌∷◌, ◌↔◌, true, ℕ, ◌+◌, ◌*◌, ◌≤◌, ◌<◌, min, length, take}
use Rattle.std.proofs.Math.Option.{some}
use Rattle.rules.specs.Rules.{is_utf8}
use Rattle.records.specs.Errors.{enc_errors}
use Rattle.records.specs.Valid.{All}
use Rattle.texts.specs.ErrorList.{errors_of}
use Rattle.layout.specs.Exact.{Octets}
use Rattle.resolution.specs.Effect.{Bytes}
use Rattle.resolution.specs.Exec.{Machine, list_limit}
use Rattle.resolution.specs.Format.{finished, Buffers}
use Rattle.theorems.specs.Finished.{too_many_in, list_of}
use Rattle.sheets.specs.Sheet.{format_sheet}
use Rattle.sheet_theorems.specs.ClaimsJoining.{joined, Joins}

-- "the limit of 100 is each message's own"; "what demand 3 says of placeables holds for each message": of one message
pub record OwnPlaceables (m : Machine) : Type 0 where
  -- the number expanded is the number begun, but never above 100
  pub expanded : m.expanded ≡ min m.begun 100
  -- no more than 101 were begun
  pub few : m.begun ≤ 101
  -- TooManyPlaceables is among its own errors exactly when its 101st was begun
  pub exactly : (m.begun ≡ 101) ↔ (0 < too_many_in m.errors)
  -- and then once
  pub once : m.begun ≡ 101 → too_many_in m.errors ≡ 1
  -- its own records, as they are in its list alone, are read as its own errors
  pub own : errors_of (enc_errors m.errors) ≡ some m.errors

-- Of a finished sheet: there are machines that it is the joining of, with each of which its message finishes alone (`Joins`), so that
pub record SheetPlaceables (s image : Bytes) (b : Buffers) (t e k u w : ℕ) : Type 0 where
  pub joins : Joins s image b t e k u w
  -- each message's placeables are so
  pub each : All OwnPlaceables joins.machines
  -- and the bytes of the sheet's list, up to the length that they state, are read as the messages' errors, one message's behind the other's
  pub read : errors_of (list_of (format_sheet s image b).buffers.list) ≡ some (joined joins.machines).errors

abbrev pub AllSheetPlaceables : Type 0
AllSheetPlaceables =
    (s : Bytes) → Octets s → (image : Bytes) → Octets image
    → (b : Buffers) (t e k u w : ℕ) → (format_sheet s image b).answer ≡ finished t e k u w
    → SheetPlaceables s image b t e k u w

-- "Error count, placeables begun and unfound are the sums over the messages": no sum wraps. A record takes three bytes or more of the list, a message
-- begins at most 101 placeables and has at most 20,000,000 lookups that find nothing, and a u16 counts the messages.
pub record SheetSums (b : Buffers) (t e k u w : ℕ) : Type 0 where
  pub text : t ≤ length b.text
  pub errors : 5 + 3 * e ≤ list_limit (length b.list)
  pub begun : k ≤ 101 * 65535
  pub unfound : u ≤ 20000000 * 65535
  -- "at most the length"
  pub work : w ≤ length b.work
  -- so they fit the numbers that carry them: 32 bits, and 64 for unfound
  pub errors_carried : e < 4294967296
  pub begun_carried : k < 4294967296
  pub unfound_carried : u < 18446744073709551616

abbrev pub AllSheetSums : Type 0
AllSheetSums =
    (s : Bytes) → Octets s → (image : Bytes) → Octets image
    → (b : Buffers) (t e k u w : ℕ) → (format_sheet s image b).answer ≡ finished t e k u w
    → SheetSums b t e k u w

-- w is the highest use of one of these messages
pub data OneOf (w : ℕ) : List Machine → Type 0 where
  here : {m : Machine} {ms : List Machine} → w ≡ m.high → OneOf w (m ∷ ms)
  there : {m : Machine} {ms : List Machine} → OneOf w ms → OneOf w (m ∷ ms)

pub data NothingOr (w : ℕ) (ms : List Machine) : Type 0 where
  nothing : w ≡ 0 → NothingOr w ms
  one : OneOf w ms → NothingOr w ms

-- Card 1: "the sheet's figure is at least every message's highest use"; and it is no more than the largest: it is 0 or one of them. This is of the machines with
-- which the messages finish alone; ClaimsFigures has it of the definition of the highest use.
pub record SheetFigure (w : ℕ) (ms : List Machine) : Type 0 where
  pub every : All (λ (m : Machine). m.high ≤ w) ms
  pub largest : NothingOr w ms

-- for any machines with which the messages finish alone
abbrev pub AllSheetFigures : Type 0
AllSheetFigures = (s image : Bytes) (b : Buffers) (t e k u w : ℕ) (j : Joins s image b t e k u w) → SheetFigure w j.machines

-- "Text is well-formed UTF-8": the text of every finished sheet is, up to its length
abbrev pub SheetTextWellFormed : Type 0
SheetTextWellFormed =
    (s : Bytes) → Octets s → (image : Bytes) → Octets image
    → (b : Buffers) (t e k u w : ℕ) → (format_sheet s image b).answer ≡ finished t e k u w
    → is_utf8 (take t (format_sheet s image b).buffers.text) ≡ true
