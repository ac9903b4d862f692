-- What is claimed of every sheet's answer, finished or refused.
use Rattle.std.specs.Prelude.{◌≡◌, List, ◌∷◌, ◌++◌, true, ℕ, length, leb}
use Rattle.records.specs.Got.{got}
use Rattle.records.specs.Images.{Store, store_of}
use Rattle.records.specs.Errors.{list_header}
use Rattle.resolution.specs.Effect.{Bytes}
use Rattle.resolution.specs.Exec.{Machine, ran, refused, start}
use Rattle.resolution.specs.Format.{finished, Buffers, limits_of, refuse}
use Rattle.theorems.specs.Finished.{Running, Sized}
use Rattle.requests.specs.Image.{Request, sheet_of}
use Rattle.sheets.specs.Refused.{cleared}
use Rattle.sheets.specs.Sheet.{run_message, run_sheet, format_sheet}

-- "Refusals 4 and 18, and 7 for a list buffer under 5 bytes, come before any message"
pub data SheetBefore : ℕ → Type 0 where
  store : SheetBefore 4
  sheet : SheetBefore 18
  header : SheetBefore 7

-- those that a message meets: 11, 12, 13, 19, and in its run 15, 7, 16 and 17
pub data SheetRunning : ℕ → Type 0 where
  message : SheetRunning 11
  part : SheetRunning 12
  arguments : SheetRunning 13
  order : SheetRunning 19
  run : {n : ℕ} → Running n → SheetRunning n

-- "The first refusal that a message meets is the sheet's": the messages before it ran, it is refused behind them, and none after it counts
pub record FirstRefusal (s image : Bytes) (b : Buffers) (n : ℕ) : Type 0 where
  pub bundle : Store
  pub bundle_end : ℕ
  pub stored : store_of s ≡ got bundle bundle_end
  pub before : List Request
  pub refusing : Request
  pub after : List Request
  pub requests_end : ℕ
  pub read : sheet_of image ≡ got (before ++ (refusing ∷ after)) requests_end
  pub machine : Machine
  pub ran_before : run_sheet bundle (limits_of b) before start ≡ ran machine
  pub is_refused : run_message bundle (limits_of b) refusing machine ≡ refused n

-- Every sheet finishes; or is refused before any message, and nothing changes; or its first refused message's refusal is its own, and the three buffers
-- are zero.
pub data SheetAnswers (s image : Bytes) (b : Buffers) : Type 0 where
  success : (t e k u w : ℕ) → (format_sheet s image b).answer ≡ finished t e k u w → SheetAnswers s image b
  before : (n : ℕ) → SheetBefore n → format_sheet s image b ≡ refuse n b → SheetAnswers s image b
  running : (n : ℕ) → SheetRunning n → FirstRefusal s image b n → format_sheet s image b ≡ cleared n b → SheetAnswers s image b

-- so every sheet
abbrev pub AllSheetAnswers : Type 0
AllSheetAnswers = (s image : Bytes) (b : Buffers) → SheetAnswers s image b

-- and wherever messages ran and the next one is refused, its refusal is the sheet's and the three buffers are zero, whatever comes after it
abbrev pub FirstRefusals : Type 0
FirstRefusals =
    (s image : Bytes) (b : Buffers) (n : ℕ) → FirstRefusal s image b n → leb list_header (length b.list) ≡ true → format_sheet s image b ≡ cleared n b

-- each buffer as long as it was
abbrev pub AllSheetsSized : Type 0
AllSheetsSized = (s image : Bytes) (b : Buffers) → Sized b (format_sheet s image b).buffers
