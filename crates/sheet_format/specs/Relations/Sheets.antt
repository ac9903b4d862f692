-- How far a sheet has come: what the state, the buffers and the placeables begun say of its messages' run.
use Rattle.state.specs.Progress.{refused_of}
use Rattle.std.specs.Prelude.{◌≡◌, List, [], ◌∷◌, ℕ, ◌+◌, ◌-◌, ◌*◌, ◌≤◌, length}
use Rattle.std.proofs.Math.Option.{Option}
use Rattle.records.specs.Got.{got}
use Rattle.records.specs.Bytes.{part}
use Rattle.records.specs.Decode.{many}
use Rattle.records.specs.Images.{Store, store_of}
use Rattle.requests.specs.Image.{Request, request_at, sheet_of}
use Rattle.requests.specs.Relations.Shown.{Shows, spanned}
use Rattle.requests.specs.declared.Spans.{Spans}
use Rattle.resolution.specs.Effect.{Bytes}
use Rattle.resolution.specs.Exec.{Machine, Limits, start}
use Rattle.resolution.specs.Format.{limits_of}
use Rattle.sheets.specs.Sheet.{run_message, run_sheet}
use Rattle.state.specs.declared.Progress.{Progress}
use Rattle.state.specs.Setters.{new_s}
use Rattle.resolver.specs.Relations.Runs.{Rests, Grown, RanAs}

-- the bytes of a request's Id, its attribute and its arguments image
abbrev pub id_of : Bytes → Spans → Bytes
id_of sheet q = part sheet q.id (q.id_end - q.id)

abbrev pub attribute_of : Bytes → Spans → Option Bytes
attribute_of sheet q = spanned sheet q.attribute

abbrev pub image_of : Bytes → Spans → Bytes
image_of sheet q = part sheet q.image (q.end - q.image)

-- the lengths of three buffers
abbrev pub limits : Bytes → Bytes → Bytes → Limits
limits x l w = limits_of (record { text = x; list = l; work = w })

-- the store and the sheet image were checked: what they hold
pub record Checked (s sheet : Bytes) : Type 0 where
  pub store : Store
  pub used : ℕ
  pub stored : store_of s ≡ got store used
  pub requests : List Request
  pub end : ℕ
  pub read : sheet_of sheet ≡ got requests end

-- where the first message of a sheet begins
pub record Begins (s sheet l w : Bytes) (p : Progress) : Type 0 where
  pub checked : Checked s sheet
  pub header : 5 ≤ length l
  pub started : p ≡ new_s (length w)

-- a message of the sheet, from a machine at rest: its run's outcome, and that it began n placeables
pub record MessageRan (s sheet : Bytes) (q : Spans) (x l w : Bytes) (p : Progress) (x' l' w' : Bytes) (r : Progress) (n : ℕ) : Type 0 where
  pub runs : (v : Store) (used : ℕ) → store_of s ≡ got v used → (a : Request) → Shows sheet q a → (k : Machine) → Rests x l w p k
      → RanAs (run_message v (limits x l w) a k) x l p x' l' w' r (k.begun + n) × ((refused_of r) ≡ 0 → n ≤ 101)

-- `left` messages are still to come, from `at` on: those before them led to a machine at rest, and began so many placeables
pub record Passed (s sheet x l w x₁ l₁ w₁ : Bytes) (p : Progress) (at left begun : ℕ) : Type 0 where
  pub checked : Checked s sheet
  pub text_size : length x₁ ≡ length x
  pub list_size : length l₁ ≡ length l
  pub work_size : length w₁ ≡ length w
  pub machine : Machine
  pub rest : List Request
  pub rests : Rests x₁ l₁ w₁ p machine
  pub sum : begun ≡ machine.begun
  -- 101 for each of at most 65,535 messages, so that the sum fits
  pub few : begun + 101 * left ≤ 6619035
  pub grown : Grown x l (new_s (length w)) x₁ l₁ p
  pub asked : many [] ◌∷◌ left request_at sheet at ≡ got rest checked.end
  pub onward : run_sheet checked.store (limits x l w) checked.requests start ≡ run_sheet checked.store (limits x l w) rest machine

-- all messages, or those up to the first that is refused
pub record SheetRan (s sheet x l w x' l' w' : Bytes) (r : Progress) (n : ℕ) : Type 0 where
  pub checked : Checked s sheet
  pub ran : RanAs (run_sheet checked.store (limits x l w) checked.requests start) x l (new_s (length w)) x' l' w' r n
