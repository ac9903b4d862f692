-- What is claimed of a sheet and its messages. "The text is the joining of the texts that the messages give alone, the list the joining of their records,
-- under one header."
use Rattle.std.specs.Prelude.{◌≡◌, List, [], ◌∷◌, ◌++◌, ◌↔◌, ℕ, ◌+◌, ◌≤◌, max, length}
use Rattle.records.specs.Got.{got}
use Rattle.records.specs.Images.{Store, store_of}
use Rattle.records.specs.Errors.{enc_errors}
use Rattle.layout.specs.Exact.{Octets}
use Rattle.resolution.specs.Effect.{Bytes}
use Rattle.resolution.specs.Exec.{Machine, ran, list_limit, start}
use Rattle.resolution.specs.Format.{finished, Buffers, ended, format}
use Rattle.theorems.specs.Finished.{Says}
use Rattle.requests.specs.Image.{Request, sheet_of}
use Rattle.sheets.specs.Sheet.{format_sheet}

-- One machine's text, errors and counts, and behind them another's: "the joining of the texts …, the list the joining of their records … Error count,
-- placeables begun and unfound are the sums over the messages"; the highest use is the larger.
unfoldable pub beside : Machine → Machine → Machine
beside m n = record {
  written = m.written ++ n.written;
  errors = m.errors ++ n.errors;
  nest = n.nest;
  used = n.used;
  high = max m.high n.high;
  begun = m.begun + n.begun;
  expanded = m.expanded + n.expanded;
  unfounds = m.unfounds + n.unfounds;
}

-- the joining of all, in order
unfoldable pub joined : List Machine → Machine
joined [] = start
joined (m ∷ ms) = beside m (joined ms)

-- the three buffers, from their bytes
abbrev pub lent : Bytes → Bytes → Bytes → Buffers
lent x l w = record { text = x; list = l; work = w }

-- A message alone finishes, in any buffers of its own text's and its own list's length, and the workspace w, and m says what is answered and written.
abbrev pub Alone : Bytes → Bytes → Request → Machine → Type 0
Alone s w r m =
    (x l : Bytes) → length x ≡ length m.written → length l ≡ length (enc_errors m.errors)
    → format s r.id r.attribute r.image (lent x l w) ≡ ended (ran m) (lent x l w)

-- each message of a sheet alone, with a machine of its own
pub data Each (s w : Bytes) : List Request → List Machine → Type 0 where
  nothing : Each s w [] []
  one : {r : Request} {rs : List Request} {m : Machine} {ms : List Machine} → Alone s w r m → Each s w rs ms → Each s w (r ∷ rs) (m ∷ ms)

-- The store and the sheet image are well-formed, each message finishes alone, their texts and their records fit one behind the other into the text and
-- list buffers ("A record that would take the list past 4,294,967,295 bytes meets 7 too"), and the five numbers are those of the joining.
pub record Joins (s image : Bytes) (b : Buffers) (t e k u w : ℕ) : Type 0 where
  pub store : Store
  pub store_end : ℕ
  pub stored : store_of s ≡ got store store_end
  pub requests : List Request
  pub requests_end : ℕ
  pub read : sheet_of image ≡ got requests requests_end
  pub machines : List Machine
  pub each : Each s b.work requests machines
  pub text : length (joined machines).written ≤ length b.text
  pub list : length (enc_errors (joined machines).errors) ≤ list_limit (length b.list)
  pub says : Says (joined machines) t e k u w

-- A sheet finishes exactly when each of its messages finishes alone and these fit one behind the other.
abbrev pub Joining : Type 0
Joining = (s image : Bytes) → Octets image → (b : Buffers) (t e k u w : ℕ) → ((format_sheet s image b).answer ≡ finished t e k u w) ↔ Joins s image b t e k u w

-- Then the three buffers are those of the joining: its text, its list under one header, and a workspace of zeros.
abbrev pub JoinedBytes : Type 0
JoinedBytes =
    (s image : Bytes) (b : Buffers) (t e k u w : ℕ) (j : Joins s image b t e k u w)
    → format_sheet s image b ≡ ended (ran (joined j.machines)) b
