-- The accepted number literals in document 01's words: "optional `-`, digits, optionally `.` and digits; 1 to 15 digits in all, at least one on each side".
-- `is_number` (Literal.antt) is the automaton that tells them; proofs/Spelling.antt has that it tells these texts and no other.
use Rattle.std.specs.Prelude.{◌≡◌, Bool, true, false, ◌&&◌, List, [], ◌∷◌, ◌++◌, ℕ, ◌+◌, ◌≤◌, length}
use Rattle.std.proofs.Math.Option.{Option, none, some}
use Rattle.decimals.specs.Ascii.{ascii}
use Rattle.decimals.specs.Bytes.{digit}

unfoldable pub all_digits : List ℕ → Bool
all_digits [] = true
all_digits (b ∷ bs) = digit b && all_digits bs

-- "digits", "at least one"
pub record Digits (l : List ℕ) : Type 0 where
  pub each : all_digits l ≡ true
  pub one : 1 ≤ length l

-- "optional `-`"
unfoldable pub minus : Bool → List ℕ
minus true = ascii "-"
minus false = []

-- "optionally `.` and digits": the text (46 is `.`), what it must be, and how many digits it has
unfoldable pub dotted : Option (List ℕ) → List ℕ
dotted none = []
dotted (some f) = 46 ∷ f

unfoldable pub Dotted : Option (List ℕ) → Type 0
Dotted none = Unit {0}
Dotted (some f) = Digits f

unfoldable pub places : Option (List ℕ) → ℕ
places none = 0
places (some f) = length f

-- a text that is a number literal
pub record Spelt (t : List ℕ) : Type 0 where
  pub negative : Bool
  pub whole : List ℕ
  pub fraction : Option (List ℕ)
  pub text : t ≡ minus negative ++ (whole ++ dotted fraction)
  pub before : Digits whole
  pub after : Dotted fraction
  pub few : length whole + places fraction ≤ 15
