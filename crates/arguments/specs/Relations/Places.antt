-- The places of an arguments image that are noted for a search: of n arguments every (n / 256 + 16)th, from the first on, so that an image of few has one place.
use Rattle.std.specs.Prelude.{ℕ, ◌+◌, ◌-◌, ◌*◌, ◌/◌, ◌<◌, ◌≡◌, Bool, true, false, ◌||◌, List, [], ◌∷◌, get_or, leb, Option, Some, None}
use Rattle.records.specs.Got.{Got, got, bad}
use Rattle.records.specs.Bytes.{number_at, str_at}
use Rattle.records.specs.Decode.{many}
use Rattle.records.specs.Images.{Argument, argument_at}
use Rattle.order.specs.Order.{before}
use Rattle.arguments.specs.Relations.Outline.{row_at, readable, shown_option, sought}
use Rattle.arguments.specs.declared.Given.{Given}
use Rattle.arguments.specs.declared.image.Checked.{Checked}

-- so that there are 256 places at most
abbrev pub step_of : ℕ → ℕ
step_of n = n / 256 + 16

-- the places of n arguments from a position on: each is where the arguments before it end
unfoldable pub PlacesOf : List ℕ → ℕ → ℕ → List ℕ → Type 0
PlacesOf s from n places = (j : ℕ) → j * step_of n < n → (l : List (List ℕ × Argument)) (e : ℕ) → many [] ◌∷◌ (j * step_of n) argument_at s from ≡ got l e → get_or places j 0 ≡ e

-- they are noted, where the arguments were read
unfoldable pub Notes : List ℕ → ℕ → ℕ → List ℕ → Option Checked → Type 0
Notes s from n places None = Unit {0}
Notes s from n places (Some r) = PlacesOf s from n places

-- the places of an image: its count stands at 5, its arguments at 7
unfoldable pub Noted : List ℕ → List ℕ → Type 0
Noted s places = (n : ℕ) → number_at 2 s 5 ≡ got n 7 → PlacesOf s 7 n places

-- a name that was read is greater; so is none
unfoldable pub is_past : Got (List ℕ) → List ℕ → Bool
is_past bad name = true
is_past (got n e) name = before name n

-- a place beyond the last argument, or one with a greater name
unfoldable pub is_above : List ℕ → List ℕ → ℕ → List ℕ → ℕ → Bool
is_above s places n name j = leb n (j * step_of n) || is_past (str_at s (get_or places j 0)) name

-- the first place, or one that is not above
pub data MayBegin (s places : List ℕ) (n : ℕ) (name : List ℕ) (j : ℕ) : Type 0 where
  first : j ≡ 0 → MayBegin s places n name j
  further : j < 256 → is_above s places n name j ≡ false → MayBegin s places n name j

-- what is found for a name, on any bytes and with any places: nothing where no count can be read; else what stands there one by one, from the first place, or from
-- one that is not above
pub data FoundBy (s places name : List ℕ) (r : Option Given) : Type 0 where
  no_count : number_at 2 s 5 ≡ bad → r ≡ None → FoundBy s places name r
  from_place : (n e j : ℕ) → number_at 2 s 5 ≡ got n e → MayBegin s places n name j → r ≡ shown_option (sought name (readable (n - j * step_of n) row_at s (get_or places j 0))) → FoundBy s places name r
