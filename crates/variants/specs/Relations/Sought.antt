-- What the code holds of a value and of a variant, and the positions that it answers.
use Rattle.std.specs.Prelude as rust
use Rattle.records.specs.Relations.Answer.{Next}
use Rattle.std.specs.Prelude.{Some, None}
use Rattle.std.specs.Prelude.{◌≡◌, List, Bool, ◌&&◌, ◌||◌, ℕ, ◌-◌, ◌≤◌, length, eqb}
use Rattle.std.proofs.Math.Option.{Option, none, some}
use Rattle.decimals.specs.Relations.Shown.{told}
use Rattle.decimals.specs.declared.types.Number as CodeNumber
use Rattle.literals.specs.Literal.{literal, is_number}
use Rattle.numbers.specs.Number.{same_number}
use Rattle.numbers.specs.Value.{textual, numeric}
use Rattle.plural.specs.Plural.{category, category_number, keyword}
use Rattle.plural.specs.declared.types.Category.{Category}
use Rattle.decimals.specs.Bytes.{same_bytes}
use Rattle.records.specs.Got.{Got, got, bad}
use Rattle.records.specs.Bytes.{part}
use Rattle.variants.specs.Outline.{Outline, outline, outline_at}
use Rattle.variants.specs.Choice.{chosen_at}
use Rattle.variants.specs.declared.Asked.{Asked}
use Rattle.variants.specs.declared.Asked.TheVariants as asked
use Rattle.variants.specs.declared.Sought.{Sought}
use Rattle.variants.specs.declared.Sought.TheVariants as sought
use Rattle.variants.specs.declared.Span.{Span}

-- where a variant stands, and where its pattern
unfoldable pub place_of : Option Outline → Next
place_of none = None
place_of (some o) = Some o.place

unfoldable pub pattern_place : Option Outline → Next
pattern_place none = None
pattern_place (some o) = Some o.pattern

-- where the pattern of a variant stands that is read at a place
unfoldable pub one_read : Got Outline → Option Outline
one_read (got o e) = some o
one_read bad = none

unfoldable pub pattern_at_place : List ℕ → ℕ → Next
pattern_at_place s at = pattern_place (one_read (outline_at s at))

-- a variant as the code reads it
abbrev pub outline_in : List ℕ → ℕ → Span → Outline
outline_in s at v = outline at v.kind (part s v.from (v.to - v.from)) v.flag v.pattern

pub data Reads (s : List ℕ) (at : ℕ) (r : rust.Option Span) : Type 0 where
  reads : (v : Span) → r ≡ rust.Some v → outline_at s at ≡ got (outline_in s at v) v.end → v.from ≤ v.to → v.to ≤ length s → Reads s at r
  reads_none : r ≡ rust.None → outline_at s at ≡ bad → Reads s at r

-- is a key a literal that equals a number
unfoldable pub equals : List ℕ → CodeNumber.Number → Bool
equals k n = is_number k && same_number (literal k) (told n)

-- how many kinds of key can match: an Id matches texts and numbers, a literal numbers alone
unfoldable pub kinds_of : Sought → ℕ
kinds_of sought.Text = 1
kinds_of (sought.Number n c) = 2

-- does a key of a kind match by its bytes
unfoldable pub matches_by : ℕ → List ℕ → List ℕ → Sought → Bool
matches_by kind k t sought.Text = same_bytes k t
matches_by kind k t (sought.Number n c) = (eqb kind 1 && same_bytes k (keyword (category_number c))) || (eqb kind 2 && equals k n)

-- is a variant's key of a kind, and does it match
unfoldable pub tried : ℕ → List ℕ → Sought → Outline → Bool
tried kind t x o = eqb o.kind kind && matches_by kind o.key t x

-- does a variant's key match
unfoldable pub answers : List ℕ → Sought → Outline → Bool
answers t sought.Text o = tried 1 t sought.Text o
answers t (sought.Number n c) o = tried 1 t (sought.Number n c) o || tried 2 t (sought.Number n c) o

-- what keys are compared to: a number has its category
pub data Sees : Asked → Sought → Type 0 where
  sees_text : Sees asked.Text sought.Text
  sees_number : (n : CodeNumber.Number) (locale : ℕ) (c : Category) → category_number c ≡ category locale (told n) → Sees (asked.Number n locale) (sought.Number n c)

-- where the pattern stands that a value chooses; of a text in every locale
unfoldable pub Chooses : Asked → List ℕ → List ℕ → ℕ → Next → Type 0
Chooses asked.Text t s at r = (locale : ℕ) → r ≡ pattern_place (chosen_at locale (textual t) s at)
Chooses (asked.Number n locale) t s at r = r ≡ pattern_place (chosen_at locale (numeric (told n)) s at)
