-- What the code that reads, finds and merges named arguments ensures.
use Rattle.std.specs.Prelude.{◌≡◌, List, [], ◌∷◌, true, false, ℕ, ◌-◌, ◌≤◌, ◌<◌, length}
use Rattle.std.proofs.Math.Option.{Option, none, some}
use Rattle.numbers.specs.Number.{Options, is_number, digits_limit, scale_limit}
use Rattle.numbers.specs.Value.{Value, too_long, merge_one}
use Rattle.decimals.specs.Relations.Shown.{shown_options}
use Rattle.numbers.specs.Relations.Shown.{merged_of, too_long_error}
use Rattle.decimals.specs.declared.types.Number as CodeNumber
use Rattle.std.specs.Prelude as rust
use Rattle.std.specs.Prelude.{Some, None, Ok, Err}
use Rattle.decimals.specs.declared.types.Options as CodeOptions
use Rattle.numbers.specs.declared.merge.TooLong.{TooLong}
use Rattle.records.specs.Got.{got}
use Rattle.records.specs.Bytes.{part}
use Rattle.records.specs.Tree.{Literal}
use Rattle.records.specs.Decode.{named_at}
use Rattle.records.specs.Images.{Argument}
use Rattle.resolution.specs.Format.{value_of}
use Rattle.values.specs.declared.Value as CodeValue
use Rattle.values.specs.declared.Value.TheVariants as val
use Rattle.resolver.specs.declared.scope.value.NamedSpan.{NamedSpan}
use Rattle.resolver.specs.Relations.Meets.{takes, literal_text, TextIn, Holds}

-- the value of what was read as a number literal: an error where it was none
unfoldable pub literal_valued : rust.Option CodeNumber.Number → CodeValue.Value
literal_valued (Some n) = val.Number n
literal_valued None = val.Wrong

-- a literal, by its tag and where its bytes stand
pub data LiteralIs (s : List ℕ) (tag a e : ℕ) (x : Literal) : Type 0 where
  a_string : tag ≡ 1 → x ≡ Literal.string (part s a (e - a)) → LiteralIs s tag a e x
  is_digits : tag ≡ 2 → is_number (part s a (e - a)) ≡ true → x ≡ Literal.number (part s a (e - a)) → LiteralIs s tag a e x

-- a named argument, by positions
pub record NamedReads (s : List ℕ) (at : ℕ) (r : rust.Option NamedSpan) : Type 0 where
  pub inside : (n : NamedSpan) → r ≡ rust.Some n → (n.from ≤ n.to) × (n.to ≤ length s) × (n.start ≤ n.end) × (n.end ≤ length s)
  pub reads : (n : NamedSpan) → r ≡ rust.Some n → (x : List ℕ × Literal) (f : ℕ) → named_at s at ≡ got x f → (x.0 ≡ part s n.from (n.to - n.from)) × (f ≡ n.end) × LiteralIs s n.tag n.start n.end x.1
  pub unread : r ≡ rust.None → (x : List ℕ × Literal) (f : ℕ) → named_at s at ≡ got x f → ⊥

-- the bytes that a literal's text takes at the workspace's back
abbrev pub TakenAt : List ℕ → ℕ → ℕ → ℕ → ℕ → Type 0
TakenAt s tag a e r = (x : Literal) → LiteralIs s tag a e x → a ≤ e → e ≤ length s → r ≡ takes x

-- a literal's value, its text up to `base` in the workspace
abbrev pub LiteralAt : List ℕ → ℕ → ℕ → ℕ → ℕ → CodeValue.Value → Type 0
LiteralAt s tag a e base r =
    (x : Literal) → LiteralIs s tag a e x → a ≤ e → e ≤ length s → (args w : List ℕ) (low : ℕ) → low ≤ base - takes x → takes x ≤ base → base ≤ length w → TextIn w base x → Holds s args w low r (literal_text x)

-- an argument's value
unfoldable pub value_of_some : Option Argument → Option Value
value_of_some none = none
value_of_some (some a) = some (value_of a)

-- an argument's number is in range
unfoldable pub Ranged : Option Argument → Type 0
Ranged none = Unit {0}
Ranged (some (Argument.string t)) = Unit {0}
Ranged (some (Argument.number f d k)) = (d < digits_limit) × (k ≤ scale_limit)
Ranged (some Argument.nothing) = Unit {0}

-- one option merged: its name from `from` to `to`, its literal's text up to `base` in the workspace
abbrev pub MergedAt : List ℕ → List ℕ → ℕ → ℕ → ℕ → ℕ → ℕ → ℕ → CodeOptions.Options → rust.Result CodeOptions.Options TooLong → Type 0
MergedAt s w from to tag a e base o r =
    (x : Literal) (p : Options) → LiteralIs s tag a e x → from ≤ to → to ≤ length s → a ≤ e → e ≤ length s → takes x ≤ base → base ≤ length w → TextIn w base x → o ≡ shown_options p
    → r ≡ merged_of (part s from (to - from)) (literal_text x) p

-- options merged in order, up to one that is refused
unfoldable pub merged_all : List (List ℕ × Value) → Options → rust.Result CodeOptions.Options TooLong
merged_all [] o = Ok (shown_options o)
merged_all (e ∷ es) o = elim (too_long e.0 e.1) [ true ↦ Err too_long_error | false ↦ merged_all es (merge_one e.0 e.1 o) ]
