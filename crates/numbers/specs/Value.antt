-- Values, and NUMBER with its merge of named options.
use Rattle.std.specs.Prelude.{ℕ, ◌/◌, ◌^◌, List, [], ◌∷◌, Bool, true, false, ◌&&◌, not, ltb}
use Rattle.std.proofs.Math.Option.{Option, some}
use Rattle.decimals.specs.Ascii.{ascii}
use Rattle.decimals.specs.Bytes.{same_bytes}
use Rattle.decimals.specs.Decimal.{Options, Number, fraction_limit}
use Rattle.decimals.specs.Text.{number_text}
use Rattle.decimals.specs.declared.types.Kind.{Kind}
use Rattle.decimals.specs.declared.types.Kind.TheVariants.{Cardinal, Ordinal}
use Rattle.decimals.specs.declared.types.Style.{Style}
use Rattle.decimals.specs.declared.types.Style.TheVariants.{Decimal, Currency, Percent}
use Rattle.decimals.specs.declared.types.Display.{Display}
use Rattle.decimals.specs.declared.types.Display.TheVariants.{Symbol, Code, Name}

-- the Rust's FluentValue: String, Number, None, Error
pub data Value : Type 0 where
  textual : List ℕ → Value
  numeric : Number → Value
  nothing wrong : Value

-- the names of the ten options
abbrev pub type_name : List ℕ
type_name = ascii "type"

abbrev pub style_name : List ℕ
style_name = ascii "style"

abbrev pub currency_name : List ℕ
currency_name = ascii "currency"

abbrev pub currency_display_name : List ℕ
currency_display_name = ascii "currencyDisplay"

abbrev pub use_grouping_name : List ℕ
use_grouping_name = ascii "useGrouping"

abbrev pub minimum_integer_digits_name : List ℕ
minimum_integer_digits_name = ascii "minimumIntegerDigits"

abbrev pub minimum_fraction_digits_name : List ℕ
minimum_fraction_digits_name = ascii "minimumFractionDigits"

abbrev pub maximum_fraction_digits_name : List ℕ
maximum_fraction_digits_name = ascii "maximumFractionDigits"

abbrev pub minimum_significant_digits_name : List ℕ
minimum_significant_digits_name = ascii "minimumSignificantDigits"

abbrev pub maximum_significant_digits_name : List ℕ
maximum_significant_digits_name = ascii "maximumSignificantDigits"

-- and the words that some of them know
abbrev pub ordinal_word : List ℕ
ordinal_word = ascii "ordinal"

abbrev pub currency_word : List ℕ
currency_word = ascii "currency"

abbrev pub percent_word : List ℕ
percent_word = ascii "percent"

abbrev pub code_word : List ℕ
code_word = ascii "code"

abbrev pub name_word : List ℕ
name_word = ascii "name"

abbrev pub false_word : List ℕ
false_word = ascii "false"

-- options with one of them set
unfoldable pub with_kind : Kind → Options → Options
with_kind x o = record { kind = x; style = o.style; currency = o.currency; currency_display = o.currency_display; use_grouping = o.use_grouping; minimum_integer_digits = o.minimum_integer_digits; minimum_fraction_digits = o.minimum_fraction_digits; maximum_fraction_digits = o.maximum_fraction_digits; minimum_significant_digits = o.minimum_significant_digits; maximum_significant_digits = o.maximum_significant_digits }

unfoldable pub with_style : Style → Options → Options
with_style x o = record { kind = o.kind; style = x; currency = o.currency; currency_display = o.currency_display; use_grouping = o.use_grouping; minimum_integer_digits = o.minimum_integer_digits; minimum_fraction_digits = o.minimum_fraction_digits; maximum_fraction_digits = o.maximum_fraction_digits; minimum_significant_digits = o.minimum_significant_digits; maximum_significant_digits = o.maximum_significant_digits }

unfoldable pub with_currency : Option (List ℕ) → Options → Options
with_currency x o = record { kind = o.kind; style = o.style; currency = x; currency_display = o.currency_display; use_grouping = o.use_grouping; minimum_integer_digits = o.minimum_integer_digits; minimum_fraction_digits = o.minimum_fraction_digits; maximum_fraction_digits = o.maximum_fraction_digits; minimum_significant_digits = o.minimum_significant_digits; maximum_significant_digits = o.maximum_significant_digits }

unfoldable pub with_currency_display : Display → Options → Options
with_currency_display x o = record { kind = o.kind; style = o.style; currency = o.currency; currency_display = x; use_grouping = o.use_grouping; minimum_integer_digits = o.minimum_integer_digits; minimum_fraction_digits = o.minimum_fraction_digits; maximum_fraction_digits = o.maximum_fraction_digits; minimum_significant_digits = o.minimum_significant_digits; maximum_significant_digits = o.maximum_significant_digits }

unfoldable pub with_use_grouping : Bool → Options → Options
with_use_grouping x o = record { kind = o.kind; style = o.style; currency = o.currency; currency_display = o.currency_display; use_grouping = x; minimum_integer_digits = o.minimum_integer_digits; minimum_fraction_digits = o.minimum_fraction_digits; maximum_fraction_digits = o.maximum_fraction_digits; minimum_significant_digits = o.minimum_significant_digits; maximum_significant_digits = o.maximum_significant_digits }

unfoldable pub with_minimum_integer_digits : Option ℕ → Options → Options
with_minimum_integer_digits x o = record { kind = o.kind; style = o.style; currency = o.currency; currency_display = o.currency_display; use_grouping = o.use_grouping; minimum_integer_digits = x; minimum_fraction_digits = o.minimum_fraction_digits; maximum_fraction_digits = o.maximum_fraction_digits; minimum_significant_digits = o.minimum_significant_digits; maximum_significant_digits = o.maximum_significant_digits }

unfoldable pub with_minimum_fraction_digits : Option ℕ → Options → Options
with_minimum_fraction_digits x o = record { kind = o.kind; style = o.style; currency = o.currency; currency_display = o.currency_display; use_grouping = o.use_grouping; minimum_integer_digits = o.minimum_integer_digits; minimum_fraction_digits = x; maximum_fraction_digits = o.maximum_fraction_digits; minimum_significant_digits = o.minimum_significant_digits; maximum_significant_digits = o.maximum_significant_digits }

unfoldable pub with_maximum_fraction_digits : Option ℕ → Options → Options
with_maximum_fraction_digits x o = record { kind = o.kind; style = o.style; currency = o.currency; currency_display = o.currency_display; use_grouping = o.use_grouping; minimum_integer_digits = o.minimum_integer_digits; minimum_fraction_digits = o.minimum_fraction_digits; maximum_fraction_digits = x; minimum_significant_digits = o.minimum_significant_digits; maximum_significant_digits = o.maximum_significant_digits }

unfoldable pub with_minimum_significant_digits : Option ℕ → Options → Options
with_minimum_significant_digits x o = record { kind = o.kind; style = o.style; currency = o.currency; currency_display = o.currency_display; use_grouping = o.use_grouping; minimum_integer_digits = o.minimum_integer_digits; minimum_fraction_digits = o.minimum_fraction_digits; maximum_fraction_digits = o.maximum_fraction_digits; minimum_significant_digits = x; maximum_significant_digits = o.maximum_significant_digits }

unfoldable pub with_maximum_significant_digits : Option ℕ → Options → Options
with_maximum_significant_digits x o = record { kind = o.kind; style = o.style; currency = o.currency; currency_display = o.currency_display; use_grouping = o.use_grouping; minimum_integer_digits = o.minimum_integer_digits; minimum_fraction_digits = o.minimum_fraction_digits; maximum_fraction_digits = o.maximum_fraction_digits; minimum_significant_digits = o.minimum_significant_digits; maximum_significant_digits = x }

-- "unknown words" are the default, as the Rust's `From<&str>`
unfoldable pub kind_of : List ℕ → Kind
kind_of s = elim (same_bytes s ordinal_word) [ true ↦ Ordinal | false ↦ Cardinal ]

unfoldable pub style_of : List ℕ → Style
style_of s = elim (same_bytes s currency_word) [ true ↦ Currency | false ↦ elim (same_bytes s percent_word) [ true ↦ Percent | false ↦ Decimal ] ]

unfoldable pub display_of : List ℕ → Display
display_of s = elim (same_bytes s code_word) [ true ↦ Code | false ↦ elim (same_bytes s name_word) [ true ↦ Name | false ↦ Symbol ] ]

-- "digit counts drop the fraction, negatives become 0"
unfoldable pub to_count : Number → ℕ
to_count n = elim n.negative [ true ↦ 0 | false ↦ n.digits / 10 ^ n.scale ]

abbrev pub pick_options : Bool → Options → Options → Options
pick_options true a b = a
pick_options false a b = b

-- an option whose value is text: the first five, as the Rust's `merge`
unfoldable pub merge_text : List ℕ → List ℕ → Options → Options
merge_text name s o =
    pick_options (same_bytes name type_name) (with_kind (kind_of s) o)
    (pick_options (same_bytes name style_name) (with_style (style_of s) o)
    (pick_options (same_bytes name currency_name) (with_currency (some s) o)
    (pick_options (same_bytes name currency_display_name) (with_currency_display (display_of s) o)
    (pick_options (same_bytes name use_grouping_name) (with_use_grouping (not (same_bytes s false_word)) o) o))))

-- an option whose value is a number: the five digit counts
unfoldable pub merge_count : List ℕ → ℕ → Options → Options
merge_count name k o =
    pick_options (same_bytes name minimum_integer_digits_name) (with_minimum_integer_digits (some k) o)
    (pick_options (same_bytes name minimum_fraction_digits_name) (with_minimum_fraction_digits (some k) o)
    (pick_options (same_bytes name maximum_fraction_digits_name) (with_maximum_fraction_digits (some k) o)
    (pick_options (same_bytes name minimum_significant_digits_name) (with_minimum_significant_digits (some k) o)
    (pick_options (same_bytes name maximum_significant_digits_name) (with_maximum_significant_digits (some k) o) o))))

-- one turn of the Rust's `merge`: values of the wrong kind and names that it does not know change nothing
unfoldable pub merge_one : List ℕ → Value → Options → Options
merge_one name (textual s) o = merge_text name s o
merge_one name (numeric n) o = merge_count name (to_count n) o
merge_one name nothing o = o
merge_one name wrong o = o

-- "it merges named options as `merge` does", in their order
unfoldable pub merge : List (List ℕ × Value) → Options → Options
merge [] o = o
merge (e ∷ es) o = merge es (merge_one e.0 e.1 o)

-- "a merged minimumFractionDigits above 19"
unfoldable pub too_long : List ℕ → Value → Bool
too_long name (textual s) = false
too_long name (numeric n) = same_bytes name minimum_fraction_digits_name && ltb fraction_limit (to_count n)
too_long name nothing = false
too_long name wrong = false

unfoldable pub with_options : Options → Number → Number
with_options o n = record { negative = n.negative; digits = n.digits; scale = n.scale; options = o }

-- "NUMBER needs a number first, else Error"
unfoldable pub number_function : List Value → List (List ℕ × Value) → Value
number_function [] named = wrong
number_function (textual s ∷ vs) named = wrong
number_function (numeric n ∷ vs) named = numeric (with_options (merge named n.options) n)
number_function (nothing ∷ vs) named = wrong
number_function (wrong ∷ vs) named = wrong

-- the Rust's `as_string`: None and Error are empty
unfoldable pub value_text : Value → List ℕ
value_text (textual s) = s
value_text (numeric n) = number_text n
value_text nothing = []
value_text wrong = []
