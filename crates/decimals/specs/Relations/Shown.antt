-- How the code's numbers, options and texts stand for those of the definitions. Of a currency the code keeps only whether it is set.
use Rattle.std.specs.Prelude.{ℕ, List, [], Bool, true, false, length, take, Some, None}
use Rattle.std.specs.Prelude as rust
use Rattle.std.proofs.Math.Option.{Option, none, some}
use Rattle.decimals.specs.Decimal.{Options, Number}
use Rattle.decimals.specs.Text.{text_limit, padded}
use Rattle.decimals.specs.declared.types.Options as CodeOptions
use Rattle.decimals.specs.declared.types.Number as CodeNumber
use Rattle.decimals.specs.declared.types.NumberText as CodeText

unfoldable pub shown_count : Option ℕ → rust.Option ℕ
shown_count none = None
shown_count (some k) = Some k

unfoldable pub told_count : rust.Option ℕ → Option ℕ
told_count None = none
told_count (Some k) = some k

-- is a currency set
unfoldable pub shown_text : Option (List ℕ) → Bool
shown_text none = false
shown_text (some s) = true

-- a currency that the flag stands for: its text can never be seen
unfoldable pub told_text : Bool → Option (List ℕ)
told_text true = some []
told_text false = none

-- the code's options of the definitions'
abbrev pub shown_options : Options → CodeOptions.Options
shown_options o = record { kind = o.kind; style = o.style; currency = shown_text o.currency; currency_display = o.currency_display; use_grouping = o.use_grouping; minimum_integer_digits = shown_count o.minimum_integer_digits; minimum_fraction_digits = shown_count o.minimum_fraction_digits; maximum_fraction_digits = shown_count o.maximum_fraction_digits; minimum_significant_digits = shown_count o.minimum_significant_digits; maximum_significant_digits = shown_count o.maximum_significant_digits }

-- the definitions' options that the code's stand for
abbrev pub told_options : CodeOptions.Options → Options
told_options o = record { kind = o.kind; style = o.style; currency = told_text o.currency; currency_display = o.currency_display; use_grouping = o.use_grouping; minimum_integer_digits = told_count o.minimum_integer_digits; minimum_fraction_digits = told_count o.minimum_fraction_digits; maximum_fraction_digits = told_count o.maximum_fraction_digits; minimum_significant_digits = told_count o.minimum_significant_digits; maximum_significant_digits = told_count o.maximum_significant_digits }

-- the code's number of the definitions', and back
abbrev pub shown : Number → CodeNumber.Number
shown n = record { negative = n.negative; digits = n.digits; scale = n.scale; options = shown_options n.options }

abbrev pub told : CodeNumber.Number → Number
told n = record { negative = n.negative; digits = n.digits; scale = n.scale; options = told_options n.options }

-- the bytes that a text holds
abbrev pub text_of : CodeText.NumberText → List ℕ
text_of t = take t.len t.bytes

-- the code's text that holds these bytes
abbrev pub held_text : List ℕ → CodeText.NumberText
held_text t = record { bytes = padded text_limit t; len = length t }
