-- What the code answers to a merge of a named option: options as it shows them, or that a digit count is too long.
use Rattle.std.specs.Prelude.{ℕ, List, true, false, Result, Ok, Err}
use Rattle.decimals.specs.Decimal.{Options}
use Rattle.decimals.specs.Relations.Shown.{shown_options}
use Rattle.numbers.specs.Value.{Value, too_long, merge_one}
use Rattle.decimals.specs.declared.types.Options as CodeOptions
use Rattle.numbers.specs.declared.merge.TooLong.{TooLong}

-- the one value of the error
abbrev pub too_long_error : TooLong
too_long_error = record {}

-- what merging one option answers: refused where it is a minimumFractionDigits above the limit
unfoldable pub merged_of : List ℕ → Value → Options → Result CodeOptions.Options TooLong
merged_of name v o = elim (too_long name v) [ true ↦ Err too_long_error | false ↦ Ok (shown_options (merge_one name v o)) ]
