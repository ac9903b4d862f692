-- The places of the options' names: of a word in a list of words, each with a comma (44) after it; and of a digit count among the five.
use Rattle.std.specs.Prelude.{ℕ, zero, suc, List, [], ◌∷◌, ◌++◌, Bool, true, false, not, eqb, Some}
use Rattle.std.specs.Prelude as rust
use Rattle.std.proofs.Math.Option.{some}
use Rattle.decimals.specs.Ascii.{ascii}
use Rattle.decimals.specs.Bytes.{same_bytes, choose}
use Rattle.decimals.specs.Decimal.{Options}
use Rattle.decimals.specs.declared.types.Options as CodeOptions
use Rattle.numbers.specs.Value.{kind_of, style_of, display_of, false_word, with_kind, with_style, with_currency, with_currency_display, with_use_grouping, minimum_integer_digits_name, minimum_fraction_digits_name, maximum_fraction_digits_name, minimum_significant_digits_name, maximum_significant_digits_name}

-- from where `begun` is what stands of the present word already; the number of words where it is none of them
unfoldable pub place_from : List ℕ → List ℕ → List ℕ → ℕ
place_from word begun [] = 0
place_from word begun (b ∷ bs) = elim (eqb b 44) [ true ↦ choose (same_bytes word begun) 0 (suc (place_from word [] bs)) | false ↦ place_from word (begun ++ (b ∷ [])) bs ]

-- the names of the options whose value is text, and of the digit counts, in the order of the definition
abbrev pub text_names : List ℕ
text_names = ascii "type,style,currency,currencyDisplay,useGrouping,"

abbrev pub count_names : List ℕ
count_names = ascii "minimumIntegerDigits,minimumFractionDigits,maximumFractionDigits,minimumSignificantDigits,maximumSignificantDigits,"

-- the merge of the text option at a place of `text_names`
unfoldable pub merge_at : ℕ → List ℕ → Options → Options
merge_at zero s o = with_kind (kind_of s) o
merge_at (suc zero) s o = with_style (style_of s) o
merge_at (suc (suc zero)) s o = with_currency (some s) o
merge_at (suc (suc (suc zero))) s o = with_currency_display (display_of s) o
merge_at (suc (suc (suc (suc zero)))) s o = with_use_grouping (not (same_bytes s false_word)) o
merge_at (suc (suc (suc (suc (suc n))))) s o = o

-- which of the five digit counts a name names, from 0; 5 for none
unfoldable pub count_named : List ℕ → ℕ
count_named name =
    choose (same_bytes name minimum_integer_digits_name) 0
    (choose (same_bytes name minimum_fraction_digits_name) 1
    (choose (same_bytes name maximum_fraction_digits_name) 2
    (choose (same_bytes name minimum_significant_digits_name) 3
    (choose (same_bytes name maximum_significant_digits_name) 4 5))))

abbrev pub pick_count : Bool → rust.Option ℕ → rust.Option ℕ → rust.Option ℕ
pick_count true a b = a
pick_count false a b = b

-- the code's options with the digit count at a place set
unfoldable pub set_count : ℕ → ℕ → CodeOptions.Options → CodeOptions.Options
set_count at k o = record { kind = o.kind; style = o.style; currency = o.currency; currency_display = o.currency_display; use_grouping = o.use_grouping; minimum_integer_digits = pick_count (eqb at 0) (Some k) o.minimum_integer_digits; minimum_fraction_digits = pick_count (eqb at 1) (Some k) o.minimum_fraction_digits; maximum_fraction_digits = pick_count (eqb at 2) (Some k) o.maximum_fraction_digits; minimum_significant_digits = pick_count (eqb at 3) (Some k) o.minimum_significant_digits; maximum_significant_digits = pick_count (eqb at 4) (Some k) o.maximum_significant_digits }
