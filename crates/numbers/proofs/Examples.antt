-- Worked examples of equality, computed.
use mathlib.Core.Path.{◌≡◌, refl}
use Prim.Native.Nat.{ℕ}
use mathlib.Core.Bool.{true, false}
use mathlib.Core.Option.{Option, none}
use Rattle.decimals.specs.Ascii.{ascii}
use Rattle.decimals.specs.Decimal.{Number, default_options, or_zero}
use Rattle.literals.specs.Literal.{literal, with_fraction, one_more, read_sign, read_dot, read_digit, read_step, read_from, read_start, read_number}
use Rattle.numbers.specs.Equal.{same_number, same_value, same_options, same_words, same_counts, same_text, same_count, same_flag}

whole : ℕ → Option ℕ → Number
whole d m = record { negative = false; digits = d; scale = 0; options = with_fraction m default_options }

-- the key 1.0 is not the argument 1
key_one : same_number (literal (ascii "1.0")) (whole 1 none) ≡ false
unfolding whole with_fraction default_options or_zero literal read_number read_from read_start read_step read_sign read_dot read_digit one_more same_number same_value same_options same_words same_counts same_text same_count same_flag
key_one = refl

-- the key -0 is the argument 0
key_zero : same_number (literal (ascii "-0")) (whole 0 none) ≡ true
unfolding whole with_fraction default_options or_zero literal read_number read_from read_start read_step read_sign read_dot read_digit one_more same_number same_value same_options same_words same_counts same_text same_count same_flag
key_zero = refl
