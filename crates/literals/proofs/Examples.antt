-- Worked examples of literals and of the text of what they stand for, computed.
use mathlib.Core.Path.{◌≡◌, refl}
use Prim.Native.Nat.{ℕ}
use mathlib.Core.Bool.{false}
use mathlib.Core.Option.{Option, some}
use Rattle.decimals.specs.Ascii.{ascii}
use Rattle.decimals.specs.Bytes.{run, digit}
use Rattle.decimals.specs.Decimal.{Number, default_options, shortest, or_zero}
use Rattle.decimals.specs.Text.{number_text, decimal_text, decimal, width, digits_of, sign_text, fraction_digits, with_dot, fraction_text}
use Rattle.literals.specs.Literal.{literal, is_number, with_fraction, number_step, digit_count, one_more, read_sign, read_dot, read_digit, read_step, read_from, read_start, read_number}

whole : ℕ → Option ℕ → Number
whole d m = record { negative = false; digits = d; scale = 0; options = with_fraction m default_options }

-- 5 with minimum 0 is "5", with minimum 2 "5.00"
five_minimum_zero : number_text (whole 5 (some 0)) ≡ ascii "5"
unfolding whole number_text decimal_text shortest decimal width digits_of sign_text fraction_digits with_dot fraction_text with_fraction default_options or_zero
five_minimum_zero = refl

five_minimum_two : number_text (whole 5 (some 2)) ≡ ascii "5.00"
unfolding whole number_text decimal_text shortest decimal width digits_of sign_text fraction_digits with_dot fraction_text with_fraction default_options or_zero
five_minimum_two = refl

-- -0 is "-0"
minus_zero : number_text (literal (ascii "-0")) ≡ ascii "-0"
unfolding number_text decimal_text shortest decimal width digits_of sign_text fraction_digits with_dot fraction_text with_fraction default_options or_zero literal read_number read_from read_start read_step read_sign read_dot read_digit one_more
minus_zero = refl

-- 5.50 is "5.50"
five_fifty : number_text (literal (ascii "5.50")) ≡ ascii "5.50"
unfolding number_text decimal_text shortest decimal width digits_of sign_text fraction_digits with_dot fraction_text with_fraction default_options or_zero literal read_number read_from read_start read_step read_sign read_dot read_digit one_more
five_fifty = refl

-- -0.01 is "-0.01"
minus_zero_one : number_text (literal (ascii "-0.01")) ≡ ascii "-0.01"
unfolding number_text decimal_text shortest decimal width digits_of sign_text fraction_digits with_dot fraction_text with_fraction default_options or_zero literal read_number read_from read_start read_step read_sign read_dot read_digit one_more
minus_zero_one = refl

-- "1." is no literal
no_point : is_number (ascii "1.") ≡ false
unfolding is_number run number_step digit_count digit
no_point = refl
