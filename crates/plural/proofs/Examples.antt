-- Worked examples of categories, computed.
use mathlib.Core.Path.{◌≡◌, refl}
use Prim.Native.Nat.{ℕ}
use mathlib.Core.Bool.{false}
use mathlib.Core.Option.{Option, none}
use Rattle.decimals.specs.Ascii.{ascii}
use Rattle.decimals.specs.Decimal.{Number, default_options, shortest, or_zero}
use Rattle.literals.specs.Literal.{literal, with_fraction, one_more, read_sign, read_dot, read_digit, read_step, read_from, read_start, read_number}
use Rattle.plural.specs.Plural.{category, rule_of, operands, operands_of, en_cardinal, ru_cardinal, ru_whole, cy_cardinal, cy_whole}

whole : ℕ → Option ℕ → Number
whole d m = record { negative = false; digits = d; scale = 0; options = with_fraction m default_options }

-- 1.0 in en is other
one_dot_zero_en : category 0 (literal (ascii "1.0")) ≡ 5
unfolding category rule_of operands operands_of shortest or_zero en_cardinal with_fraction default_options literal read_number read_from read_start read_step read_sign read_dot read_digit one_more
one_dot_zero_en = refl

-- 1 in en is one
one_en : category 0 (whole 1 none) ≡ 1
unfolding whole with_fraction default_options category rule_of operands operands_of shortest or_zero en_cardinal
one_en = refl

-- 6 in cy is many
six_cy : category 3 (whole 6 none) ≡ 4
unfolding whole with_fraction default_options category rule_of operands operands_of shortest or_zero cy_cardinal cy_whole
six_cy = refl

-- 11 in ru is many
eleven_ru : category 2 (whole 11 none) ≡ 4
unfolding whole with_fraction default_options category rule_of operands operands_of shortest or_zero ru_cardinal ru_whole
eleven_ru = refl

-- 21 in ru is one
twenty_one_ru : category 2 (whole 21 none) ≡ 1
unfolding whole with_fraction default_options category rule_of operands operands_of shortest or_zero ru_cardinal ru_whole
twenty_one_ru = refl
