-- Number literals: the accepted texts, and the number that one stands for.
use Rattle.std.specs.Prelude.{ℕ, ◌+◌, ◌-◌, ◌*◌, List, [], ◌∷◌, Bool, true, false, ◌&&◌, ◌||◌, ltb, leb, eqb}
use Rattle.std.proofs.Math.Option.{Option, none, some}
use Rattle.decimals.specs.Bytes.{run, choose, digit}
use Rattle.decimals.specs.Decimal.{Options, Number, default_options, or_zero}

-- "optional `-`, digits, optionally `.` and digits": 0 before all, 1 after the sign, 2 in the whole part, 3 after the dot, 4 in the fraction, 5 none;
-- 45 is `-`, 46 is `.`
unfoldable pub number_step : ℕ → ℕ → ℕ
number_step q b =
    choose (digit b) (choose (ltb q 3) 2 (choose (ltb q 5) 4 5))
    (choose (eqb b 45) (choose (eqb q 0) 1 5)
    (choose (eqb b 46) (choose (eqb q 2) 3 5) 5))

-- how many digits a text has
unfoldable pub digit_count : List ℕ → ℕ
digit_count [] = 0
digit_count (b ∷ bs) = choose (digit b) 1 0 + digit_count bs

-- "1 to 15 digits in all, at least one on each side": the shape ends in the whole part or in the fraction
unfoldable pub is_number : List ℕ → Bool
is_number t = (eqb (run number_step 0 t) 2 || eqb (run number_step 0 t) 4) && leb (digit_count t) 15

-- what was read of a literal: its sign, its digits without the dot, how many stand after the dot
pub record Read : Type 0 where
  pub negative : Bool
  pub digits : ℕ
  pub fraction : Option ℕ

-- one more fraction digit, where there is a fraction
unfoldable pub one_more : Option ℕ → Option ℕ
one_more none = none
one_more (some k) = some (k + 1)

unfoldable pub read_sign : Read → Read
read_sign r = record { negative = true; digits = r.digits; fraction = r.fraction }

unfoldable pub read_dot : Read → Read
read_dot r = record { negative = r.negative; digits = r.digits; fraction = some 0 }

unfoldable pub read_digit : Read → ℕ → Read
read_digit r c = record { negative = r.negative; digits = r.digits * 10 + (c - 48); fraction = one_more r.fraction }

unfoldable pub read_step : Read → ℕ → Read
read_step r c = elim (eqb c 45) [ true ↦ read_sign r | false ↦ elim (eqb c 46) [ true ↦ read_dot r | false ↦ read_digit r c ] ]

unfoldable pub read_from : List ℕ → Read → Read
read_from [] r = r
read_from (c ∷ cs) r = read_from cs (read_step r c)

unfoldable pub read_start : Read
read_start = record { negative = false; digits = 0; fraction = none }

-- "A literal's fraction length becomes its minimum fraction digits"
unfoldable pub with_fraction : Option ℕ → Options → Options
with_fraction m o = record { kind = o.kind; style = o.style; currency = o.currency; currency_display = o.currency_display; use_grouping = o.use_grouping; minimum_integer_digits = o.minimum_integer_digits; minimum_fraction_digits = m; maximum_fraction_digits = o.maximum_fraction_digits; minimum_significant_digits = o.minimum_significant_digits; maximum_significant_digits = o.maximum_significant_digits }

unfoldable pub read_number : Read → Number
read_number r = record { negative = r.negative; digits = r.digits; scale = or_zero r.fraction; options = with_fraction r.fraction default_options }

-- the number that an accepted text stands for
unfoldable pub literal : List ℕ → Number
literal s = read_number (read_from s read_start)
