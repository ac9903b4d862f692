-- Decimals (a sign, and digits over 10^scale) with NUMBER's ten options.
use Rattle.std.specs.Prelude.{ℕ, zero, suc, ◌/◌, ◌%◌, List, Bool, true, false, eqb}
use Rattle.std.proofs.Math.Option.{Option, none, some}
use Rattle.decimals.specs.declared.types.Kind.{Kind}
use Rattle.decimals.specs.declared.types.Kind.TheVariants.{Cardinal, Ordinal}
use Rattle.decimals.specs.declared.types.Style.{Style}
use Rattle.decimals.specs.declared.types.Style.TheVariants.{Decimal, Currency, Percent}
use Rattle.decimals.specs.declared.types.Display.{Display}
use Rattle.decimals.specs.declared.types.Display.TheVariants.{Symbol, Code, Name}

-- the Rust's FluentNumberOptions, in its order; `kind` is its `type`
pub record Options : Type 0 where
  pub kind : Kind
  pub style : Style
  pub currency : Option (List ℕ)
  pub currency_display : Display
  pub use_grouping : Bool
  pub minimum_integer_digits : Option ℕ
  pub minimum_fraction_digits : Option ℕ
  pub maximum_fraction_digits : Option ℕ
  pub minimum_significant_digits : Option ℕ
  pub maximum_significant_digits : Option ℕ

-- "the digits over 10^scale", with a sign
pub record Number : Type 0 where
  pub negative : Bool
  pub digits : ℕ
  pub scale : ℕ
  pub options : Options

-- the Rust's Default: of the options of arguments ("arguments have none")
unfoldable pub default_options : Options
default_options = record { kind = Cardinal; style = Decimal; currency = none; currency_display = Symbol; use_grouping = true; minimum_integer_digits = none; minimum_fraction_digits = none; maximum_fraction_digits = none; minimum_significant_digits = none; maximum_significant_digits = none }

-- the enums' cases, in the Rust's order, as numbers
abbrev pub kind_number : Kind → ℕ
kind_number Cardinal = 0
kind_number Ordinal = 1

abbrev pub style_number : Style → ℕ
style_number Decimal = 0
style_number Currency = 1
style_number Percent = 2

abbrev pub display_number : Display → ℕ
display_number Symbol = 0
display_number Code = 1
display_number Name = 2

-- "the shortest decimal": digits and scale with the zeros at the fraction's end gone
unfoldable pub shortest : ℕ → ℕ → ℕ × ℕ
shortest d zero = (d, 0)
shortest d (suc s) = elim (eqb (d % 10) 0) [ true ↦ shortest (d / 10) s | false ↦ (d, suc s) ]

-- a count, 0 where it is not set
unfoldable pub or_zero : Option ℕ → ℕ
or_zero none = 0
or_zero (some k) = k

-- "u64 below 10^15, scale byte 0 to 14"
abbrev pub digits_limit : ℕ
digits_limit = 1000000000000000

abbrev pub scale_limit : ℕ
scale_limit = 14

-- "a merged minimumFractionDigits above 19" is refused
abbrev pub fraction_limit : ℕ
fraction_limit = 19
