-- Equality of numbers: "compares value (-0 equals 0) and all ten options".
use Rattle.std.specs.Prelude.{ℕ, ◌*◌, ◌^◌, List, Bool, true, false, ◌&&◌, ◌||◌, not, eqb}
use Rattle.std.proofs.Math.Option.{Option, none, some}
use Rattle.decimals.specs.Bytes.{same_bytes}
use Rattle.decimals.specs.Decimal.{Options, Number, kind_number, style_number, display_number}

unfoldable pub same_flag : Bool → Bool → Bool
same_flag true b = b
same_flag false b = not b

unfoldable pub same_count : Option ℕ → Option ℕ → Bool
same_count none none = true
same_count none (some b) = false
same_count (some a) none = false
same_count (some a) (some b) = eqb a b

unfoldable pub same_text : Option (List ℕ) → Option (List ℕ) → Bool
same_text none none = true
same_text none (some b) = false
same_text (some a) none = false
same_text (some a) (some b) = same_bytes a b

-- the first five options
unfoldable pub same_words : Options → Options → Bool
same_words a b =
    eqb (kind_number a.kind) (kind_number b.kind)
    && (eqb (style_number a.style) (style_number b.style)
    && (same_text a.currency b.currency
    && (eqb (display_number a.currency_display) (display_number b.currency_display)
    && same_flag a.use_grouping b.use_grouping)))

-- and the five digit counts
unfoldable pub same_counts : Options → Options → Bool
same_counts a b =
    same_count a.minimum_integer_digits b.minimum_integer_digits
    && (same_count a.minimum_fraction_digits b.minimum_fraction_digits
    && (same_count a.maximum_fraction_digits b.maximum_fraction_digits
    && (same_count a.minimum_significant_digits b.minimum_significant_digits
    && same_count a.maximum_significant_digits b.maximum_significant_digits)))

-- "all ten options"
unfoldable pub same_options : Options → Options → Bool
same_options a b = same_words a b && same_counts a b

-- "value (-0 equals 0)": equal fractions, and equal signs unless the value is zero
unfoldable pub same_value : Number → Number → Bool
same_value a b =
    eqb (a.digits * 10 ^ b.scale) (b.digits * 10 ^ a.scale)
    && (eqb a.digits 0 || same_flag a.negative b.negative)

-- "Equality compares value (-0 equals 0) and all ten options": not the value alone, as 5 and 5.0 differ in their minimum fraction digits
unfoldable pub same_number : Number → Number → Bool
same_number a b = same_value a b && same_options a.options b.options
