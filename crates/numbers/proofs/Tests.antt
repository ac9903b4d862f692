-- What `==` answers of the code's options, and of values, in the words of the definitions.
use mathlib.Core.Path.{◌≡◌, refl, ap, sym, ◌∙◌}
use mathlib.Core.Bool.{Bool, true, false, ◌&&◌, ◌||◌, beq}
use Prim.Native.Nat.{ℕ}
use lib.Dec.{eqb}
use denote.Enum.Bare.{sameb}
use denote.Enum.Declared.{tag_of}
use Rattle.decimals.specs.declared.types.Kind.{Kind}
use Rattle.decimals.specs.declared.types.Kind.TheVariants.{Cardinal, Ordinal}
use Rattle.decimals.specs.declared.types.Style.{Style}
use Rattle.decimals.specs.declared.types.Style.TheVariants.{Decimal, Currency, Percent}
use Rattle.decimals.specs.declared.types.Display.{Display}
use Rattle.decimals.specs.declared.types.Display.TheVariants.{Symbol, Code, Name}
use Rattle.decimals.specs.contracts.types.Kind as kinds
use Rattle.decimals.specs.contracts.types.Style as styles
use Rattle.decimals.specs.contracts.types.Display as displays
use Rattle.std.specs.Option.{option_eq}
use Rattle.std.specs.Prelude.{Option, Some, None}
use Rattle.decimals.specs.Bytes.{same_bytes}
use Rattle.decimals.specs.Decimal.{Number, kind_number, style_number, display_number, shortest}
use Rattle.decimals.specs.declared.types.Options as CodeOptions
use Rattle.numbers.specs.Equal.{same_flag, same_text, same_count, same_words, same_counts, same_options, same_value}
use Rattle.decimals.specs.Relations.Shown.{told_text, told_count, told_options}
use Rattle.decimals.proofs.Shortest.{shortest_same}

kind_tag : (k : Kind) → tag_of kinds.the_type k ≡ kind_number k
kind_tag Cardinal = refl
kind_tag Ordinal = refl

style_tag : (s : Style) → tag_of styles.the_type s ≡ style_number s
style_tag Decimal = refl
style_tag Currency = refl
style_tag Percent = refl

display_tag : (d : Display) → tag_of displays.the_type d ≡ display_number d
display_tag Symbol = refl
display_tag Code = refl
display_tag Name = refl

pub flag_same : (a b : Bool) → beq a b ≡ same_flag a b
unfolding same_flag
flag_same true true = refl
flag_same true false = refl
flag_same false true = refl
flag_same false false = refl

-- currencies that flags stand for are the same where the flags are
text_same : (a b : Bool) → beq a b ≡ same_text (told_text a) (told_text b)
unfolding same_text told_text same_bytes
text_same true true = refl
text_same true false = refl
text_same false true = refl
text_same false false = refl

count_same : (a b : Option ℕ) → option_eq eqb a b ≡ same_count (told_count a) (told_count b)
unfolding same_count told_count
count_same None None = refl
count_same None (Some y) = refl
count_same (Some x) None = refl
count_same (Some x) (Some y) = refl

regrouped : (a b c d e f : Bool) → a && (b && (c && (d && (e && f)))) ≡ (a && (b && (c && (d && e)))) && f
regrouped true true true true e f = refl
regrouped true true true false e f = refl
regrouped true true false d e f = refl
regrouped true false c d e f = refl
regrouped false b c d e f = refl

-- equal field by field
abbrev pub fields_equal : CodeOptions.Options → CodeOptions.Options → Bool
fields_equal p q = sameb kinds.the_type p.kind q.kind && (sameb styles.the_type p.style q.style && (beq p.currency q.currency && (sameb displays.the_type p.currency_display q.currency_display && (beq p.use_grouping q.use_grouping && (option_eq eqb p.minimum_integer_digits q.minimum_integer_digits && (option_eq eqb p.minimum_fraction_digits q.minimum_fraction_digits && (option_eq eqb p.maximum_fraction_digits q.maximum_fraction_digits && (option_eq eqb p.minimum_significant_digits q.minimum_significant_digits && option_eq eqb p.maximum_significant_digits q.maximum_significant_digits))))))))

pub fields_same : (p q : CodeOptions.Options) → fields_equal p q ≡ same_options (told_options p) (told_options q)
unfolding same_options same_words same_counts
fields_same p q =
    simp (kind_tag, style_tag, display_tag, text_same p.currency q.currency, flag_same p.use_grouping q.use_grouping, count_same) (regrouped (eqb (kind_number p.kind) (kind_number q.kind)) (eqb (style_number p.style) (style_number q.style)) (same_text (told_text p.currency) (told_text q.currency)) (eqb (display_number p.currency_display) (display_number q.currency_display)) (same_flag p.use_grouping q.use_grouping) _)

-- values are compared by their shortest decimals
module _ (a b : Number) {p u q v : ℕ} (h : shortest a.digits a.scale ≡ (p, u)) (k : shortest b.digits b.scale ≡ (q, v)) where
  pub value_same : {e : Bool} → e ≡ eqb p q && eqb u v → same_value a b ≡ e && (eqb a.digits 0 || same_flag a.negative b.negative)
  unfolding same_value
  value_same w = ap (λ (t : Bool). t && (eqb a.digits 0 || same_flag a.negative b.negative)) (shortest_same a.digits a.scale b.digits b.scale h k ∙ sym w)
