-- Equal options are the same options: "all ten" are compared, and nothing else.
use mathlib.Core.Path.{◌≡◌, refl, ap, ◌∙◌}
use mathlib.Core.Bool.{Bool, true, false}
use mathlib.Core.Logic.{◌↔◌}
use mathlib.Core.Option.{Option, none, some}
use mathlib.Core.List.{List}
use Prim.Native.Nat.{ℕ}
use native.Mathlib.Omega.{arith}
use lib.Dec.{eqb}
use borrow.Author.Tests.{eqb-true}
use Rattle.decimals.specs.Decimal.{Options, kind_number, style_number, display_number}
use Rattle.decimals.specs.declared.types.Kind.{Kind}
use Rattle.decimals.specs.declared.types.Kind.TheVariants.{Cardinal, Ordinal}
use Rattle.decimals.specs.declared.types.Style.{Style}
use Rattle.decimals.specs.declared.types.Style.TheVariants.{Decimal, Currency, Percent}
use Rattle.decimals.specs.declared.types.Display.{Display}
use Rattle.decimals.specs.declared.types.Display.TheVariants.{Symbol, Code, Name}
use Rattle.decimals.proofs.Same.{same_eq}
use Rattle.decimals.proofs.Tests.{and_true}
use Rattle.numbers.specs.Equal.{same_flag, same_count, same_text, same_words, same_counts, same_options}
use Rattle.numbers.proofs.Equality.{options_refl}

never : {A : Type 0} → ◌≡◌ {A = Bool} false true → A
never e = let y : ◌≡◌ {A = ℕ} 0 1 = cc in absurd (omega arith)

kind_same : (a b : Kind) → eqb (kind_number a) (kind_number b) ≡ true → a ≡ b
kind_same Cardinal Cardinal h = refl
kind_same Cardinal Ordinal h = never h
kind_same Ordinal Cardinal h = never h
kind_same Ordinal Ordinal h = refl

style_same : (a b : Style) → eqb (style_number a) (style_number b) ≡ true → a ≡ b
style_same Decimal Decimal h = refl
style_same Decimal Currency h = never h
style_same Decimal Percent h = never h
style_same Currency Decimal h = never h
style_same Currency Currency h = refl
style_same Currency Percent h = never h
style_same Percent Decimal h = never h
style_same Percent Currency h = never h
style_same Percent Percent h = refl

display_same : (a b : Display) → eqb (display_number a) (display_number b) ≡ true → a ≡ b
display_same Symbol Symbol h = refl
display_same Symbol Code h = never h
display_same Symbol Name h = never h
display_same Code Symbol h = never h
display_same Code Code h = refl
display_same Code Name h = never h
display_same Name Symbol h = never h
display_same Name Code h = never h
display_same Name Name h = refl

flag_same : (a b : Bool) → same_flag a b ≡ true → a ≡ b
unfolding same_flag
flag_same true true h = refl
flag_same true false h = cc
flag_same false true h = cc
flag_same false false h = refl

count_same : (a b : Option ℕ) → same_count a b ≡ true → a ≡ b
unfolding same_count
count_same none none h = refl
count_same none (some b) h = cc
count_same (some a) none h = cc
count_same (some a) (some b) h = ap some (eqb-true a b h)

text_same : (a b : Option (List ℕ)) → same_text a b ≡ true → a ≡ b
unfolding same_text
text_same none none h = refl
text_same none (some b) h = cc
text_same (some a) none h = cc
text_same (some a) (some b) h = ap some (same_eq a b h)

abbrev parts : Options → Options
parts o = record { kind = o.kind; style = o.style; currency = o.currency; currency_display = o.currency_display; use_grouping = o.use_grouping; minimum_integer_digits = o.minimum_integer_digits; minimum_fraction_digits = o.minimum_fraction_digits; maximum_fraction_digits = o.maximum_fraction_digits; minimum_significant_digits = o.minimum_significant_digits; maximum_significant_digits = o.maximum_significant_digits }

pub options_same : (a b : Options) → same_options a b ≡ true → a ≡ b
unfolding same_options same_words same_counts
options_same a b h =
    let p = and_true _ _ h in
    let w₁ = and_true _ _ p.0 in
    let w₂ = and_true _ _ w₁.1 in
    let w₃ = and_true _ _ w₂.1 in
    let w₄ = and_true _ _ w₃.1 in
    let c₁ = and_true _ _ p.1 in
    let c₂ = and_true _ _ c₁.1 in
    let c₃ = and_true _ _ c₂.1 in
    let c₄ = and_true _ _ c₃.1 in
    whole
    (kind_same _ _ w₁.0) (style_same _ _ w₂.0) (text_same _ _ w₃.0) (display_same _ _ w₄.0) (flag_same _ _ w₄.1)
    (count_same _ _ c₁.0) (count_same _ _ c₂.0) (count_same _ _ c₃.0) (count_same _ _ c₄.0) (count_same _ _ c₄.1)
  where
    whole : a.kind ≡ b.kind → a.style ≡ b.style → a.currency ≡ b.currency → a.currency_display ≡ b.currency_display → a.use_grouping ≡ b.use_grouping
        → a.minimum_integer_digits ≡ b.minimum_integer_digits → a.minimum_fraction_digits ≡ b.minimum_fraction_digits → a.maximum_fraction_digits ≡ b.maximum_fraction_digits
        → a.minimum_significant_digits ≡ b.minimum_significant_digits → a.maximum_significant_digits ≡ b.maximum_significant_digits → parts a ≡ parts b
    whole e₁ e₂ e₃ e₄ e₅ e₆ e₇ e₈ e₉ e₀ = rw (e₁, e₂, e₃, e₄, e₅, e₆, e₇, e₈, e₉, e₀)

-- options test as equal exactly where they are the same: none of the ten is left out
pub options_exactly : (a b : Options) → (same_options a b ≡ true) ↔ (a ≡ b)
options_exactly a b = (λ h. options_same a b h, λ e. ap (λ (o : Options). same_options o b) e ∙ options_refl b)
