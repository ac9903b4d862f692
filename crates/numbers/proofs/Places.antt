-- Laws of the places of the options' names: the merge of an option is the one at the place of its name.
use mathlib.Core.Path.{◌≡◌, refl, ap, sym, ◌∙◌}
use mathlib.Core.Bool.{Bool, true, false, ◌&&◌, not}
use mathlib.Core.Option.{some}
use mathlib.Core.List.{List, []}
use Prim.Native.Nat.{ℕ, zero, suc}
use lib.Dec.{eqb, ltb}
use Rattle.decimals.specs.declared.types.Options as CodeOptions
use Rattle.decimals.specs.Bytes.{same_bytes, choose}
use Rattle.decimals.specs.Decimal.{Options, Number, fraction_limit}
use Rattle.numbers.specs.Value.{numeric, to_count, too_long, merge_text, merge_count, kind_of, style_of, display_of, false_word, type_name, style_name, currency_name, currency_display_name, use_grouping_name, with_kind, with_style, with_currency, with_currency_display, with_use_grouping, pick_options, with_minimum_integer_digits, with_minimum_fraction_digits, with_maximum_fraction_digits, with_minimum_significant_digits, with_maximum_significant_digits, minimum_integer_digits_name, minimum_fraction_digits_name, maximum_fraction_digits_name, minimum_significant_digits_name, maximum_significant_digits_name}
use Rattle.decimals.specs.Relations.Shown.{shown_count, shown_options, told_options}
use Rattle.numbers.specs.Relations.Places.{place_from, text_names, count_names, merge_at, count_named, set_count}
use Rattle.decimals.proofs.Same.{same_eq}
use Rattle.decimals.proofs.Shown.{count_back, text_back}

-- the place of a name in the list of the digit counts
pub count_place : (name : List ℕ) → place_from name [] count_names ≡ count_named name
unfolding place_from count_named
count_place name = go (same_bytes name minimum_integer_digits_name) (same_bytes name minimum_fraction_digits_name) (same_bytes name maximum_fraction_digits_name) (same_bytes name minimum_significant_digits_name) (same_bytes name maximum_significant_digits_name)
  where
    go : (a b c d e : Bool) → choose a 0 (suc (choose b 0 (suc (choose c 0 (suc (choose d 0 (suc (choose e 0 1)))))))) ≡ choose a 0 (choose b 1 (choose c 2 (choose d 3 (choose e 4 5))))
    go true b c d e = refl
    go false true c d e = refl
    go false false true d e = refl
    go false false false true e = refl
    go false false false false true = refl
    go false false false false false = refl

-- and in that of the text options
pub text_place : (name s : List ℕ) (o : Options) → merge_text name s o ≡ merge_at (place_from name [] text_names) s o
unfolding place_from merge_text merge_at
text_place name s o = go (same_bytes name type_name) (same_bytes name style_name) (same_bytes name currency_name) (same_bytes name currency_display_name) (same_bytes name use_grouping_name)
  where
    go : (a b c d e : Bool) → pick_options a (with_kind (kind_of s) o) (pick_options b (with_style (style_of s) o) (pick_options c (with_currency (some s) o) (pick_options d (with_currency_display (display_of s) o) (pick_options e (with_use_grouping (not (same_bytes s false_word)) o) o)))) ≡ merge_at (choose a 0 (suc (choose b 0 (suc (choose c 0 (suc (choose d 0 (suc (choose e 0 1))))))))) s o
    go true b c d e = refl
    go false true c d e = refl
    go false false true d e = refl
    go false false false true e = refl
    go false false false false true = refl
    go false false false false false = refl

-- past the last of them nothing is merged
pub merge_past : (n : ℕ) (s : List ℕ) (o : Options) → (n ≡ 0 → ⊥) → (n ≡ 1 → ⊥) → (n ≡ 2 → ⊥) → (n ≡ 3 → ⊥) → (n ≡ 4 → ⊥) → merge_at n s o ≡ o
unfolding merge_at
merge_past zero s o a b c d e = absurd (a refl)
merge_past (suc zero) s o a b c d e = absurd (b refl)
merge_past (suc (suc zero)) s o a b c d e = absurd (c refl)
merge_past (suc (suc (suc zero))) s o a b c d e = absurd (d refl)
merge_past (suc (suc (suc (suc zero)))) s o a b c d e = absurd (e refl)
merge_past (suc (suc (suc (suc (suc n))))) s o a b c d e = refl

-- only the name of the fraction's minimum names the second place
pub named_fraction : (name : List ℕ) → eqb (count_named name) 1 ≡ same_bytes name minimum_fraction_digits_name
unfolding count_named same_bytes
named_fraction name = go (same_bytes name minimum_integer_digits_name) refl (same_bytes name minimum_fraction_digits_name) refl (same_bytes name maximum_fraction_digits_name) (same_bytes name minimum_significant_digits_name) (same_bytes name maximum_significant_digits_name)
  where
    go : (a : Bool) → same_bytes name minimum_integer_digits_name ≡ a → (b : Bool) → same_bytes name minimum_fraction_digits_name ≡ b → (c d e : Bool) → eqb (choose a 0 (choose b 1 (choose c 2 (choose d 3 (choose e 4 5))))) 1 ≡ b
    go true p b q c d e = sym (ap (λ (n : List ℕ). same_bytes n minimum_fraction_digits_name) (same_eq name minimum_integer_digits_name p)) ∙ q
    go false p true q c d e = refl
    go false p false q true d e = refl
    go false p false q false true e = refl
    go false p false q false false true = refl
    go false p false q false false false = refl

pub long_named : (name : List ℕ) (n : Number) → eqb (count_named name) 1 && ltb fraction_limit (to_count n) ≡ too_long name (numeric n)
unfolding too_long
long_named name n = ap (λ (t : Bool). t && ltb fraction_limit (to_count n)) (named_fraction name)

-- a digit count set at its place is the definition's merge
by_place : (a b c d e : Bool) (k : ℕ) (o : CodeOptions.Options) → set_count (choose a 0 (choose b 1 (choose c 2 (choose d 3 (choose e 4 5))))) k o ≡ shown_options (pick_options a (with_minimum_integer_digits (some k) (told_options o)) (pick_options b (with_minimum_fraction_digits (some k) (told_options o)) (pick_options c (with_maximum_fraction_digits (some k) (told_options o)) (pick_options d (with_minimum_significant_digits (some k) (told_options o)) (pick_options e (with_maximum_significant_digits (some k) (told_options o)) (told_options o))))))
unfolding set_count shown_count with_minimum_integer_digits with_minimum_fraction_digits with_maximum_fraction_digits with_minimum_significant_digits with_maximum_significant_digits
by_place true b c d e k o = simp (count_back, text_back)
by_place false true c d e k o = simp (count_back, text_back)
by_place false false true d e k o = simp (count_back, text_back)
by_place false false false true e k o = simp (count_back, text_back)
by_place false false false false true k o = simp (count_back, text_back)
by_place false false false false false k o = simp (count_back, text_back)

pub merge_named : (name : List ℕ) (k : ℕ) (o : CodeOptions.Options) → set_count (count_named name) k o ≡ shown_options (merge_count name k (told_options o))
unfolding count_named merge_count
merge_named name k o = by_place (same_bytes name minimum_integer_digits_name) (same_bytes name minimum_fraction_digits_name) (same_bytes name maximum_fraction_digits_name) (same_bytes name minimum_significant_digits_name) (same_bytes name maximum_significant_digits_name) k o
