-- Laws of merging: which digit counts are refused, and that the currency's flag is enough.
use mathlib.Core.Path.{◌≡◌, refl, sym, ◌∙◌}
use mathlib.Core.Bool.{Bool, true, false, not}
use mathlib.Core.Option.{Option, none, some}
use mathlib.Core.List.{List}
use Prim.Native.Nat.{ℕ, ◌≤◌}
use mathlib.Core.Logic.{◌⊎◌, inl, inr}
use borrow.Author.Tests.{le-ltb}
use Rattle.decimals.specs.Bytes.{same_bytes}
use Rattle.decimals.specs.Decimal.{Options, Number, fraction_limit}
use Rattle.numbers.specs.Value.{Value, textual, numeric, nothing, wrong, to_count, too_long, merge_one, merge_text, merge_count, kind_of, style_of, display_of, false_word, type_name, style_name, currency_name, currency_display_name, use_grouping_name, with_kind, with_style, with_currency, with_currency_display, with_use_grouping, pick_options, with_minimum_integer_digits, with_minimum_fraction_digits, with_maximum_fraction_digits, with_minimum_significant_digits, with_maximum_significant_digits, minimum_integer_digits_name, minimum_fraction_digits_name, maximum_fraction_digits_name, minimum_significant_digits_name, maximum_significant_digits_name}
use Rattle.decimals.specs.Relations.Shown.{shown_text, told_text, shown_options, told_options, shown, told}
use Rattle.decimals.proofs.Shown.{count_back, options_back}

-- a digit count that is refused is a minimum of fraction digits above the limit
pub not_long : (name : List ℕ) (n : Number) {t : Bool} {k : ℕ} → t ≡ same_bytes name minimum_fraction_digits_name → k ≡ to_count n → ((t ≡ true) × (k ≤ fraction_limit)) ⊎ (t ≡ false) → too_long name (numeric n) ≡ false
unfolding too_long
not_long name n e c (inl h) = simp (sym e ∙ h.0, ← c, le-ltb _ _ h.1)
not_long name n e c (inr h) = simp (sym e ∙ h)

shown_there : (m : Option (List ℕ)) → shown_text (told_text (shown_text m)) ≡ shown_text m
unfolding shown_text told_text
shown_there none = refl
shown_there (some s) = refl

-- by the names' tests: text, and counts
texts : (a b c d e : Bool) (name s : List ℕ) (o : Options) → shown_options (pick_options a (with_kind (kind_of s) (told_options (shown_options o))) (pick_options b (with_style (style_of s) (told_options (shown_options o))) (pick_options c (with_currency (some s) (told_options (shown_options o))) (pick_options d (with_currency_display (display_of s) (told_options (shown_options o))) (pick_options e (with_use_grouping (not (same_bytes s false_word)) (told_options (shown_options o))) (told_options (shown_options o))))))) ≡ shown_options (pick_options a (with_kind (kind_of s) o) (pick_options b (with_style (style_of s) o) (pick_options c (with_currency (some s) o) (pick_options d (with_currency_display (display_of s) o) (pick_options e (with_use_grouping (not (same_bytes s false_word)) o) o)))))
unfolding with_kind with_style with_currency with_currency_display with_use_grouping
texts true b c d e name s o = simp (count_back, shown_there)
texts false true c d e name s o = simp (count_back, shown_there)
texts false false true d e name s o = simp count_back
texts false false false true e name s o = simp (count_back, shown_there)
texts false false false false true name s o = simp (count_back, shown_there)
texts false false false false false name s o = simp (count_back, shown_there)

counts : (a b c d e : Bool) (k : ℕ) (o : Options) → shown_options (pick_options a (with_minimum_integer_digits (some k) (told_options (shown_options o))) (pick_options b (with_minimum_fraction_digits (some k) (told_options (shown_options o))) (pick_options c (with_maximum_fraction_digits (some k) (told_options (shown_options o))) (pick_options d (with_minimum_significant_digits (some k) (told_options (shown_options o))) (pick_options e (with_maximum_significant_digits (some k) (told_options (shown_options o))) (told_options (shown_options o))))))) ≡ shown_options (pick_options a (with_minimum_integer_digits (some k) o) (pick_options b (with_minimum_fraction_digits (some k) o) (pick_options c (with_maximum_fraction_digits (some k) o) (pick_options d (with_minimum_significant_digits (some k) o) (pick_options e (with_maximum_significant_digits (some k) o) o)))))
unfolding with_minimum_integer_digits with_minimum_fraction_digits with_maximum_fraction_digits with_minimum_significant_digits with_maximum_significant_digits
counts true b c d e k o = simp (count_back, shown_there)
counts false true c d e k o = simp (count_back, shown_there)
counts false false true d e k o = simp (count_back, shown_there)
counts false false false true e k o = simp (count_back, shown_there)
counts false false false false true k o = simp (count_back, shown_there)
counts false false false false false k o = simp (count_back, shown_there)

-- the flag is enough: merging into what the code shows of options shows the same as merging into the options
pub merge_shown : (name : List ℕ) (v : Value) (o : Options) → shown_options (merge_one name v (told_options (shown_options o))) ≡ shown_options (merge_one name v o)
unfolding merge_one merge_text merge_count
merge_shown name (textual s) o = texts (same_bytes name type_name) (same_bytes name style_name) (same_bytes name currency_name) (same_bytes name currency_display_name) (same_bytes name use_grouping_name) name s o
merge_shown name (numeric n) o = counts (same_bytes name minimum_integer_digits_name) (same_bytes name minimum_fraction_digits_name) (same_bytes name maximum_fraction_digits_name) (same_bytes name minimum_significant_digits_name) (same_bytes name maximum_significant_digits_name) (to_count n) o
merge_shown name nothing o = options_back (shown_options o)
merge_shown name wrong o = options_back (shown_options o)

-- the digit count of a number is that of what the code shows of it
pub count_shown : (n : Number) → to_count (told (shown n)) ≡ to_count n
unfolding to_count
count_shown n = refl
