-- The code's options and those of the definitions, to and fro.
use mathlib.Core.Path.{◌≡◌, refl}
use mathlib.Core.Bool.{Bool, true, false}
use mathlib.Core.Option.{Option, none, some}
use Prim.Native.Nat.{ℕ}
use Rattle.std.specs.Prelude as rust
use Rattle.std.specs.Prelude.{Some, None, unwrap_or}
use Rattle.decimals.specs.declared.types.Options as CodeOptions
use Rattle.decimals.specs.Decimal.{Number, or_zero}
use Rattle.decimals.specs.Text.{number_text}
use Rattle.decimals.specs.Relations.Shown.{shown_count, told_count, shown_text, told_text, shown_options, told_options, shown, told}

-- what is shown of what a count tells is the count
pub count_back : (c : rust.Option ℕ) → shown_count (told_count c) ≡ c
unfolding shown_count told_count
count_back None = refl
count_back (Some k) = refl

pub count_there : (m : Option ℕ) → told_count (shown_count m) ≡ m
unfolding shown_count told_count
count_there none = refl
count_there (some k) = refl

-- a count, 0 where it is not set
pub unset_zero : (c : rust.Option ℕ) {k : ℕ} → k ≡ unwrap_or c 0 → k ≡ or_zero (told_count c)
unfolding told_count or_zero
unset_zero None e = e
unset_zero (Some k) e = e

pub text_back : (b : Bool) → shown_text (told_text b) ≡ b
unfolding shown_text told_text
text_back true = refl
text_back false = refl

-- the code's options are shown of what they tell
pub options_back : (o : CodeOptions.Options) → shown_options (told_options o) ≡ o
options_back o = simp (count_back, text_back)

-- the text of a number is that of what the code shows of it
pub text_shown : (n : Number) → number_text (told (shown n)) ≡ number_text n
unfolding number_text
text_shown n = simp count_there
