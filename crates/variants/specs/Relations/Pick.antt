-- The position of the pattern of the variant that was chosen, where a decoder reads the variants.
use Rattle.records.specs.Relations.Answer.{Next}
use Rattle.std.specs.Prelude.{Some, None}
use Rattle.std.specs.Prelude.{◌≡◌, List, ℕ, zero, suc}
use Rattle.std.proofs.Math.Option.{Option, none, some}
use Rattle.records.specs.Got.{got}
use Rattle.records.specs.Bytes.{number_at}
use Rattle.records.specs.Tree.{Pattern, Variants, no_variant, or, Variant, variant}
use Rattle.records.specs.Decode.{many, variant_at, pattern_at, expression}

unfoldable pub pattern_of : Variant → Pattern
pattern_of (variant k d p) = p

unfoldable pub nth_of : Variants → ℕ → Option Pattern
nth_of no_variant n = none
nth_of (or v vs) zero = some (pattern_of v)
nth_of (or v vs) (suc n) = nth_of vs n

pub data Pick (s : List ℕ) (d : ℕ) (o : Option ℕ) (vs : Variants) (r : Next) : Type 0 where
  picked : (i q : ℕ) (p : Pattern) (f : ℕ) → r ≡ Some q → o ≡ some i → nth_of vs i ≡ some p → pattern_at (expression d) s q ≡ got p f → Pick s d o vs r
  no_pick : r ≡ None → o ≡ none → Pick s d o vs r

abbrev pub PickAt : List ℕ → ℕ → (Variants → Option ℕ) → Next → Type 0
PickAt s at choice r = (d k c : ℕ) (vs : Variants) (f : ℕ) → number_at 2 s at ≡ got k c → many no_variant or k (variant_at (expression d)) s c ≡ got vs f → Pick s d (choice vs) vs r
