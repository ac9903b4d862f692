-- Document 02, Card 3, "No dot without digits": a number's text as the Rust has it, and what is claimed of the text here.
use Rattle.std.specs.Prelude.{ℕ, zero, suc, ◌-◌, ◌/◌, ◌^◌, ◌≡◌, List, [], ◌∷◌, ◌++◌, Bool, true, false, replicate, eqb}
use Rattle.std.proofs.Math.Option.{Option, none, some}
use Rattle.decimals.specs.Ascii.{ascii}
use Rattle.decimals.specs.Bytes.{digit}
use Rattle.decimals.specs.Decimal.{Number, shortest}
use Rattle.decimals.specs.Text.{digits_of, decimal, sign_text, number_text}

-- document 01: "then zeros are added up to the minimum, and with no dot present a dot is written first, so minimum 0 gives `5.`"; 46 is `.`
unfoldable pub original_fraction : Option ℕ → ℕ → ℕ → List ℕ
original_fraction none d zero = []
original_fraction none d (suc s) = 46 ∷ digits_of (suc s) d
original_fraction (some m) d s = 46 ∷ (digits_of s d ++ replicate (m - s) 48)

-- the Rust's text of d over 10^s, a shortest decimal
unfoldable pub original_decimal : Bool → Option ℕ → ℕ × ℕ → List ℕ
original_decimal negative m (d, s) = sign_text negative ++ (decimal (d / 10 ^ s) ++ original_fraction m d s)

-- the Rust's text of a number
unfoldable pub original_text : Number → List ℕ
original_text n = original_decimal n.negative n.options.minimum_fraction_digits (shortest n.digits n.scale)

-- "with that dot removed": a text without the dot at its end, if it has one there
unfoldable pub dot_removed : List ℕ → List ℕ
dot_removed [] = []
dot_removed (b ∷ []) = elim (eqb b 46) [ true ↦ [] | false ↦ b ∷ [] ]
dot_removed (b ∷ c ∷ bs) = b ∷ dot_removed (c ∷ bs)

-- the last byte of a text, b where it has none
unfoldable pub last_or : ℕ → List ℕ → ℕ
last_or b [] = b
last_or b (x ∷ xs) = last_or x xs

-- where the shortest decimal has no dot and the minimum is 0
pub record OnlyADot (n : Number) : Type 0 where
  pub minimum : n.options.minimum_fraction_digits ≡ some 0
  pub whole : (shortest n.digits n.scale).1 ≡ 0

-- Card 3, of one number
pub record NoDotWithoutDigits (n : Number) : Type 0 where
  -- "rejects a number that ends in a dot": no text ends in one, or in anything but a digit (0 is no digit, so no text is empty)
  pub ends : digit (last_or 0 (number_text n)) ≡ true
  -- "the Rust's text with that dot removed"
  pub removed : number_text n ≡ dot_removed (original_text n)
  -- "A minimum of 0 fraction digits writes no dot": there the Rust's text is this one and a dot
  pub there : OnlyADot n → original_text n ≡ number_text n ++ ascii "."
  -- any other text is the Rust's
  pub elsewhere : (OnlyADot n → ⊥) → number_text n ≡ original_text n
