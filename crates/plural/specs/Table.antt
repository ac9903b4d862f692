-- The table of plural categories by the written conditions, and the lines that are printed of it (document 02, Card 4).
use Rattle.std.specs.Prelude.{ℕ, zero, suc, ◌+◌, ◌*◌, ◌%◌, ◌≤◌, ◌≡◌, List, [], ◌∷◌, ◌++◌, map, length}
use Rattle.categories.specs.Held.{held, held_digit}
use Rattle.decimals.specs.Decimal.{Number, kind_number}
use Rattle.decimals.specs.declared.types.Kind.{Kind}
use Rattle.decimals.specs.declared.types.Kind.TheVariants.{Cardinal, Ordinal}
use Rattle.plural.specs.Plural.{operands, whole_operands, rule_of, category}

-- the categories of n whole numbers, from m on, by the written conditions of a rule set
unfoldable pub categories_from : Kind → ℕ → ℕ → ℕ → List ℕ
categories_from k locale m zero = []
categories_from k locale m (suc n) = rule_of k locale (whole_operands m) ∷ categories_from k locale (suc m) n

-- "200 entries each": those of 0 to 199
unfoldable pub line : Kind → ℕ → List ℕ
line k locale = categories_from k locale 0 200

-- "cardinal then ordinal", of n locales "in the order of their numbers", from a locale on
unfoldable pub lines_from : ℕ → ℕ → List (List ℕ)
lines_from locale zero = []
lines_from locale (suc n) = line Cardinal locale ∷ line Ordinal locale ∷ lines_from (suc locale) n

-- the table that the conditions give, "for four locales"
unfoldable pub table : List (List ℕ)
table = lines_from 0 4

-- the number of a rule set, which is that of its line
unfoldable pub rule_set : Kind → ℕ → ℕ
rule_set k locale = locale * 2 + kind_number k

-- a category as a digit, `0` (48) to `5`
unfoldable pub digit_of : ℕ → ℕ
digit_of c = 48 + c

-- a table in digits
unfoldable pub in_digits : List (List ℕ) → List (List ℕ)
in_digits t = map (λ (l : List ℕ). map digit_of l) t

-- lines one after the other, each ended by one line feed (10)
unfoldable pub joined : List (List ℕ) → List ℕ
joined [] = []
joined (l ∷ ls) = l ++ (10 ∷ joined ls)

-- "The program prints eight lines of 200 digits"
unfoldable pub printed : List ℕ
printed = joined (in_digits table)

-- what is shown of the table that the library holds
pub record TableRight : Type 0 where
  -- "One fact over the whole table ties it to those conditions"
  pub fact : held ≡ in_digits table
  -- of 100 and more, the conditions of a rule set depend on n mod 100 only
  pub far : (k : Kind) (locale n : ℕ) → 100 ≤ n → rule_of k locale (whole_operands n) ≡ rule_of k locale (whole_operands (100 + n % 100))
  -- so the digit held for a whole number with v = 0 is its category's, whatever the number; a locale that has no line has `5`, other
  pub whole : (k : Kind) (locale n : ℕ) → held_digit (rule_set k locale) n ≡ digit_of (rule_of k locale (whole_operands n))
  -- a number with v = 0 is whole, so that the digit held for its whole part is its category's
  pub uses : (locale : ℕ) (n : Number) → (operands n).v ≡ 0 → held_digit (rule_set n.options.kind locale) (operands n).i ≡ digit_of (category locale n)
  -- "the printed table equals the held one": its eight lines of 200 digits, each with a line feed
  pub print : printed ≡ joined held
  pub size : length printed ≡ 1608
