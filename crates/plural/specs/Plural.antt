-- Plural categories: 0 zero, 1 one, 2 two, 3 few, 4 many, 5 other.
use Rattle.std.specs.Prelude.{ℕ, zero, suc, ◌/◌, ◌%◌, ◌^◌, max, List, ◌&&◌, ◌||◌, not, leb, eqb}
use Rattle.decimals.specs.Ascii.{ascii}
use Rattle.decimals.specs.Bytes.{choose, within}
use Rattle.decimals.specs.Decimal.{Number, shortest, or_zero}
use Rattle.decimals.specs.declared.types.Kind.{Kind}
use Rattle.decimals.specs.declared.types.Kind.TheVariants.{Cardinal, Ordinal}
use Rattle.plural.specs.declared.types.Category.{Category}
use Rattle.plural.specs.declared.types.Category.TheVariants.{Zero, One, Two, Few, Many, Other}

-- the operands of a rule; n, the absolute value, is i with the fraction t
pub record Operands : Type 0 where
  pub i : ℕ
  pub v : ℕ
  pub t : ℕ

unfoldable pub operands_of : ℕ × ℕ → ℕ → Operands
operands_of (d, s) m = record { i = d / 10 ^ s; v = max s m; t = d % 10 ^ s }

-- "i whole part, v the larger of the shortest decimal's fraction digits and the minimum, t fraction without trailing zeros"
unfoldable pub operands : Number → Operands
operands n = operands_of (shortest n.digits n.scale) (or_zero n.options.minimum_fraction_digits)

-- "A whole number with v = 0" (document 02, Card 4): it has no fraction, and shows no fraction digit
unfoldable pub whole_operands : ℕ → Operands
whole_operands n = record { i = n; v = 0; t = 0 }

-- "en one i=1, v=0"
unfoldable pub en_cardinal : Operands → ℕ
en_cardinal o = choose (eqb o.i 1 && eqb o.v 0) 1 5

-- "da one n=1, or t not 0 and i 0 or 1"
unfoldable pub da_cardinal : Operands → ℕ
da_cardinal o = choose ((eqb o.t 0 && eqb o.i 1) || (not (eqb o.t 0) && leb o.i 1)) 1 5

-- "one i mod 10 = 1, i mod 100 not 11; few i mod 10 in 2..4, i mod 100 not in 12..14; many the rest"
unfoldable pub ru_whole : ℕ → ℕ → ℕ
ru_whole ten hundred =
    choose (eqb ten 1 && not (eqb hundred 11)) 1
    (choose (within 2 4 ten && not (within 12 14 hundred)) 3 4)

-- "ru, v=0 only"
unfoldable pub ru_cardinal : Operands → ℕ
ru_cardinal o = choose (eqb o.v 0) (ru_whole (o.i % 10) (o.i % 100)) 5

-- "zero, one, two, few, many for n = 0, 1, 2, 3, 6"
unfoldable pub cy_whole : ℕ → ℕ
cy_whole n = choose (leb n 3) n (choose (eqb n 6) 4 5)

unfoldable pub cy_cardinal : Operands → ℕ
cy_cardinal o = choose (eqb o.t 0) (cy_whole o.i) 5

-- "one, two, few for n mod 10 = 1, 2, 3 unless n mod 100 = 11, 12, 13"
unfoldable pub en_place : ℕ → ℕ → ℕ
en_place ten hundred = choose (within 1 3 ten && not (within 11 13 hundred)) ten 5

unfoldable pub en_ordinal : Operands → ℕ
en_ordinal o = choose (eqb o.t 0) (en_place (o.i % 10) (o.i % 100)) 5

-- "cy zero 0,7,8,9, one 1, two 2, few 3,4, many 5,6"
unfoldable pub cy_place : ℕ → ℕ
cy_place n = choose (eqb n 0 || within 7 9 n) 0 (choose (leb n 2) n (choose (leb n 4) 3 (choose (leb n 6) 4 5)))

unfoldable pub cy_ordinal : Operands → ℕ
cy_ordinal o = choose (eqb o.t 0) (cy_place o.i) 5

-- the rule of a locale (0 en, 1 da, 2 ru, 3 cy); "Else other"
unfoldable pub rule_of : Kind → ℕ → Operands → ℕ
rule_of Cardinal locale o =
    choose (eqb locale 0) (en_cardinal o)
    (choose (eqb locale 1) (da_cardinal o)
    (choose (eqb locale 2) (ru_cardinal o)
    (choose (eqb locale 3) (cy_cardinal o) 5)))
rule_of Ordinal locale o = choose (eqb locale 0) (en_ordinal o) (choose (eqb locale 3) (cy_ordinal o) 5)

-- a number's category: the one definition that all uses go through
unfoldable pub category : ℕ → Number → ℕ
category locale n = rule_of n.options.kind locale (operands n)

-- the code's categories as numbers
abbrev pub category_number : Category → ℕ
category_number Zero = 0
category_number One = 1
category_number Two = 2
category_number Few = 3
category_number Many = 4
category_number Other = 5

-- the word of a category
unfoldable pub keyword : ℕ → List ℕ
keyword zero = ascii "zero"
keyword (suc zero) = ascii "one"
keyword (suc (suc zero)) = ascii "two"
keyword (suc (suc (suc zero))) = ascii "few"
keyword (suc (suc (suc (suc zero)))) = ascii "many"
keyword (suc (suc (suc (suc (suc n))))) = ascii "other"
