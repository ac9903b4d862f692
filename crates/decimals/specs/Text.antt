-- A number's text.
use Rattle.std.specs.Prelude.{ℕ, zero, suc, ◌+◌, ◌-◌, ◌/◌, ◌%◌, ◌^◌, List, [], ◌∷◌, ◌++◌, Bool, true, false, ◌&&◌, length, replicate, ltb, leb}
use Rattle.std.proofs.Math.Option.{Option}
use Rattle.decimals.specs.Ascii.{ascii}
use Rattle.decimals.specs.Decimal.{Number, shortest, or_zero, digits_limit, scale_limit, fraction_limit}

-- the lowest w digits of n, the highest first; 48 is `0`
unfoldable pub digits_of : ℕ → ℕ → List ℕ
digits_of zero n = []
digits_of (suc w) n = digits_of w (n / 10) ++ ((48 + n % 10) ∷ [])

-- how many digits n has (at least 1); a fuel of n is enough
unfoldable pub width : ℕ → ℕ → ℕ
width zero n = 1
width (suc f) n = elim (ltb n 10) [ true ↦ 1 | false ↦ suc (width f (n / 10)) ]

-- a whole number without leading zeros
unfoldable pub decimal : ℕ → List ℕ
decimal n = digits_of (width n n) n

-- "`-` kept on zero"
unfoldable pub sign_text : Bool → List ℕ
sign_text true = ascii "-"
sign_text false = []

-- the digits behind the dot: the s fraction digits of d over 10^s, "then zeros are added up to the minimum", m
unfoldable pub fraction_digits : ℕ → ℕ → ℕ → List ℕ
fraction_digits m d s = digits_of s d ++ replicate (m - s) 48

-- "No dot without digits" (document 02, Card 3): a `.` (46) before digits, and none where there are no digits
unfoldable pub with_dot : List ℕ → List ℕ
with_dot [] = []
with_dot (b ∷ bs) = 46 ∷ b ∷ bs

-- the fraction's text; "A minimum of 0 fraction digits writes no dot": like one that is not set, it asks for no digits
unfoldable pub fraction_text : Option ℕ → ℕ → ℕ → List ℕ
fraction_text m d s = with_dot (fraction_digits (or_zero m) d s)

-- the text of d over 10^s, a shortest decimal
unfoldable pub decimal_text : Bool → Option ℕ → ℕ × ℕ → List ℕ
decimal_text negative m (d, s) = sign_text negative ++ (decimal (d / 10 ^ s) ++ fraction_text m d s)

-- "Text is the shortest decimal, `-` kept on zero; then zeros are added up to the minimum"
unfoldable pub number_text : Number → List ℕ
number_text n = decimal_text n.negative n.options.minimum_fraction_digits (shortest n.digits n.scale)

-- the greatest length of a number's text: a sign, 15 digits, a dot, 19 fraction digits
abbrev pub text_limit : ℕ
text_limit = 36

-- the numbers that literals, arguments and accepted merges give
unfoldable pub in_range : Number → Bool
in_range n = ltb n.digits digits_limit && (leb n.scale scale_limit && leb (or_zero n.options.minimum_fraction_digits) fraction_limit)

-- the text of a number in range, and none of any other
unfoldable pub ranged_text : Number → List ℕ
ranged_text n = elim (in_range n) [ true ↦ number_text n | false ↦ [] ]

-- a text in so many bytes: behind it stand zeros
unfoldable pub padded : ℕ → List ℕ → List ℕ
padded w t = t ++ replicate (w - length t) 0
