-- Hexadecimal digits, and Unicode scalars in UTF-8.
use Rattle.std.specs.Prelude.{ℕ, ◌+◌, ◌-◌, ◌/◌, ◌%◌, ◌≡◌, Bool, true, ◌||◌, List, [], ◌∷◌, ltb}
use Rattle.decimals.specs.Bytes.{choose, given, within, digit}

-- the value of a hexadecimal digit: `0` to `9`, `A` to `F`, `a` to `f`; 0 of any other byte
unfoldable pub hex_value : ℕ → ℕ
hex_value b = choose (digit b) (b - 48) (choose (within 65 70 b) (b - 55) (choose (within 97 102 b) (b - 87) 0))

-- a Unicode scalar: not from U+D800 to U+DFFF, and at most U+10FFFF
unfoldable pub is_scalar : ℕ → Bool
is_scalar v = ltb v 0xD800 || within 0xE000 0x10FFFF v

abbrev pub Scalar : ℕ → Type 0
Scalar v = is_scalar v ≡ true

unfoldable pub scalar_or : ℕ → ℕ
scalar_or v = choose (is_scalar v) v 0xFFFD

-- a scalar in UTF-8, by table 3-6 of the Unicode standard: one byte to 7F, two to 7FF, three to FFFF, four above
unfoldable pub enc_scalar : ℕ → List ℕ
enc_scalar c =
    given (ltb c 0x80) (c ∷ [])
    (given (ltb c 0x800) ((0xC0 + c / 64) ∷ (0x80 + c % 64) ∷ [])
    (given (ltb c 0x10000) ((0xE0 + c / 4096) ∷ (0x80 + c / 64 % 64) ∷ (0x80 + c % 64) ∷ [])
    ((0xF0 + c / 262144) ∷ (0x80 + c / 4096 % 64) ∷ (0x80 + c / 64 % 64) ∷ (0x80 + c % 64) ∷ [])))
