-- Hexadecimal text as bytes.
use Rattle.std.specs.Prelude.{[], ◌∷◌, true, false, ℕ, ◌+◌, ◌-◌, ◌*◌, ltb}
use Prim.Native.String.{String}
pub use Rattle.decimals.specs.Ascii.{Bytes, ascii}

-- the value of a hexadecimal digit, `0` to `9` or `A` to `F`
abbrev pub literal_digit : ℕ → ℕ
literal_digit c = elim (ltb c 65) [ true ↦ c - 48 | false ↦ c - 55 ]

-- hexadecimal digits, two to a byte
abbrev pub pairs : Bytes → Bytes
pairs [] = []
pairs (a ∷ []) = []
pairs (a ∷ (b ∷ s)) = (literal_digit a * 16 + literal_digit b) ∷ pairs s

-- the bytes of a quoted text of hexadecimal digits
abbrev pub hex : String → Bytes
hex s = pairs (ascii s)
