-- What a string literal reads as: document 01, "String literal: a backslash is followed by `\`, `"`, `u` with 4 or `U` with 6 hexadecimal digits;
-- a value that is no Unicode scalar reads as U+FFFD".
use Rattle.std.specs.Prelude.{Option, Some, None, ℕ, zero, suc, ◌+◌, ◌*◌, Bool, false, ◌||◌, List, [], ◌∷◌, ◌++◌, eqb}
use Rattle.rules.specs.Rules.{hex}
use Rattle.decimals.specs.Bytes.{given}
use Rattle.scalars.specs.Scalars.{hex_value, scalar_or, enc_scalar}
use Rattle.unescape.specs.declared.Piece.{Piece}
use Rattle.unescape.specs.declared.Piece.TheVariants.{Byte, Scalar}

unfoldable pub has_backslash : List ℕ → Bool
has_backslash [] = false
has_backslash (b ∷ t) = eqb b 92 || has_backslash t

-- the value that n hexadecimal digits write, the first the highest, after those that wrote v; if they are all there
unfoldable pub digits_of : ℕ → ℕ → List ℕ → Option ℕ
digits_of v zero t = Some v
digits_of v (suc n) [] = None
digits_of v (suc n) (b ∷ t) = given (hex b) (digits_of (v * 16 + hex_value b) n t) None

-- Past a backslash. A backslash that begins no escape, as no string literal has one, stands for itself.
unfoldable pub scalar_piece : ℕ → Option ℕ → Piece
scalar_piece n (Some v) = Scalar v (n + 1)
scalar_piece n None = Byte 92 0

unfoldable pub scalar_of : ℕ → List ℕ → Piece
scalar_of n t = scalar_piece n (digits_of 0 n t)

unfoldable pub escape_of : List ℕ → Piece
escape_of [] = Byte 92 0
escape_of (c ∷ t) =
    given (eqb c 92) (Byte 92 1)
    (given (eqb c 34) (Byte 34 1)
    (given (eqb c 117) (scalar_of 4 t)
    (given (eqb c 85) (scalar_of 6 t) (Byte 92 0))))

-- what stands at the front of a text, by its first byte and the rest
unfoldable pub piece_of : ℕ → List ℕ → Piece
piece_of b t = given (eqb b 92) (escape_of t) (Byte b 0)

-- how many bytes past its first belong to a piece
unfoldable pub more_of : Piece → ℕ
more_of (Byte b k) = k
more_of (Scalar v k) = k

unfoldable pub reads_as : Piece → List ℕ
reads_as (Byte b k) = b ∷ []
reads_as (Scalar v k) = enc_scalar (scalar_or v)

-- a text whose first k bytes are read already
unfoldable pub unescape_from : ℕ → List ℕ → List ℕ
unescape_from k [] = []
unescape_from zero (b ∷ t) = reads_as (piece_of b t) ++ unescape_from (more_of (piece_of b t)) t
unescape_from (suc k) (b ∷ t) = unescape_from k t

unfoldable pub unescape : List ℕ → List ℕ
unescape t = unescape_from 0 t
