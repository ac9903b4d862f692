-- Worked examples of the definitions.
use mathlib.Core.Path.{◌≡◌, refl}
use mathlib.Core.List.{[], ◌∷◌}
use Rattle.rules.specs.Rules.{hex}
use Rattle.decimals.specs.Bytes.{digit}
use Rattle.scalars.specs.Scalars.{hex_value, is_scalar, scalar_or, enc_scalar}
use Rattle.unescape.specs.Unescape.{digits_of, scalar_piece, scalar_of, escape_of, piece_of, more_of, reads_as, unescape_from, unescape}

-- `\u0041` is A
pub letter_read : unescape (92 ∷ 117 ∷ 48 ∷ 48 ∷ 52 ∷ 49 ∷ []) ≡ 65 ∷ []
unfolding unescape unescape_from piece_of escape_of scalar_of scalar_piece digits_of hex digit hex_value more_of reads_as scalar_or is_scalar enc_scalar
letter_read = refl

-- `\\` and `\"`
pub quotes_read : unescape (92 ∷ 92 ∷ 92 ∷ 34 ∷ []) ≡ 92 ∷ 34 ∷ []
unfolding unescape unescape_from piece_of escape_of more_of reads_as
quotes_read = refl

-- `\U01F600`
pub face_read : unescape (92 ∷ 85 ∷ 48 ∷ 49 ∷ 70 ∷ 54 ∷ 48 ∷ 48 ∷ []) ≡ 0xF0 ∷ 0x9F ∷ 0x98 ∷ 0x80 ∷ []
unfolding unescape unescape_from piece_of escape_of scalar_of scalar_piece digits_of hex digit hex_value more_of reads_as scalar_or is_scalar enc_scalar
face_read = refl

-- `\uD800`, a surrogate, is U+FFFD
pub surrogate_read : unescape (92 ∷ 117 ∷ 68 ∷ 56 ∷ 48 ∷ 48 ∷ []) ≡ 0xEF ∷ 0xBF ∷ 0xBD ∷ []
unfolding unescape unescape_from piece_of escape_of scalar_of scalar_piece digits_of hex digit hex_value more_of reads_as scalar_or is_scalar enc_scalar
surrogate_read = refl

-- so is `\U110000`, past the last scalar
pub past_read : unescape (92 ∷ 85 ∷ 49 ∷ 49 ∷ 48 ∷ 48 ∷ 48 ∷ 48 ∷ []) ≡ 0xEF ∷ 0xBF ∷ 0xBD ∷ []
unfolding unescape unescape_from piece_of escape_of scalar_of scalar_piece digits_of hex digit hex_value more_of reads_as scalar_or is_scalar enc_scalar
past_read = refl
