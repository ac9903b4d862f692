-- UTF-8 as the encoding of Unicode scalar values, each by `enc_scalar`.
use Rattle.std.specs.Prelude.{ℕ, List, ◌≡◌}
use Rattle.scalars.specs.Scalars.{Scalar, enc_scalar}
use Rattle.records.specs.Encode.{enc_all}
use Rattle.records.specs.Valid.{All}

-- one after the other
unfoldable pub enc_scalars : List ℕ → List ℕ
enc_scalars cs = enc_all enc_scalar cs

-- t is the encoding of scalars
pub record Coded (t : List ℕ) : Type 0 where
  pub scalars : List ℕ
  pub valid : All Scalar scalars
  pub are : t ≡ enc_scalars scalars
