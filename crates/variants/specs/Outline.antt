-- The variants of a select as they can be read in any bytes.
use Rattle.std.specs.Prelude.{ℕ, zero, suc, List, [], ◌∷◌}
use Rattle.records.specs.Got.{Got, got, bad, Parser, after}
use Rattle.records.specs.Bytes.{byte_at, number_at, str_at}
use Rattle.walks.specs.Outline.{sized_at}

-- a variant by its outline: its place, where the key kind stands; the key's kind and bytes; the default Flag; where its pattern stands
pub record Outline : Type 0 where
  pub place : ℕ
  pub kind : ℕ
  pub key : List ℕ
  pub flag : ℕ
  pub pattern : ℕ

abbrev pub outline : ℕ → ℕ → List ℕ → ℕ → ℕ → Outline
outline at kind key flag pattern = record { place = at; kind = kind; key = key; flag = flag; pattern = pattern }

-- "each key kind (1 Id, 2 number literal), key, default Flag, pattern": the key is a Str, and the pattern is passed by the length that it begins with
unfoldable pub outline_at : Parser Outline
outline_at s at =
    after (byte_at s at) (λ kind p.
    after (str_at s p) (λ key q.
    after (byte_at s q) (λ flag e.
    after (sized_at 4 s e) (λ _ f. got (outline at kind key flag e) f))))

-- what is read, and what follows it
unfoldable pub and_those : Got Outline → (ℕ → List Outline) → List Outline
and_those (got o e) those = o ∷ those e
and_those bad those = []

-- those of n variants that can be read one after the other
unfoldable pub outlines : ℕ → List ℕ → ℕ → List Outline
outlines zero s at = []
outlines (suc n) s at = and_those (outline_at s at) (outlines n s)

unfoldable pub counted : Got ℕ → List ℕ → List Outline
counted (got n e) s = outlines n s e
counted bad s = []

-- "u16 variant count", then the variants
unfoldable pub variants_at : List ℕ → ℕ → List Outline
variants_at s at = counted (number_at 2 s at) s
