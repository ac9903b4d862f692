-- Sheet image: what it holds, and its decoder, in the order of document 02, Card 1: "a sheet image, at most 1,048,576 bytes, the slice exactly that: u32
-- whole length, version 1, u16 count, then for each a message Id, attribute Flag (and Id) and arguments image."
use Rattle.std.specs.Prelude.{List, [], ◌∷◌, ◌&&◌, ℕ, ◌+◌, leb, eqb}
use Rattle.std.proofs.Math.Option.{Option}
use Rattle.records.specs.Got.{Got, got, Parser, after, test}
use Rattle.records.specs.Bytes.{bytes_at, number_at}
use Rattle.records.specs.Decode.{as_a, many, optional_at, id_at}
use Rattle.records.specs.Images.{one_at, max_image, whole_of}

-- what a sheet asks for: a message, perhaps an attribute of it, and the bytes of an arguments image
pub record Request : Type 0 where
  pub id : List ℕ
  pub attribute : Option (List ℕ)
  pub image : List ℕ

-- "at most 1,048,576 bytes"
unfoldable pub max_sheet : ℕ
max_sheet = 1048576

-- the fewest bytes of an arguments image
unfoldable pub min_arguments : ℕ
min_arguments = 7

-- "of an arguments image it judges only the length, 7 to 65,536": its bytes, by the whole length that its first four state
unfoldable pub arguments_bytes_at : Parser (List ℕ)
arguments_bytes_at s at = after (number_at 4 s at) (λ n p. test (leb min_arguments n && leb n max_image) (bytes_at n s at))

-- "a message Id, attribute Flag (and Id) and arguments image"
unfoldable pub request_at : Parser Request
request_at s at =
    after (id_at s at) (λ i p.
    after (optional_at id_at s p) (λ a q.
    as_a (λ b. record { id = i; attribute = a; image = b }) (arguments_bytes_at s q)))

-- "u32 whole length, version 1, u16 count, then for each …"
unfoldable pub sheet_at : Parser (List Request)
sheet_at s at =
    after (number_at 4 s at) (λ n p.
    test (leb n max_sheet)
    (after (one_at s p) (λ v q.
    after (number_at 2 s q) (λ k r.
    after (many [] ◌∷◌ k request_at s r) (λ l e.
    test (eqb e (at + n)) (got l e))))))

-- a sheet image: "the slice exactly that"
unfoldable pub sheet_of : List ℕ → Got (List Request)
sheet_of s = whole_of sheet_at s
