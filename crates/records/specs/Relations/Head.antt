-- The head of a resource image and of an arguments image.
use Rattle.std.specs.Prelude.{ℕ, leb, Option, Some, None}
use Rattle.records.specs.declared.Head.{Head}
use Rattle.records.specs.Got.{Got, got, bad, Parser, after, test}
use Rattle.records.specs.Bytes.{number_at}
use Rattle.records.specs.Images.{max_image, one_at}

-- "u32 whole length, version 1, u16 count", the length at most 65,536
unfoldable pub head_at : Parser (ℕ × ℕ)
head_at s at =
    after (number_at 4 s at) (λ n p.
    test (leb n max_image)
    (after (one_at s p) (λ v q.
    after (number_at 2 s q) (λ k r. got (n, k) r))))

-- what the code answers for it
unfoldable pub head_of : Got (ℕ × ℕ) → Option Head
head_of (got h e) = Some (record { size = h.0; count = h.1; from = e })
head_of bad = None
