-- The outline of a request: what stands where by the lengths alone, whatever the bytes are, in the order of document 02, Card 1: "a message Id, attribute
-- Flag (and Id) and arguments image". No rule for an Id is tested, and no limit of an arguments image.
use Rattle.std.specs.Prelude.{ℕ, Option, Some, None, eqb}
use Rattle.records.specs.Got.{Got, got, bad, Parser, after, test, pick}
use Rattle.records.specs.Bytes.{byte_at, bytes_at, number_at, span_at}
use Rattle.requests.specs.declared.Spans.{Spans}

-- an Id from i up to j, an attribute (or none), and the image, from at up to e
unfoldable pub spans : ℕ → ℕ → Option (ℕ × ℕ) → ℕ → ℕ → Spans
spans i j a at e = record { id = i; id_end = j; attribute = a; image = at; end = e }

-- "arguments image", behind an Id and an attribute: as many bytes as its first four state
unfoldable pub image_spans : ℕ → ℕ → Option (ℕ × ℕ) → Parser Spans
image_spans i j a s at = after (number_at 4 s at) (λ n p. after (bytes_at n s at) (λ b e. got (spans i j a at e) e))

-- "attribute Flag (and Id) and arguments image", behind an Id: where there is no attribute, nothing stands behind the Flag for it
unfoldable pub attribute_spans : ℕ → ℕ → Parser Spans
attribute_spans i j s at =
    after (byte_at s at) (λ f p.
    pick (eqb f 0) (image_spans i j None s p)
    (test (eqb f 1) (after (span_at s p) (λ a e. image_spans i j (Some (a, e)) s e))))

-- "a message Id, attribute Flag (and Id) and arguments image"
unfoldable pub spans_at : Parser Spans
spans_at s at = after (span_at s at) (λ i j. attribute_spans i j s j)

-- what the code answers for it
unfoldable pub asked_of : Got Spans → Option Spans
asked_of (got q e) = Some q
asked_of bad = None
