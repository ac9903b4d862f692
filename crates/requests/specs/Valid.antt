-- The rules beside the layout: which lists of requests have a sheet image. Document 02, Card 1.
use Rattle.std.specs.Prelude.{◌≡◌, List, ℕ, ◌≤◌, length}
use Rattle.records.specs.Bytes.{be, part}
use Rattle.records.specs.Images.{max_image}
use Rattle.records.specs.Valid.{ValidId, IfAny, Counted}
use Rattle.layout.specs.Exact.{Octets}
use Rattle.requests.specs.Image.{Request, max_sheet, min_arguments}
use Rattle.requests.specs.Encode.{enc_sheet}

-- "of an arguments image it judges only the length, 7 to 65,536": bytes, as many as the first four state
unfoldable pub ValidArgumentsBytes : List ℕ → Type 0
ValidArgumentsBytes b = Octets b × (min_arguments ≤ length b) × (length b ≤ max_image) × (be (part b 0 4) ≡ length b)

-- "a message Id, attribute Flag (and Id) and arguments image"
unfoldable pub ValidRequest : Request → Type 0
ValidRequest r = ValidId r.id × IfAny ValidId r.attribute × ValidArgumentsBytes r.image

-- "a sheet image, at most 1,048,576 bytes, the slice exactly that: u32 whole length, version 1, u16 count, then for each …"
unfoldable pub ValidSheet : List Request → Type 0
ValidSheet rs = Counted ValidRequest rs × (length (enc_sheet rs) ≤ max_sheet)
