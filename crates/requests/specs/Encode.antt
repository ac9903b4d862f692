-- The layout of a sheet image as an encoder from requests to bytes: document 02, Card 1.
use Rattle.std.specs.Prelude.{List, ◌∷◌, ◌++◌, ℕ}
use Rattle.records.specs.Encode.{enc_str, enc_optional, enc_counted, enc_whole}
use Rattle.requests.specs.Image.{Request}

-- "a message Id, attribute Flag (and Id) and arguments image"
unfoldable pub enc_request : Request → List ℕ
enc_request r = enc_str r.id ++ (enc_optional enc_str r.attribute ++ r.image)

-- "u32 whole length, version 1, u16 count, then for each …"
unfoldable pub enc_sheet : List Request → List ℕ
enc_sheet rs = enc_whole (1 ∷ enc_counted enc_request rs)
