-- The highest use of a sheet: "for a sheet the largest of its messages'" (document 02, Card 8).
use Rattle.std.specs.Prelude.{List, [], ◌∷◌, ℕ, max}
use Rattle.records.specs.Got.{Got, got, bad}
use Rattle.records.specs.Images.{Store, store_of}
use Rattle.resolution.specs.Effect.{Bytes}
use Rattle.theorems.specs.HighestUse.{message_use}
use Rattle.requests.specs.Image.{Request, sheet_of}

-- "the largest of its messages'"
unfoldable pub largest_use : Store → List Request → ℕ
largest_use v [] = 0
largest_use v (r ∷ rs) = max (message_use v r.id r.attribute r.image) (largest_use v rs)

-- from the sheet image and the bundle's slice; where one of them is malformed, nothing is resolved
unfoldable pub requests_use : Store → Got (List Request) → ℕ
requests_use v bad = 0
requests_use v (got rs e) = largest_use v rs

unfoldable pub sheet_use : Got Store → Bytes → ℕ
sheet_use bad image = 0
sheet_use (got v e) image = requests_use v (sheet_of image)

unfoldable pub sheet_highest_use : Bytes → Bytes → ℕ
sheet_highest_use s image = sheet_use (store_of s) image
