-- The message `a = Hello` of document 01, "Records of the store".
use Rattle.std.proofs.Math.Option.{some}
use Rattle.std.specs.Prelude.{List, [], ◌∷◌, ℕ}
use Rattle.records.specs.Tree.{pattern, more, no_more, text}
use Rattle.records.specs.Images.{Kind, Entry}

-- 00 00 00 1C 01 00 01 01 00 01 61 01 00 00 00 0A 00 01 01 00 05 48 65 6C 6C 6F 00 00
unfoldable pub image : List ℕ
image = 0x00 ∷ 0x00 ∷ 0x00 ∷ 0x1C ∷ 0x01 ∷ 0x00 ∷ 0x01 ∷ 0x01 ∷ 0x00 ∷ 0x01 ∷ 0x61 ∷ 0x01 ∷ 0x00 ∷ 0x00 ∷ 0x00 ∷ 0x0A ∷ 0x00 ∷ 0x01 ∷ 0x01 ∷ 0x00 ∷ 0x05 ∷ 0x48 ∷ 0x65 ∷ 0x6C ∷ 0x6C ∷ 0x6F ∷ 0x00 ∷ 0x00 ∷ []

-- Hello
unfoldable pub hello : List ℕ
hello = 0x48 ∷ 0x65 ∷ 0x6C ∷ 0x6C ∷ 0x6F ∷ []

-- the pattern's own bytes, and its one element
unfoldable pub value : List ℕ
value = 0x00 ∷ 0x00 ∷ 0x00 ∷ 0x0A ∷ 0x00 ∷ 0x01 ∷ 0x01 ∷ 0x00 ∷ 0x05 ∷ hello

unfoldable pub message : Entry
message = record { kind = Kind.message; id = 0x61 ∷ []; value = some (pattern value (more (text hello) no_more)); attributes = [] }
