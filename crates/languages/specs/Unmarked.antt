-- The sentences of the four languages have no isolation mark: they meet what Card 12 asks of a bundle.
use Rattle.std.specs.Prelude.{List, [], ◌∷◌, ◌++◌, ℕ, ◌+◌, ◌<◌, length}
use Rattle.decimals.specs.Ascii.{ascii}
use Rattle.records.specs.Got.{Got, got, bad}
use Rattle.records.specs.Images.{Item, Store, store_of}
use Rattle.records.specs.Encode.{enc_whole, enc_item}
use Rattle.layout.specs.Exact.{Octets}
use Rattle.resolution.specs.Effect.{Bytes}
use Rattle.languages.specs.Languages.{en, da, ru, cy}
use Rattle.nesting.specs.Marks.{UnmarkedBytes}
use Rattle.nesting.specs.Claims.{InBundle}

-- the bundle that the program makes of a language's image, NUMBER and then the sentences; here it isolates
unfoldable pub made : ℕ → Bytes → Bytes
made locale image = enc_whole (1 ∷ locale ∷ 1 ∷ 0 ∷ 2 ∷ enc_item (Item.function (ascii "NUMBER")) ++ (1 ∷ image))

-- how many entries the resources of a bundle have
unfoldable pub entries_of : List Item → ℕ
entries_of [] = 0
entries_of (Item.plain es ∷ xs) = length es + entries_of xs
entries_of (Item.overriding es ∷ xs) = length es + entries_of xs
entries_of (Item.function i ∷ xs) = entries_of xs

-- of the bundle that is read, if one is
unfoldable pub entries_in : Got Store → ℕ
entries_in bad = 0
entries_in (got v e) = entries_of v.items

-- the slice is bytes, the bundle in it has entries, and no mark stands in any
pub record UnmarkedStore (s : Bytes) : Type 0 where
  pub octets : Octets s
  pub entries : 0 < entries_in (store_of s)
  pub unmarked : InBundle UnmarkedBytes s

pub record LanguagesUnmarked : Type 0 where
  pub english : UnmarkedStore (made 0 en)
  pub danish : UnmarkedStore (made 1 da)
  pub russian : UnmarkedStore (made 2 ru)
  pub welsh : UnmarkedStore (made 3 cy)
