-- Document 02, Card 12: "Where no text element, no string literal once its escapes are read, and no string argument contains U+2068 or U+2069, every
-- finished text has them paired … That includes texts cut short by the placeable limit, and whole sheets." A formatting that is cut short is finished, so
-- nothing is said of placeables. Q is what is asked of the texts that go in, P what is claimed of the text that comes out.
use Rattle.std.specs.Prelude.{◌≡◌, List, ◌↔◌, true, ℕ, take}
use Rattle.std.proofs.Math.Option.{Option}
use Rattle.rules.specs.Rules.{is_utf8}
use Rattle.unescape.specs.Unescape.{unescape}
use Rattle.records.specs.Got.{got}
use Rattle.records.specs.Images.{Store, Argument, store_of, arguments_of}
use Rattle.records.specs.Valid.{All}
use Rattle.layout.specs.Exact.{Octets}
use Rattle.resolution.specs.Effect.{Bytes}
use Rattle.resolution.specs.Format.{finished, Buffers, format}
use Rattle.theorems.specs.Leaves.{Leaf, InItems}
use Rattle.requests.specs.Image.{Request, sheet_of}
use Rattle.sheets.specs.Sheet.{format_sheet}
use Rattle.nesting.specs.Marks.{UnmarkedBytes, PairedBytes, UnmarkedScalars, PairedScalars}

module _ (Q : Bytes → Type 0) where
  -- "no text element, no string literal once its escapes are read": of what stands in a pattern, named arguments of calls included
  abbrev pub InLeaf : Leaf → Type 0
  InLeaf (Leaf.text t) = Q t
  InLeaf (Leaf.string s) = Q (unescape s)
  InLeaf (Leaf.variable i) = Unit {0}
  InLeaf (Leaf.function i) = Unit {0}
  InLeaf (Leaf.message i a) = Unit {0}
  InLeaf (Leaf.term i a) = Unit {0}

  -- of every pattern of the bundle in a slice, if it has one: of all its items, held or not
  abbrev pub InBundle : Bytes → Type 0
  InBundle s = (v : Store) (end : ℕ) → store_of s ≡ got v end → InItems InLeaf v.items

  -- "no string argument"
  abbrev pub InArgument : Bytes × Argument → Type 0
  InArgument (i, Argument.string t) = Q t
  InArgument (i, Argument.number f d k) = Unit {0}
  InArgument (i, Argument.nothing) = Unit {0}

  -- of every argument of an image, if it is one
  abbrev pub InArguments : Bytes → Type 0
  InArguments image = (l : List (Bytes × Argument)) (end : ℕ) → arguments_of image ≡ got l end → All InArgument l

  -- of every argument of every message that a sheet image asks for, if it is one
  abbrev pub InSheet : Bytes → Type 0
  InSheet image = (rs : List Request) (end : ℕ) → sheet_of image ≡ got rs end → All (λ (r : Request). InArguments r.image) rs

module _ (Q P : Bytes → Type 0) where
  -- "every finished text": of a message or an attribute, in any buffers
  abbrev pub EveryFormatting : Type 0
  EveryFormatting =
      (s : Bytes) → Octets s → InBundle Q s
      → (image : Bytes) → Octets image → InArguments Q image
      → (id : Bytes) (a : Option Bytes) (b : Buffers) (t e k u w : ℕ) → (format s id a image b).answer ≡ finished t e k u w
      → P (take t (format s id a image b).buffers.text)

  -- "and whole sheets"
  abbrev pub EverySheet : Type 0
  EverySheet =
      (s : Bytes) → Octets s → InBundle Q s
      → (image : Bytes) → Octets image → InSheet Q image
      → (b : Buffers) (t e k u w : ℕ) → (format_sheet s image b).answer ≡ finished t e k u w
      → P (take t (format_sheet s image b).buffers.text)

-- Isolation marks nest, by bytes and by Unicode scalars.
pub record MarksNest : Type 0 where
  pub formattings : EveryFormatting UnmarkedBytes PairedBytes
  pub sheets : EverySheet UnmarkedBytes PairedBytes
  pub formattings_scalars : EveryFormatting UnmarkedScalars PairedScalars
  pub sheets_scalars : EverySheet UnmarkedScalars PairedScalars

-- The bridge: of a well-formed text, and of any bytes that a bundle, arguments or a sheet are read from, both ways of counting say the same.
pub record Bridge : Type 0 where
  pub unmarked : (t : Bytes) → is_utf8 t ≡ true → UnmarkedBytes t ↔ UnmarkedScalars t
  pub paired : (t : Bytes) → is_utf8 t ≡ true → PairedBytes t ↔ PairedScalars t
  pub bundles : (s : Bytes) → Octets s → InBundle UnmarkedBytes s ↔ InBundle UnmarkedScalars s
  pub arguments : (image : Bytes) → Octets image → InArguments UnmarkedBytes image ↔ InArguments UnmarkedScalars image
  pub sheets : (image : Bytes) → Octets image → InSheet UnmarkedBytes image ↔ InSheet UnmarkedScalars image
