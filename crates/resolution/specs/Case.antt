-- What a case is: a resource, a message, arguments, and what a formatting of it gives. Here a case starts from the bundle as it is read; the crate
-- `cases` holds the same cases from bytes to bytes.
use Rattle.std.specs.Prelude.{◌≡◌, List, [], ◌∷◌, ◌++◌, true, false, ℕ, ◌-◌, length, replicate}
use Rattle.std.proofs.Math.Option.{none, some}
use Prim.Native.String.{String}
use Rattle.decimals.specs.Ascii.{ascii}
use Rattle.records.specs.Got.{got}
use Rattle.records.specs.Tree.{Key, Named, Pattern, pattern, Elements, more, text, placeable, inline, select, Inline, variable, without, Inlines, Variants, or, variant}
use Rattle.records.specs.Images.{Kind, Entry, Item, Argument}
use Rattle.records.specs.Encode.{enc_pattern, enc_arguments_image}
use Rattle.resolution.specs.Effect.{Bytes}
use Rattle.resolution.specs.Format.{finished, Buffers, Formatted, format_store}
use Rattle.resolution.specs.Opened.{opened}

-- "⟨ ⟩ are U+2068, U+2069"
abbrev pub ⟨ : Bytes
⟨ = 0xE2 ∷ 0x81 ∷ 0xA8 ∷ []

abbrev pub ⟩ : Bytes
⟩ = 0xE2 ∷ 0x81 ∷ 0xA9 ∷ []

-- A pattern holds the bytes that it is read from: here, those that the encoder writes.
unfoldable pub pattern_of : Elements → Pattern
pattern_of es = pattern (enc_pattern (pattern [] es)) es

-- `id = …` and `-id = …`
unfoldable pub a_message : String → Elements → Entry
a_message i es = record { kind = Kind.message; id = ascii i; value = some (pattern_of es); attributes = [] }

unfoldable pub a_term : String → Elements → Entry
a_term i es = record { kind = Kind.term; id = ascii i; value = some (pattern_of es); attributes = [] }

-- elements: text, `{ x }`, `{ x -> … }`, and what comes after them
unfoldable pub say : String → Elements → Elements
say t es = more (text (ascii t)) es

unfoldable pub put : Inline → Elements → Elements
put x es = more (placeable (inline x)) es

unfoldable pub choice : Inline → Variants → Elements → Elements
choice x vs es = more (placeable (select x vs)) es

-- variants: `[id] …`, `[number] …`, `*[id] …`, and those after them
unfoldable pub named : String → Elements → Variants → Variants
named k es vs = or (variant (Key.name (ascii k)) false (pattern_of es)) vs

unfoldable pub numbered : String → Elements → Variants → Variants
numbered k es vs = or (variant (Key.number (ascii k)) false (pattern_of es)) vs

unfoldable pub default : String → Elements → Variants → Variants
default k es vs = or (variant (Key.name (ascii k)) true (pattern_of es)) vs

-- inline expressions: `$id`, `"…"`, `id`, `-id`, `ID(…)`
unfoldable pub var : String → Inline
var i = variable (ascii i)

unfoldable pub quoted : String → Inline
quoted t = Inline.string (ascii t)

unfoldable pub numeral : String → Inline
numeral t = Inline.number (ascii t)

unfoldable pub ref : String → Inline
ref i = Inline.message (ascii i) none

unfoldable pub term_ref : String → Inline
term_ref i = Inline.term (ascii i) none without

unfoldable pub call : String → Inlines → Named → Inline
call i xs ns = Inline.function (ascii i) xs ns

-- an argument that is a whole number
unfoldable pub whole : String → ℕ → Bytes × Argument
whole i n = (ascii i, Argument.number false n 0)

-- Given: a plain resource's entries, the message, the arguments. Expected: the text, the error list with its header and how many records it has,
-- placeables begun, lookups unfound, workspace bytes.
pub record Case : Type 0 where
  pub entries : List Entry
  pub message : Bytes
  pub arguments : List (Bytes × Argument)
  pub text : Bytes
  pub list : Bytes
  pub errors : ℕ
  pub begun : ℕ
  pub unfound : ℕ
  pub work : ℕ

-- bytes, and after them the rest of n bytes that were all x
unfoldable pub filled : ℕ → ℕ → Bytes → Bytes
filled n x b = b ++ replicate (n - length b) x

-- an error list of no record
unfoldable pub no_errors : Bytes
no_errors = 0x00 ∷ 0x00 ∷ 0x00 ∷ 0x05 ∷ 0x01 ∷ []

-- what is lent: no byte of it is zero
unfoldable pub lent_list : Bytes
lent_list = filled 24 0xBB []

unfoldable pub lent : Buffers
lent = record { text = filled 120 0xAA []; list = lent_list; work = filled 16 0xCC [] }

-- a formatting that ends in success: "text and list at the front, later bytes as before; workspace zero"
unfoldable pub success : Case → Formatted
success c = record {
  answer = finished (length c.text) c.errors c.begun c.unfound c.work;
  buffers = record { text = filled 120 0xAA c.text; list = filled 24 0xBB c.list; work = filled 16 0 [] };
}

-- "locale en, isolating on, NUMBER added": the items of a case's bundle
unfoldable pub items_of : Case → List Item
items_of c = Item.plain c.entries ∷ Item.function (ascii "NUMBER") ∷ []

-- what `format` gives where it has read a store of these items
unfoldable pub from_items : Case → Formatted
from_items c = format_store (got (record { locale = 0; isolating = true; items = items_of c }) 0) c.message none (enc_arguments_image c.arguments) lent

-- the case holds of the definition of formatting
abbrev pub Formats : Case → Type 0
Formats c = from_items c ≡ success c

-- all that a case rests on, open
unfoldable pub computed : Unit {0}
unfolding opened pattern_of a_message a_term say put choice named numbered default var quoted numeral ref term_ref call whole filled no_errors lent_list lent success items_of from_items
computed = tt
