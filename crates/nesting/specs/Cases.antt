-- Marks by computing: when they are paired; that the premises of Card 12 can be met, by texts that are cut short too; and that each of them is needed.
use Rattle.std.specs.Prelude.{◌≡◌, refl, List, [], ◌∷◌, ◌++◌, true, ℕ, ◌≤◌, take}
use Rattle.std.proofs.Math.Option.{none}
use Rattle.std.proofs.Common.{arith}
use Rattle.decimals.specs.Ascii.{ascii}
use Rattle.records.specs.Tree.{no_more, more, text}
use Rattle.records.specs.Images.{Entry, Item, Argument}
use Rattle.records.specs.Encode.{enc_store, enc_arguments_image}
use Rattle.layout.specs.Exact.{Octets}
use Rattle.resolution.specs.Effect.{Bytes}
use Rattle.resolution.specs.Resolve.{fsi, pdi}
use Rattle.resolution.specs.Format.{finished, Buffers, format}
use Rattle.resolution.specs.Case.{⟨, ⟩, a_message, put, var, quoted}
use Rattle.resolution.specs.CutShort.{cut_in_isolates}
use Rattle.theorems.specs.Leaves.{literal_leaves, named_leaves, leaves_of}
use Rattle.requests.specs.Encode.{enc_sheet}
use Rattle.sheets.specs.Sheet.{format_sheet}
use Rattle.sheets.specs.Cases.{opened, asks, without, lengths}
use Rattle.nesting.specs.Marks.{begins, once, count_in, UnmarkedBytes, PairedBytes}
use Rattle.nesting.specs.Claims.{InBundle, InArguments, InSheet}

-- what counting rests on, what stands in a pattern, and all that a formatting and a sheet rest on, open
unfoldable pub counted : Unit {0}
unfolding opened fsi pdi begins once count_in literal_leaves named_leaves leaves_of
counted = tt

-- what is counted, and what is not paired
pub record Pairs : Type 0 where
  -- ⟨3⟩ whales has one of each
  pub opening : count_in fsi (⟨ ++ ascii "3" ++ ⟩ ++ ascii " whales") ≡ 1
  pub closing : count_in pdi (⟨ ++ ascii "3" ++ ⟩ ++ ascii " whales") ≡ 1
  -- a mark that breaks off is none
  pub half : count_in fsi (take 2 ⟨) ≡ 0
  -- ⟩⟨ has one of each on the whole, and is not paired: its first mark closes what is not open
  pub exchanged_opening : count_in fsi (⟩ ++ ⟨) ≡ 1
  pub exchanged_closing : count_in pdi (⟩ ++ ⟨) ≡ 1
  pub exchanged : PairedBytes (⟩ ++ ⟨) → ⊥
  -- ⟨ alone is not closed
  pub unclosed : PairedBytes ⟨ → ⊥

pub pairs : Pairs
unfolding counted
pairs = record {
  opening = refl;
  closing = refl;
  half = refl;
  exchanged_opening = refl;
  exchanged_closing = refl;
  exchanged = λ p. let h : 1 ≤ 0 = p.prefix 3 in omega arith;
  unclosed = λ p. let h : ◌≡◌ {A = ℕ} 0 1 = p.whole in omega arith;
}

-- a bundle of these entries, isolating
unfoldable pub bundle_of : List Entry → Bytes
bundle_of es = enc_store (record { locale = 0; isolating = true; items = Item.plain es ∷ [] })

-- what is lent: long enough for all of them
unfoldable pub lent : Buffers
lent = lengths 60 12 8

-- the bundle of a text that is cut short inside two isolates
unfoldable pub cut : Bytes
cut = bundle_of cut_in_isolates.entries

-- a sheet of it twice
unfoldable pub twice : Bytes
twice = enc_sheet (asks "a" without ∷ asks "a" without ∷ [])

-- all premises are met, and the texts are cut short inside two isolates: the 101st placeable was begun in each, and each is ⟨x⟨{b}{???}⟩{???}⟩
pub record PremisesMet : Type 0 where
  pub store_octets : Octets cut
  pub store : InBundle UnmarkedBytes cut
  pub arguments_octets : Octets without
  pub arguments : InArguments UnmarkedBytes without
  pub finishes : (format cut (ascii "a") none without lent).answer ≡ finished 26 1 101 0 0
  pub text : take 26 (format cut (ascii "a") none without lent).buffers.text ≡ cut_in_isolates.text
  pub sheet_octets : Octets twice
  pub sheet : InSheet UnmarkedBytes twice
  pub sheet_finishes : (format_sheet cut twice lent).answer ≡ finished 52 2 202 0 0
  pub sheet_text : take 52 (format_sheet cut twice lent).buffers.text ≡ cut_in_isolates.text ++ cut_in_isolates.text

-- Formattings that finish without an error: `a = x⟩`, `a = x⟨`; `a = { "\u2069" }`; `a = { $n }`, n ⟩; and a sheet of the last.
unfoldable pub in_text : Bytes → Bytes
in_text mark = bundle_of (a_message "a" (more (text (ascii "x" ++ mark)) no_more) ∷ [])

unfoldable pub in_literal : Bytes
in_literal = bundle_of (a_message "a" (put (quoted "\\u2069") no_more) ∷ [])

unfoldable pub in_variable : Bytes
in_variable = bundle_of (a_message "a" (put (var "n") no_more) ∷ [])

unfoldable pub marked : Bytes
marked = enc_arguments_image ((ascii "n", Argument.string ⟩) ∷ [])

unfoldable pub marked_sheet : Bytes
marked_sheet = enc_sheet (asks "a" marked ∷ [])

-- a formatting of `a` whose text is this, and not paired
pub record Unpaired (s image : Bytes) (t k : ℕ) (said : Bytes) : Type 0 where
  pub finishes : (format s (ascii "a") none image lent).answer ≡ finished t 0 k 0 0
  pub text : take t (format s (ascii "a") none image lent).buffers.text ≡ said
  pub unpaired : PairedBytes said → ⊥

-- each of them has a mark: in a text element; in a string literal, which has none as it is written, and one once its escapes are read; in a string argument; in
-- a string argument of a sheet's message
pub record UnpairedWhereMarked : Type 0 where
  pub text : Unpaired (in_text ⟩) without 4 0 (ascii "x" ++ ⟩)
  pub text_marked : InBundle UnmarkedBytes (in_text ⟩) → ⊥
  pub opening_text : Unpaired (in_text ⟨) without 4 0 (ascii "x" ++ ⟨)
  pub opening_text_marked : InBundle UnmarkedBytes (in_text ⟨) → ⊥
  pub literal : Unpaired in_literal without 3 1 ⟩
  pub literal_marked : InBundle UnmarkedBytes in_literal → ⊥
  pub literal_as_written : UnmarkedBytes (ascii "\\u2069")
  pub argument : Unpaired in_variable marked 3 1 ⟩
  pub argument_marked : InArguments UnmarkedBytes marked → ⊥
  pub sheet_finishes : (format_sheet in_variable marked_sheet lent).answer ≡ finished 3 0 1 0 0
  pub sheet_text : take 3 (format_sheet in_variable marked_sheet lent).buffers.text ≡ ⟩
  pub sheet_marked : InSheet UnmarkedBytes marked_sheet → ⊥

pub unpaired_where_marked : UnpairedWhereMarked
unfolding counted bundle_of lent in_text in_literal in_variable marked marked_sheet
unpaired_where_marked = record {
  text = record { finishes = refl; text = refl; unpaired = λ p. let h : 1 ≤ 0 = p.prefix 4 in omega arith };
  text_marked = λ h. let k : ◌≡◌ {A = ℕ} 1 0 = (h _ _ refl).0.0.0.0.no_closing in omega arith;
  opening_text = record { finishes = refl; text = refl; unpaired = λ p. let h : ◌≡◌ {A = ℕ} 0 1 = p.whole in omega arith };
  opening_text_marked = λ h. let k : ◌≡◌ {A = ℕ} 1 0 = (h _ _ refl).0.0.0.0.no_opening in omega arith;
  literal = record { finishes = refl; text = refl; unpaired = λ p. let h : 1 ≤ 0 = p.prefix 3 in omega arith };
  literal_marked = λ h. let k : ◌≡◌ {A = ℕ} 1 0 = (h _ _ refl).0.0.0.0.no_closing in omega arith;
  literal_as_written = record { no_opening = refl; no_closing = refl };
  argument = record { finishes = refl; text = refl; unpaired = λ p. let h : 1 ≤ 0 = p.prefix 3 in omega arith };
  argument_marked = λ h. let k : ◌≡◌ {A = ℕ} 1 0 = (h _ _ refl).0.no_closing in omega arith;
  sheet_finishes = refl;
  sheet_text = refl;
  sheet_marked = λ h. let k : ◌≡◌ {A = ℕ} 1 0 = ((h _ _ refl).0 _ _ refl).0.no_closing in omega arith;
}

-- so each premise is needed: what the others ask is met
pub record PremisesNeeded : Type 0 where
  pub has_marks : UnpairedWhereMarked
  -- of texts and literals, formatted without arguments
  pub text_octets : Octets (in_text ⟩)
  pub opening_text_octets : Octets (in_text ⟨)
  pub literal_octets : Octets in_literal
  pub arguments_octets : Octets without
  pub no_arguments : InArguments UnmarkedBytes without
  -- of arguments
  pub store_octets : Octets in_variable
  pub no_texts : InBundle UnmarkedBytes in_variable
  pub marked_octets : Octets marked
  pub sheet_octets : Octets marked_sheet
