-- Sheets by computing, from bytes to bytes.
use Rattle.std.specs.Prelude.{◌≡◌, refl, List, [], ◌∷◌, ◌++◌, true, ℕ, replicate}
use Rattle.std.proofs.Math.Option.{none, some}
use Prim.Native.String.{String}
use Rattle.decimals.specs.Ascii.{ascii}
use Rattle.records.specs.Tree.{no_more, inline, nested, no_variant}
use Rattle.records.specs.Images.{Entry, Item, Kind}
use Rattle.records.specs.Encode.{enc_store, enc_arguments_image}
use Rattle.resolution.specs.Effect.{Bytes}
use Rattle.resolution.specs.Format.{finished, Buffers, refuse}
use Rattle.resolution.specs.Case.{a_message, pattern_of, say, put, choice, numbered, default, var, whole, no_errors, computed}
use Rattle.resolution.specs.Sentences.{ws}
use Rattle.requests.specs.Encode.{enc_request, enc_sheet}
use Rattle.requests.specs.Image.{Request, max_sheet, min_arguments, arguments_bytes_at, request_at, sheet_at, sheet_of}
use Rattle.sheets.specs.Sheet.{run_arguments, run_part, run_entry, run_message, run_sheet, sheet_with, sheet_read, sheet_store, format_sheet}
use Rattle.sheets.specs.Refused.{cleared}

-- what a sheet rests on, open
unfoldable pub sheeted : Unit {0}
unfolding computed ws cleared max_sheet min_arguments arguments_bytes_at request_at sheet_at sheet_of run_arguments run_part run_entry run_message run_sheet sheet_with sheet_read sheet_store format_sheet
sheeted = tt

-- A bundle: `a = Hello` with the attribute `.b = Hi`; `v = { $n }`; `s = { { $n } -> [1] x *[o] y }`, which puts the text of n into the workspace; `w`, 60
-- elements `{ "w" }`; `o`, 101 of them.
unfoldable pub entries : List Entry
entries =
    record { kind = Kind.message; id = ascii "a"; value = some (pattern_of (say "Hello" no_more)); attributes = (ascii "b", pattern_of (say "Hi" no_more)) ∷ [] }
    ∷ a_message "v" (put (var "n") no_more)
    ∷ a_message "s" (choice (nested (inline (var "n"))) (numbered "1" (say "x" no_more) (default "o" (say "y" no_more) no_variant)) no_more)
    ∷ []

unfoldable pub bundle : Bytes
bundle = enc_store (record { locale = 0; isolating = true; items = Item.plain entries ∷ [] })

-- the bundle of the two long messages
unfoldable pub long_bundle : Bytes
long_bundle = enc_store (record { locale = 0; isolating = true; items = Item.plain (a_message "w" (ws 60) ∷ a_message "o" (ws 101) ∷ []) ∷ [] })

-- requests
unfoldable pub asks : String → Bytes → Request
asks i l = record { id = ascii i; attribute = none; image = l }

unfoldable pub asks_for : String → String → Bytes → Request
asks_for i a l = record { id = ascii i; attribute = some (ascii a); image = l }

-- arguments: none; n is a number; no image though of 7 bytes
unfoldable pub without : Bytes
without = enc_arguments_image []

unfoldable pub with : ℕ → Bytes
with n = enc_arguments_image (whole "n" n ∷ [])

unfoldable pub wrong : Bytes
wrong = 0 ∷ 0 ∷ 0 ∷ 7 ∷ 2 ∷ 0 ∷ 0 ∷ []

-- names that do not ascend
unfoldable pub unordered : Bytes
unordered = enc_arguments_image (whole "n" 1 ∷ whole "n" 1 ∷ [])

-- three buffers of such lengths, no byte of them zero
unfoldable pub lengths : ℕ → ℕ → ℕ → Buffers
lengths t l w = record { text = replicate t 0xAA; list = replicate l 0xBB; work = replicate w 0xCC }

-- the names of this file, open
unfoldable pub opened : Unit {0}
unfolding sheeted entries bundle long_bundle asks asks_for enc_request enc_sheet without with wrong unordered lengths
opened = tt

-- sheets that finish
pub record Finishing : Type 0 where
  -- `a`, its attribute `b`, `v` without n, `v` with n 3: texts and records one behind the other under one header, later bytes as before
  pub several : format_sheet bundle (enc_sheet (asks "a" without ∷ asks_for "a" "b" without ∷ asks "v" without ∷ asks "v" (with 3) ∷ [])) (lengths 14 14 1) ≡ record {
    answer = finished 12 1 2 0 0;
    buffers = record {
      text = ascii "HelloHi{$n}3" ++ (0xAA ∷ 0xAA ∷ []);
      list = 0 ∷ 0 ∷ 0 ∷ 13 ∷ 1 ∷ 0 ∷ 6 ∷ 2 ∷ 4 ∷ 0 ∷ 1 ∷ 0x6E ∷ 0 ∷ 0xBB ∷ [];
      work = 0 ∷ [];
    };
  }
  -- no message: an empty text, a list of its header alone
  pub empty : format_sheet bundle (enc_sheet []) (lengths 1 6 1) ≡ record { answer = finished 0 0 0 0 0; buffers = record { text = 0xAA ∷ []; list = no_errors ++ (0xBB ∷ []); work = 0 ∷ [] } }
  -- "Each message starts with no placeables begun": 60 and 60 are 120, and none is too many
  pub sixties : format_sheet long_bundle (enc_sheet (asks "w" without ∷ asks "w" without ∷ [])) (lengths 120 5 0) ≡ record { answer = finished 120 0 120 0 0; buffers = record { text = replicate 120 0x77; list = no_errors; work = [] } }
  -- "the limit of 100 is each message's own": 101 are too many, and 60 after them are not
  pub one_too_many : format_sheet long_bundle (enc_sheet (asks "o" without ∷ asks "w" without ∷ [])) (lengths 160 8 0) ≡ record { answer = finished 160 1 161 0 0; buffers = record { text = replicate 160 0x77; list = 0 ∷ 0 ∷ 0 ∷ 8 ∷ 1 ∷ 0 ∷ 1 ∷ 6 ∷ []; work = [] } }
  -- "The workspace is empty at each message's start": 2 bytes, then 1, then 2 in a workspace of 2; the figure is the largest
  pub largest : format_sheet bundle (enc_sheet (asks "s" (with 10) ∷ asks "s" (with 7) ∷ asks "s" (with 11) ∷ [])) (lengths 3 5 2) ≡ record { answer = finished 3 0 3 0 2; buffers = record { text = ascii "yyy"; list = no_errors; work = 0 ∷ 0 ∷ [] } }

pub finishing : Finishing
unfolding opened
finishing = record { several = refl; empty = refl; sixties = refl; one_too_many = refl; largest = refl }

-- sheets that are refused
pub record Refusing : Type 0 where
  -- a second message that is not there, an attribute that it has not, arguments that are no image, or not in order: zeros, although the first message wrote
  pub no_message : format_sheet bundle (enc_sheet (asks "a" without ∷ asks "zz" without ∷ [])) (lengths 5 5 2) ≡ cleared 11 (lengths 5 5 2)
  pub no_attribute : format_sheet bundle (enc_sheet (asks "a" without ∷ asks_for "a" "zz" without ∷ [])) (lengths 5 5 2) ≡ cleared 12 (lengths 5 5 2)
  pub no_arguments : format_sheet bundle (enc_sheet (asks "a" without ∷ asks "a" wrong ∷ [])) (lengths 10 5 2) ≡ cleared 13 (lengths 10 5 2)
  pub no_order : format_sheet bundle (enc_sheet (asks "a" without ∷ asks "a" unordered ∷ [])) (lengths 10 5 2) ≡ cleared 19 (lengths 10 5 2)
  -- what the first message left of the text and the list decides the second one's 15 and 7; the whole workspace its 16
  pub text_short : format_sheet bundle (enc_sheet (asks "a" without ∷ asks "a" without ∷ [])) (lengths 9 5 2) ≡ cleared 15 (lengths 9 5 2)
  pub list_short : format_sheet bundle (enc_sheet (asks "v" without ∷ asks "v" without ∷ [])) (lengths 8 20 2) ≡ cleared 7 (lengths 8 20 2)
  pub work_short : format_sheet bundle (enc_sheet (asks "s" (with 1) ∷ asks "s" (with 10) ∷ [])) (lengths 2 5 1) ≡ cleared 16 (lengths 2 5 1)
  -- "The first refusal that a message meets": the first message's 15, though the second is not there
  pub first_met : format_sheet bundle (enc_sheet (asks "a" without ∷ asks "zz" without ∷ [])) (lengths 4 5 2) ≡ cleared 15 (lengths 4 5 2)
  -- "Refusals 4 and 18, and 7 for a list buffer under 5 bytes, come before any message and change nothing": each is also refused for every later reason
  pub store : format_sheet [] [] (lengths 4 4 2) ≡ refuse 4 (lengths 4 4 2)
  pub sheet : format_sheet bundle [] (lengths 4 4 2) ≡ refuse 18 (lengths 4 4 2)
  pub header : format_sheet bundle (enc_sheet (asks "zz" wrong ∷ [])) (lengths 4 4 2) ≡ refuse 7 (lengths 4 4 2)
  -- a byte behind the last message, which would run
  pub left_over : format_sheet bundle (enc_sheet (asks "a" without ∷ []) ++ (0 ∷ [])) (lengths 5 5 2) ≡ refuse 18 (lengths 5 5 2)
  -- a second message whose arguments image states 6 bytes, where the first would run
  pub too_few : format_sheet bundle (enc_sheet (asks "a" without ∷ asks "a" (0 ∷ 0 ∷ 0 ∷ 6 ∷ 1 ∷ 0 ∷ []) ∷ [])) (lengths 10 5 2) ≡ refuse 18 (lengths 10 5 2)

pub refusing : Refusing
unfolding opened
refusing = record {
  no_message = refl;
  no_attribute = refl;
  no_arguments = refl;
  no_order = refl;
  text_short = refl;
  list_short = refl;
  work_short = refl;
  first_met = refl;
  store = refl;
  sheet = refl;
  header = refl;
  left_over = refl;
  too_few = refl;
}
