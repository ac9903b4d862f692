-- Document 01, "What each operation refuses": each refusal once, and what the slices hold then.
use Rattle.std.specs.Prelude.{◌≡◌, refl, List, [], ◌∷◌, ℕ, replicate}
use Rattle.std.proofs.Math.Option.{none, some}
use Rattle.records.specs.Tree.{Literal, no_more, inline, nested, no_inline, and, no_variant}
use Rattle.records.specs.Images.{Entry, Item}
use Rattle.records.specs.Encode.{enc_resource, enc_arguments_image}
use Rattle.bundle.specs.Additions as bundle
use Rattle.bundle.specs.Additions.{Added, new_bundle, add_resource, add_resource_overriding, add_function}
use Rattle.resolution.specs.Format.{finished, refused_before, refused_running, Buffers, Formatted, format}
use Rattle.cases.specs.Text.{Bytes, ascii}
use Rattle.resolution.specs.Case.{a_message, a_term, say, put, choice, numbered, default, var, numeral, call, whole, lent}
use Rattle.cases.specs.Case.{stored, computed}

-- A bundle with NUMBER and four messages: `a = Hello`, `v = { $n }`, `s = { { $n } -> [1] x *[o] y }`, `f = { NUMBER(5, minimumFractionDigits: 20) }`; and
-- a term `-t = T`.
unfoldable pub messages : List Entry
messages =
    a_message "a" (say "Hello" no_more)
    ∷ a_message "v" (put (var "n") no_more)
    ∷ a_message "s" (choice (nested (inline (var "n"))) (numbered "1" (say "x" no_more) (default "o" (say "y" no_more) no_variant)) no_more)
    ∷ a_message "f" (put (call "NUMBER" (and (numeral "5") no_inline) ((ascii "minimumFractionDigits", Literal.number (ascii "20")) ∷ [])) no_more)
    ∷ a_term "t" (say "T" no_more)
    ∷ []

unfoldable pub bundle_of : Bytes
bundle_of = stored (Item.plain messages ∷ Item.function (ascii "NUMBER") ∷ [])

unfoldable pub no_arguments : Bytes
no_arguments = enc_arguments_image []

-- n is 10, a number of two bytes of text
unfoldable pub ten : Bytes
ten = enc_arguments_image (whole "n" 10 ∷ [])

-- three buffers of such lengths, no byte of them zero
unfoldable pub lengths : ℕ → ℕ → ℕ → Buffers
lengths t l w = record { text = replicate t 0xAA; list = replicate l 0xBB; work = replicate w 0xCC }

-- "all these change nothing"
unfoldable pub unchanged : ℕ → Buffers → Formatted
unchanged n b = record { answer = refused_before n; buffers = b }

-- "These fill text, list and workspace with zeros."
unfoldable pub cleared : ℕ → ℕ → ℕ → ℕ → Formatted
cleared n t l w = record { answer = refused_running n; buffers = record { text = replicate t 0; list = replicate l 0; work = replicate w 0 } }

-- Format: "4; 8; 11 no such message; 12 no such value or attribute; 13 malformed arguments; 7 list buffer under 5 bytes", and 19 "directly after 13". Where two apply, the one that
-- stands first in this list is the answer: each call below is also refused for every later reason that it can be.
pub record FormatRefusals : Type 0 where
  -- a slice of no byte; an item count that the store has not
  pub empty_slice : format [] [] none [] (lengths 0 4 0) ≡ unchanged 4 (lengths 0 4 0)
  pub short_store : format (0 ∷ 0 ∷ 0 ∷ 9 ∷ 1 ∷ 0 ∷ 1 ∷ 0 ∷ 1 ∷ []) (ascii "a") none no_arguments lent ≡ unchanged 4 lent
  -- the message id, or the attribute, is no Id
  pub bad_message : format bundle_of (ascii "1") none [] (lengths 0 4 0) ≡ unchanged 8 (lengths 0 4 0)
  pub bad_attribute : format bundle_of (ascii "zz") (some []) [] (lengths 0 4 0) ≡ unchanged 8 (lengths 0 4 0)
  -- nothing of that name; a term; a function
  pub no_message : format bundle_of (ascii "zz") (some (ascii "x")) [] (lengths 0 4 0) ≡ unchanged 11 (lengths 0 4 0)
  pub term_no_message : format bundle_of (ascii "t") none [] (lengths 0 4 0) ≡ unchanged 11 (lengths 0 4 0)
  pub function_no_message : format bundle_of (ascii "NUMBER") none [] (lengths 0 4 0) ≡ unchanged 11 (lengths 0 4 0)
  pub no_attribute : format bundle_of (ascii "a") (some (ascii "x")) [] (lengths 0 4 0) ≡ unchanged 12 (lengths 0 4 0)
  pub bad_arguments : format bundle_of (ascii "a") none [] (lengths 0 4 0) ≡ unchanged 13 (lengths 0 4 0)
  pub bad_order : format bundle_of (ascii "a") none (enc_arguments_image (whole "n" 1 ∷ whole "m" 1 ∷ [])) (lengths 0 4 0) ≡ unchanged 19 (lengths 0 4 0)
  pub short_list : format bundle_of (ascii "a") none no_arguments (lengths 0 4 0) ≡ unchanged 7 (lengths 0 4 0)
  -- "15 the next write passes the text buffer": `Hello` in 5 bytes, and not in 4
  pub text_fits : format bundle_of (ascii "a") none no_arguments (lengths 5 5 0) ≡ record {
    answer = finished 5 0 0 0 0;
    buffers = record { text = ascii "Hello"; list = 0 ∷ 0 ∷ 0 ∷ 5 ∷ 1 ∷ []; work = [] };
  }
  pub text_full : format bundle_of (ascii "a") none no_arguments (lengths 4 5 3) ≡ cleared 15 4 5 3
  -- "7 the next record passes the list buffer": Reference variable n takes 13 bytes with the header; it is met before the text
  pub list_full : format bundle_of (ascii "v") none no_arguments (lengths 0 12 3) ≡ cleared 7 0 12 3
  pub list_fits_text_full : format bundle_of (ascii "v") none no_arguments (lengths 3 13 3) ≡ cleared 15 3 13 3
  -- "16 the next write passes the workspace": the selector's text `10`, met before the variant's
  pub work_full : format bundle_of (ascii "s") none ten (lengths 0 5 1) ≡ cleared 16 0 5 1
  pub work_fits : format bundle_of (ascii "s") none ten (lengths 1 5 2) ≡ record {
    answer = finished 1 0 1 0 2;
    buffers = record { text = ascii "y"; list = 0 ∷ 0 ∷ 0 ∷ 5 ∷ 1 ∷ []; work = 0 ∷ 0 ∷ [] };
  }
  -- "17 a merged minimumFractionDigits above 19, met at the merge": before the text
  pub too_many_digits : format bundle_of (ascii "f") none no_arguments (lengths 0 5 3) ≡ cleared 17 0 5 3

pub format_refusals : FormatRefusals
unfolding computed messages bundle_of no_arguments ten lengths unchanged cleared
format_refusals = record {
  empty_slice = refl;
  short_store = refl;
  bad_message = refl;
  bad_attribute = refl;
  no_message = refl;
  term_no_message = refl;
  function_no_message = refl;
  no_attribute = refl;
  bad_arguments = refl;
  bad_order = refl;
  short_list = refl;
  text_fits = refl;
  text_full = refl;
  list_full = refl;
  list_fits_text_full = refl;
  work_full = refl;
  work_fits = refl;
  too_many_digits = refl;
}

-- the image of `a = Hello`, 28 bytes
unfoldable pub hello_image : Bytes
hello_image = enc_resource (a_message "a" (say "Hello" no_more) ∷ [])

-- a new bundle in a slice of n bytes
unfoldable pub new_in : ℕ → Bytes
new_in n = (new_bundle (replicate n 0xDD) 0 1).slice

-- "Nothing changes."
unfoldable pub refusal : ℕ → Bytes → Bytes → Added
refusal n s l = record { answer = bundle.refused n; slice = s; list = l }

-- New bundle: "1 slice under 9 bytes; 2 locale above 3; 3 isolating byte above 1". Add resource: "4 malformed store; 5 malformed image; 6 used length plus
-- item above the slice; 7 (plain) list buffer too short". Add function: "4; 8 not an Id; 9 code not 1; 10 the id has an entry; 6".
pub record AdditionRefusals : Type 0 where
  pub short_slice : new_bundle (replicate 8 0xDD) 4 2 ≡ refusal 1 (replicate 8 0xDD) []
  pub bad_locale : new_bundle (replicate 9 0xDD) 4 2 ≡ refusal 2 (replicate 9 0xDD) []
  pub bad_isolating : new_bundle (replicate 9 0xDD) 3 2 ≡ refusal 3 (replicate 9 0xDD) []
  pub resource_bad_store : add_resource (replicate 9 0xDD) [] [] ≡ refusal 4 (replicate 9 0xDD) []
  pub resource_bad_image : add_resource (new_in 9) [] [] ≡ refusal 5 (new_in 9) []
  pub resource_no_room : add_resource (new_in 37) hello_image [] ≡ refusal 6 (new_in 37) []
  pub resource_no_list : add_resource (new_in 38) hello_image (replicate 4 0xBB) ≡ refusal 7 (new_in 38) (replicate 4 0xBB)
  pub overriding_bad_store : add_resource_overriding (replicate 9 0xDD) [] ≡ refusal 4 (replicate 9 0xDD) []
  pub overriding_bad_image : add_resource_overriding (new_in 9) [] ≡ refusal 5 (new_in 9) []
  pub overriding_no_room : add_resource_overriding (new_in 37) hello_image ≡ refusal 6 (new_in 37) []
  pub function_bad_store : add_function (replicate 9 0xDD) [] 2 ≡ refusal 4 (replicate 9 0xDD) []
  pub function_bad_id : add_function (new_in 9) [] 2 ≡ refusal 8 (new_in 9) []
  pub function_bad_code : add_function bundle_of (ascii "NUMBER") 2 ≡ refusal 9 bundle_of []
  pub function_has_entry : add_function bundle_of (ascii "t") 1 ≡ refusal 10 bundle_of []
  pub function_no_room : add_function (new_in 23) (ascii "NUMBER") 1 ≡ refusal 6 (new_in 23) []

pub addition_refusals : AdditionRefusals
unfolding computed messages bundle_of hello_image new_in refusal
addition_refusals = record {
  short_slice = refl;
  bad_locale = refl;
  bad_isolating = refl;
  resource_bad_store = refl;
  resource_bad_image = refl;
  resource_no_room = refl;
  resource_no_list = refl;
  overriding_bad_store = refl;
  overriding_bad_image = refl;
  overriding_no_room = refl;
  function_bad_store = refl;
  function_bad_id = refl;
  function_bad_code = refl;
  function_has_entry = refl;
  function_no_room = refl;
}
