-- The workspace figure, by computing: what document 01 says of the workspace, as messages `a` and the bytes that each needs.
use Rattle.std.specs.Prelude.{◌≡◌, refl, List, [], ◌∷◌, true, ℕ}
use Rattle.std.proofs.Math.Option.{Option, none, some}
use Rattle.decimals.specs.Ascii.{ascii}
use Rattle.records.specs.Got.{got}
use Rattle.records.specs.Tree.{Literal, Elements, no_more, inline, Inline, nested, with_arguments, no_inline, and, no_variant}
use Rattle.records.specs.Images.{Entry, Item, Argument}
use Rattle.records.specs.Encode.{enc_arguments_image}
use Rattle.resolution.specs.Effect.{Bytes}
use Rattle.resolution.specs.Format.{Answer, finished, refused_before, refused_running, format_store}
use Rattle.resolution.specs.Case.{a_message, a_term, say, put, choice, named, default, var, quoted, numeral, ref, call, whole, lent, computed}

-- the figure of an answer, where it has one
unfoldable pub figure_of : Answer → Option ℕ
figure_of (finished t e k u w) = some w
figure_of (refused_before n) = none
figure_of (refused_running n) = none

-- the figure of `a = …`, beside other entries, in English, isolating, NUMBER added, in a workspace of 16 bytes
unfoldable pub figure : Elements → List Entry → List (Bytes × Argument) → Option ℕ
figure a es args =
    figure_of (format_store (got (record { locale = 0; isolating = true; items = Item.plain (a_message "a" a ∷ es) ∷ Item.function (ascii "NUMBER") ∷ [] }) 0) (ascii "a") none (enc_arguments_image args) lent).answer

-- `b = bb`, `c = ccc`
unfoldable pub two : Entry
two = a_message "b" (say "bb" no_more)

unfoldable pub three : Entry
three = a_message "c" (say "ccc" no_more)

-- `"\u0041b"`, which reads as Ab
unfoldable pub escaped : Bytes
escaped = 92 ∷ ascii "u0041b"

-- `-t(n: "\u0041b")`
unfoldable pub escaped_term : Inline
escaped_term = Inline.term (ascii "t") none (with_arguments no_inline ((ascii "n", Literal.string escaped) ∷ []))

-- `… -> *[o] y`
unfoldable pub either : Inline → Elements → Elements
either x es = choice x (default "o" (say "y" no_more) no_variant) es

pub record Figures : Type 0 where
  -- what goes there: as selector or argument, a message, a term (`term_keeps`, `positional`), an inline placeable, a string literal with a backslash
  pub message : figure (either (ref "c") no_more) (three ∷ []) [] ≡ some 3
  pub argument : figure (put (call "NUMBER" (and (ref "c") no_inline) []) no_more) (three ∷ []) [] ≡ some 3
  pub inline_placeable : figure (either (nested (inline (var "n"))) no_more) [] (whole "n" 1234 ∷ []) ≡ some 4
  pub backslash : figure (either (Inline.string escaped) no_more) [] [] ≡ some 2
  pub option : figure (put (call "NUMBER" no_inline ((ascii "o", Literal.string escaped) ∷ [])) no_more) [] [] ≡ some 2
  -- and what does not: written out, a message; other literals, numbers, variables, what a function gives
  pub written : figure (put (ref "c") no_more) (three ∷ []) [] ≡ some 0
  pub others : figure (put (call "NUMBER" (and (quoted "s") (and (numeral "5") (and (var "n") (and (var "s") (and (call "NUMBER" (and (numeral "7") no_inline) []) no_inline))))) []) no_more) [] (whole "n" 1 ∷ (ascii "s", Argument.string (ascii "text")) ∷ []) ≡ some 0
  -- "A text still being made stands at the front, above the one it interrupts": bb and a mark are being made when the seven digits are
  pub interrupted : figure (put (call "NUMBER" (and (ref "b") no_inline) []) no_more) (a_message "b" (say "bb" (either (nested (inline (var "n"))) no_more)) ∷ []) (whole "n" 1234567 ∷ []) ≡ some 12
  -- "once made, it moves to the back, below those still alive there. Use is the bytes of both": bb and ccc are a call's arguments
  pub together : figure (put (call "NUMBER" (and (ref "b") (and (ref "c") no_inline)) []) no_more) (two ∷ three ∷ []) [] ≡ some 5
  -- "A selector's text is freed when its variant, or none, is chosen": bb, then ccc
  pub selector_freed : figure (choice (ref "b") (default "o" (either (ref "c") no_more) no_variant) no_more) (two ∷ three ∷ []) [] ≡ some 3
  pub none_chosen : figure (choice (ref "b") (named "k" (say "x" no_more) no_variant) (either (ref "c") no_more)) (two ∷ three ∷ []) [] ≡ some 3
  -- "a function's arguments once its result, or that it is missing, is known": bb are gone when ccc are made
  pub call_freed : figure (put (call "NUMBER" (and (call "NUMBER" (and (ref "b") no_inline) []) (and (ref "c") no_inline)) []) no_more) (two ∷ three ∷ []) [] ≡ some 3
  -- "whether that is then written, chosen by or passed on": ccc are gone when {F()} is written into b's text
  pub call_written : figure (either (ref "b") no_more) (a_message "b" (put (call "F" (and (ref "c") no_inline) []) no_more) ∷ three ∷ []) [] ≡ some 5
  -- "a term's when all its text is written": Ab, or bb, is alive while ttt is made, and a positional argument stays too
  pub term_keeps : figure (either escaped_term no_more) (a_term "t" (say "ttt" no_more) ∷ []) [] ≡ some 5
  pub positional : figure (either (Inline.term (ascii "t") none (with_arguments (and (ref "b") no_inline) [])) no_more) (a_term "t" (say "ttt" no_more) ∷ two ∷ []) [] ≡ some 5
  -- and no longer: ccc with {-t}, the text of a term that is missing, then {-t} with bb
  pub lost_term : figure (put (call "NUMBER" (and (Inline.term (ascii "t") none (with_arguments (and (ref "c") no_inline) [])) (and (ref "b") no_inline)) []) no_more) (two ∷ three ∷ []) [] ≡ some 7
  -- of a term that is written out: Ab with bb, which is made in it, then ccc
  pub term_written : figure (put escaped_term (either (ref "c") no_more)) (a_term "t" (either (ref "b") no_more) ∷ two ∷ three ∷ []) [] ≡ some 4
  -- "A string value is not copied": a selector that names a term's argument has that text, and frees nothing: Ab, then y
  pub shared : figure (either escaped_term no_more) (a_term "t" (either (var "n") no_more) ∷ []) [] ≡ some 3

pub figures : Figures
unfolding computed figure_of figure two three escaped escaped_term either
figures = record {
  message = refl;
  argument = refl;
  inline_placeable = refl;
  backslash = refl;
  option = refl;
  written = refl;
  others = refl;
  interrupted = refl;
  together = refl;
  selector_freed = refl;
  none_chosen = refl;
  call_freed = refl;
  call_written = refl;
  term_keeps = refl;
  positional = refl;
  lost_term = refl;
  term_written = refl;
  shared = refl;
}
