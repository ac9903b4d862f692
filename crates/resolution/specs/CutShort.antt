-- A text that the limit of 100 placeables cuts short inside two isolates: what stands for the expressions that were cut is written, and both isolates are
-- closed.
use Rattle.std.specs.Prelude.{refl, [], ◌∷◌, ◌++◌, ℕ, zero, suc}
use Rattle.decimals.specs.Ascii.{ascii}
use Rattle.records.specs.Tree.{Elements, no_more, no_variant}
use Rattle.resolution.specs.Case.{⟨, ⟩, a_message, say, put, choice, default, quoted, numeral, ref, Case, Formats, computed}

-- n elements `{ "" }`
unfoldable pub empties : ℕ → Elements
empties zero = no_more
empties (suc n) = put (quoted "") (empties n)

-- `a = { 1 -> *[o] x{ 2 -> *[p] { b } } }!`, `b` 98 elements `{ "" }`: ⟨x⟨{b}{???}⟩{???}⟩; TooManyPlaceables; begun 101. Neither the text after the select
-- nor the 101st placeable is written.
unfoldable pub cut_in_isolates : Case
cut_in_isolates = record {
  entries = a_message "a" (choice (numeral "1") (default "o" (say "x" (choice (numeral "2") (default "p" (put (ref "b") no_more) no_variant) no_more)) no_variant) (say "!" no_more)) ∷ a_message "b" (empties 98) ∷ [];
  message = ascii "a";
  arguments = [];
  text = ⟨ ++ ascii "x" ++ ⟨ ++ ascii "{b}{???}" ++ ⟩ ++ ascii "{???}" ++ ⟩;
  list = 0x00 ∷ 0x00 ∷ 0x00 ∷ 0x08 ∷ 0x01 ∷ 0x00 ∷ 0x01 ∷ 0x06 ∷ [];
  errors = 1;
  begun = 101;
  unfound = 0;
  work = 0;
}

pub cut_short_formats : Formats cut_in_isolates
unfolding computed empties cut_in_isolates
cut_short_formats = refl
