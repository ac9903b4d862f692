-- Document 01, "Misreadings", and a sentence that carries no P: each as a case.
use Rattle.std.specs.Prelude.{refl, [], ◌∷◌, ◌++◌, replicate}
use Rattle.std.proofs.Math.Option.{none}
use Rattle.decimals.specs.Ascii.{ascii}
use Rattle.records.specs.Tree.{Literal, no_more, inline, Inline, nested, with_arguments, no_inline, no_variant}
use Rattle.resolution.specs.Case.{⟨, ⟩, a_message, a_term, say, put, choice, named, numbered, default, var, quoted, ref, term_ref, call, whole, Case, no_errors, Formats, computed}
use Rattle.resolution.specs.Sentences.{ws}

-- "Isolating a lone element": `a = { $n }`, n 3: 3.
unfoldable pub alone_bare : Case
alone_bare = record {
  entries = a_message "a" (put (var "n") no_more) ∷ [];
  message = ascii "a";
  arguments = whole "n" 3 ∷ [];
  text = ascii "3";
  list = no_errors;
  errors = 0;
  begun = 1;
  unfound = 0;
  work = 0;
}

-- "or a direct message, term or string literal": `a = x{ b }{ -t }{ "s" }{ $n }`, `b = B`, `-t = T`, n 1: xBTs⟨1⟩.
unfoldable pub direct_bare : Case
direct_bare = record {
  entries = a_message "a" (say "x" (put (ref "b") (put (term_ref "t") (put (quoted "s") (put (var "n") no_more))))) ∷ a_message "b" (say "B" no_more) ∷ a_term "t" (say "T" no_more) ∷ [];
  message = ascii "a";
  arguments = whole "n" 1 ∷ [];
  text = ascii "xBTs" ++ ⟨ ++ ascii "1" ++ ⟩;
  list = no_errors;
  errors = 0;
  begun = 4;
  unfound = 0;
  work = 0;
}

-- "Restoring outer term arguments after an inner term: the Rust clears them": `a = { -t(n: "in") }`, `-t = { $n }{ -u }{ $n }`, `-u = u`, n 2:
-- ⟨in⟩u⟨2⟩.
unfoldable pub outer_cleared : Case
outer_cleared = record {
  entries = a_message "a" (put (Inline.term (ascii "t") none (with_arguments no_inline ((ascii "n", Literal.string (ascii "in")) ∷ []))) no_more) ∷ a_term "t" (put (var "n") (put (term_ref "u") (put (var "n") no_more))) ∷ a_term "u" (say "u" no_more) ∷ [];
  message = ascii "a";
  arguments = whole "n" 2 ∷ [];
  text = ⟨ ++ ascii "in" ++ ⟩ ++ ascii "u" ++ ⟨ ++ ascii "2" ++ ⟩;
  list = no_errors;
  errors = 0;
  begun = 4;
  unfound = 0;
  work = 0;
}

-- "Listing an error for a missing function in a selector: none is listed": `a = { F() -> *[o] y }`: y; unfound 1.
unfoldable pub selector_missing : Case
selector_missing = record {
  entries = a_message "a" (choice (call "F" no_inline []) (default "o" (say "y" no_more) no_variant) no_more) ∷ [];
  message = ascii "a";
  arguments = [];
  text = ascii "y";
  list = no_errors;
  errors = 0;
  begun = 1;
  unfound = 1;
  work = 0;
}

-- "Taking the selector `{ $n }`, an inline placeable, for a number: it is text": `a = { { $n } -> [1] x [one] z *[o] y }`, n 1: y. Its text, of one
-- byte, was in the workspace.
unfoldable pub selector_text : Case
selector_text = record {
  entries = a_message "a" (choice (nested (inline (var "n"))) (numbered "1" (say "x" no_more) (named "one" (say "z" no_more) (default "o" (say "y" no_more) no_variant))) no_more) ∷ [];
  message = ascii "a";
  arguments = whole "n" 1 ∷ [];
  text = ascii "y";
  list = no_errors;
  errors = 0;
  begun = 1;
  unfound = 0;
  work = 1;
}

-- the same with `$n` for a selector: x, since 1 is the first key's number
unfoldable pub selector_number : Case
selector_number = record {
  entries = a_message "a" (choice (var "n") (numbered "1" (say "x" no_more) (named "one" (say "z" no_more) (default "o" (say "y" no_more) no_variant))) no_more) ∷ [];
  message = ascii "a";
  arguments = whole "n" 1 ∷ [];
  text = ascii "x";
  list = no_errors;
  errors = 0;
  begun = 1;
  unfound = 0;
  work = 0;
}

-- a default stands before the variant that matches: `a = { $n -> *[o] d [1] m }`, n 1: m
unfoldable pub default_first : Case
default_first = record {
  entries = a_message "a" (choice (var "n") (default "o" (say "d" no_more) (numbered "1" (say "m" no_more) no_variant)) no_more) ∷ [];
  message = ascii "a";
  arguments = whole "n" 1 ∷ [];
  text = ascii "m";
  list = no_errors;
  errors = 0;
  begun = 1;
  unfound = 0;
  work = 0;
}

-- a selector's text is freed before the next is made: `a = { { $n } -> *[o] x }{ { $n } -> *[o] y }`, n 10: ⟨x⟩⟨y⟩; never more than two bytes of workspace
unfoldable pub texts_freed : Case
texts_freed = record {
  entries = a_message "a" (choice (nested (inline (var "n"))) (default "o" (say "x" no_more) no_variant) (choice (nested (inline (var "n"))) (default "o" (say "y" no_more) no_variant) no_more)) ∷ [];
  message = ascii "a";
  arguments = whole "n" 10 ∷ [];
  text = ⟨ ++ ascii "x" ++ ⟩ ++ ⟨ ++ ascii "y" ++ ⟩;
  list = no_errors;
  errors = 0;
  begun = 2;
  unfound = 0;
  work = 2;
}

-- `b = { a }`, a the 100: 99 w, then {a}; begun 101.
unfoldable pub through_another : Case
through_another = record {
  entries = a_message "a" (ws 100) ∷ a_message "b" (put (ref "a") no_more) ∷ [];
  message = ascii "b";
  arguments = [];
  text = replicate 99 0x77 ++ ascii "{a}";
  list = 0x00 ∷ 0x00 ∷ 0x00 ∷ 0x08 ∷ 0x01 ∷ 0x00 ∷ 0x01 ∷ 0x06 ∷ [];
  errors = 1;
  begun = 101;
  unfound = 0;
  work = 0;
}

-- the misreadings, of formatting
pub record MisreadingsFormat : Type 0 where
  pub alone_bare_formats : Formats alone_bare
  pub direct_bare_formats : Formats direct_bare
  pub outer_cleared_formats : Formats outer_cleared
  pub selector_missing_formats : Formats selector_missing
  pub selector_text_formats : Formats selector_text
  pub selector_number_formats : Formats selector_number
  pub default_first_formats : Formats default_first
  pub texts_freed_formats : Formats texts_freed
  pub through_another_formats : Formats through_another

pub misreadings_format : MisreadingsFormat
unfolding computed ws alone_bare direct_bare outer_cleared selector_missing selector_text selector_number default_first texts_freed through_another
misreadings_format = record {
  alone_bare_formats = refl;
  direct_bare_formats = refl;
  outer_cleared_formats = refl;
  selector_missing_formats = refl;
  selector_text_formats = refl;
  selector_number_formats = refl;
  default_first_formats = refl;
  texts_freed_formats = refl;
  through_another_formats = refl;
}
