-- Document 01, "Sentences to reproduce": the lines marked P, "the cases proved as a group, in one theorem of the definitions". Each definition is one
-- case, in the document's order, with the document's line above it. Here they hold of formatting from the bundle as it is read; the crate `cases` holds
-- them from bytes.
use Rattle.std.specs.Prelude.{refl, [], ◌∷◌, ◌++◌, ℕ, zero, suc, replicate}
use Rattle.records.specs.Tree.{Literal, Elements, no_more, no_inline, and, no_variant}
use Rattle.decimals.specs.Ascii.{ascii}
use Rattle.resolution.specs.Case.{⟨, ⟩, a_message, a_term, say, put, choice, numbered, default, var, quoted, numeral, ref, term_ref, call, whole, Case, no_errors, Formats, computed}

-- `a = Hello`: Hello.
unfoldable pub hello : Case
hello = record {
  entries = a_message "a" (say "Hello" no_more) ∷ [];
  message = ascii "a";
  arguments = [];
  text = ascii "Hello";
  list = no_errors;
  errors = 0;
  begun = 0;
  unfound = 0;
  work = 0;
}

-- `a = { $n } whales`, n 3: ⟨3⟩ whales; begun 1.
unfoldable pub whales : Case
whales = record {
  entries = a_message "a" (put (var "n") (say " whales" no_more)) ∷ [];
  message = ascii "a";
  arguments = whole "n" 3 ∷ [];
  text = ⟨ ++ ascii "3" ++ ⟩ ++ ascii " whales";
  list = no_errors;
  errors = 0;
  begun = 1;
  unfound = 0;
  work = 0;
}

-- Without n: ⟨{$n}⟩ whales.
unfoldable pub whales_without : Case
whales_without = record {
  entries = a_message "a" (put (var "n") (say " whales" no_more)) ∷ [];
  message = ascii "a";
  arguments = [];
  text = ⟨ ++ ascii "{$n}" ++ ⟩ ++ ascii " whales";
  list = 0x00 ∷ 0x00 ∷ 0x00 ∷ 0x0D ∷ 0x01 ∷ 0x00 ∷ 0x06 ∷ 0x02 ∷ 0x04 ∷ 0x00 ∷ 0x01 ∷ 0x6E ∷ 0x00 ∷ [];
  errors = 1;
  begun = 1;
  unfound = 0;
  work = 0;
}

-- `a = { $n }`, no n: {$n}; unfound 0; list 00 00 00 0D 01 00 06 02 04 00 01 6E 00.
unfoldable pub lone : Case
lone = record {
  entries = a_message "a" (put (var "n") no_more) ∷ [];
  message = ascii "a";
  arguments = [];
  text = ascii "{$n}";
  list = 0x00 ∷ 0x00 ∷ 0x00 ∷ 0x0D ∷ 0x01 ∷ 0x00 ∷ 0x06 ∷ 0x02 ∷ 0x04 ∷ 0x00 ∷ 0x01 ∷ 0x6E ∷ 0x00 ∷ [];
  errors = 1;
  begun = 1;
  unfound = 0;
  work = 0;
}

-- `a = x { a }`: x {a}; Cyclic.
unfoldable pub itself : Case
itself = record {
  entries = a_message "a" (say "x " (put (ref "a") no_more)) ∷ [];
  message = ascii "a";
  arguments = [];
  text = ascii "x {a}";
  list = 0x00 ∷ 0x00 ∷ 0x00 ∷ 0x08 ∷ 0x01 ∷ 0x00 ∷ 0x01 ∷ 0x05 ∷ [];
  errors = 1;
  begun = 1;
  unfound = 0;
  work = 0;
}

-- `a = { -t } { $n }`, `-t = { $n }`, n 2: {$n} ⟨2⟩; no error; begun 3.
unfoldable pub term_first : Case
term_first = record {
  entries = a_message "a" (put (term_ref "t") (say " " (put (var "n") no_more))) ∷ a_term "t" (put (var "n") no_more) ∷ [];
  message = ascii "a";
  arguments = whole "n" 2 ∷ [];
  text = ascii "{$n} " ++ ⟨ ++ ascii "2" ++ ⟩;
  list = no_errors;
  errors = 0;
  begun = 3;
  unfound = 0;
  work = 0;
}

-- `a = { -t }`, `-t = { -u }{ $n }`, `-u = u`, n 2: u⟨2⟩.
unfoldable pub term_in_term : Case
term_in_term = record {
  entries = a_message "a" (put (term_ref "t") no_more) ∷ a_term "t" (put (term_ref "u") (put (var "n") no_more)) ∷ a_term "u" (say "u" no_more) ∷ [];
  message = ascii "a";
  arguments = whole "n" 2 ∷ [];
  text = ascii "u" ++ ⟨ ++ ascii "2" ++ ⟩;
  list = no_errors;
  errors = 0;
  begun = 3;
  unfound = 0;
  work = 0;
}

-- `a = { NUMBER(5, minimumFractionDigits: 0) }`: document 02, "the case `5.` becomes `5`".
unfoldable pub five_no_dot : Case
five_no_dot = record {
  entries = a_message "a" (put (call "NUMBER" (and (numeral "5") no_inline) ((ascii "minimumFractionDigits", Literal.number (ascii "0")) ∷ [])) no_more) ∷ [];
  message = ascii "a";
  arguments = [];
  text = ascii "5";
  list = no_errors;
  errors = 0;
  begun = 1;
  unfound = 0;
  work = 0;
}

-- `a = { NUMBER($m) }`, no m: NUMBER() without braces; Reference variable m.
unfoldable pub number_of_none : Case
number_of_none = record {
  entries = a_message "a" (put (call "NUMBER" (and (var "m") no_inline) []) no_more) ∷ [];
  message = ascii "a";
  arguments = [];
  text = ascii "NUMBER()";
  list = 0x00 ∷ 0x00 ∷ 0x00 ∷ 0x0D ∷ 0x01 ∷ 0x00 ∷ 0x06 ∷ 0x02 ∷ 0x04 ∷ 0x00 ∷ 0x01 ∷ 0x6D ∷ 0x00 ∷ [];
  errors = 1;
  begun = 1;
  unfound = 0;
  work = 0;
}

-- `a = { F() }`: {F()}; unfound 1.
unfoldable pub no_function : Case
no_function = record {
  entries = a_message "a" (put (call "F" no_inline []) no_more) ∷ [];
  message = ascii "a";
  arguments = [];
  text = ascii "{F()}";
  list = 0x00 ∷ 0x00 ∷ 0x00 ∷ 0x0D ∷ 0x01 ∷ 0x00 ∷ 0x06 ∷ 0x02 ∷ 0x03 ∷ 0x00 ∷ 0x01 ∷ 0x46 ∷ 0x00 ∷ [];
  errors = 1;
  begun = 1;
  unfound = 1;
  work = 0;
}

-- `a = { $n -> [1.0] x *[o] y }`, n 1: y.
unfoldable pub one_dot_zero : Case
one_dot_zero = record {
  entries = a_message "a" (choice (var "n") (numbered "1.0" (say "x" no_more) (default "o" (say "y" no_more) no_variant)) no_more) ∷ [];
  message = ascii "a";
  arguments = whole "n" 1 ∷ [];
  text = ascii "y";
  list = no_errors;
  errors = 0;
  begun = 1;
  unfound = 0;
  work = 0;
}

-- n elements `{ "w" }`; 0x77 is w
unfoldable pub ws : ℕ → Elements
ws zero = no_more
ws (suc n) = put (quoted "w") (ws n)

-- 100 elements `{ "w" }`: 100 w, no error.
unfoldable pub hundred : Case
hundred = record {
  entries = a_message "a" (ws 100) ∷ [];
  message = ascii "a";
  arguments = [];
  text = replicate 100 0x77;
  list = no_errors;
  errors = 0;
  begun = 100;
  unfound = 0;
  work = 0;
}

-- 101: 100 w, TooManyPlaceables.
unfoldable pub hundred_one : Case
hundred_one = record {
  entries = a_message "a" (ws 101) ∷ [];
  message = ascii "a";
  arguments = [];
  text = replicate 100 0x77;
  list = 0x00 ∷ 0x00 ∷ 0x00 ∷ 0x08 ∷ 0x01 ∷ 0x00 ∷ 0x01 ∷ 0x06 ∷ [];
  errors = 1;
  begun = 101;
  unfound = 0;
  work = 0;
}

-- the lines marked P, of formatting
pub record PFormats : Type 0 where
  pub hello_formats : Formats hello
  pub whales_formats : Formats whales
  pub whales_without_formats : Formats whales_without
  pub lone_formats : Formats lone
  pub itself_formats : Formats itself
  pub term_first_formats : Formats term_first
  pub term_in_term_formats : Formats term_in_term
  pub five_no_dot_formats : Formats five_no_dot
  pub number_of_none_formats : Formats number_of_none
  pub no_function_formats : Formats no_function
  pub one_dot_zero_formats : Formats one_dot_zero
  pub hundred_formats : Formats hundred
  pub hundred_one_formats : Formats hundred_one

pub p_formats : PFormats
unfolding computed ws hello whales whales_without lone itself term_first term_in_term five_no_dot number_of_none no_function one_dot_zero hundred hundred_one
p_formats = record {
  hello_formats = refl;
  whales_formats = refl;
  whales_without_formats = refl;
  lone_formats = refl;
  itself_formats = refl;
  term_first_formats = refl;
  term_in_term_formats = refl;
  five_no_dot_formats = refl;
  number_of_none_formats = refl;
  no_function_formats = refl;
  one_dot_zero_formats = refl;
  hundred_formats = refl;
  hundred_one_formats = refl;
}
