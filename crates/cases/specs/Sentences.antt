-- Document 01, "Sentences to reproduce": the lines marked P, "the cases proved as a group, in one theorem of the definitions", from bytes to bytes. Each
-- case stands in `resolution`, specs/Sentences.
use Rattle.std.specs.Prelude.{◌≡◌, refl, [], ◌∷◌}
use Rattle.records.specs.Encode.{enc_resource}
use Rattle.bundle.specs.Additions.{done, new_bundle}
use Rattle.resolution.specs.Sentences.{hello, whales, whales_without, lone, itself, term_first, term_in_term, five_no_dot, number_of_none, no_function, one_dot_zero, ws, hundred, hundred_one}
use Rattle.cases.specs.Case.{lent_slice, stored, Holds, computed}

-- The lines marked P. Before them, the bundle that each starts from, and the first one's image: "in hexadecimal: 00 00 00 1C 01 00 01 …".
pub record PCases : Type 0 where
  pub a_new_bundle : new_bundle lent_slice 0 1 ≡ record { answer = done 0; slice = stored []; list = [] }
  pub hello_image : enc_resource hello.entries ≡ 0x00 ∷ 0x00 ∷ 0x00 ∷ 0x1C ∷ 0x01 ∷ 0x00 ∷ 0x01 ∷ 0x01 ∷ 0x00 ∷ 0x01 ∷ 0x61 ∷ 0x01 ∷ 0x00 ∷ 0x00 ∷ 0x00 ∷ 0x0A ∷ 0x00 ∷ 0x01 ∷ 0x01 ∷ 0x00 ∷ 0x05 ∷ 0x48 ∷ 0x65 ∷ 0x6C ∷ 0x6C ∷ 0x6F ∷ 0x00 ∷ 0x00 ∷ []
  pub hello_holds : Holds hello
  pub whales_holds : Holds whales
  pub whales_without_holds : Holds whales_without
  pub lone_holds : Holds lone
  pub itself_holds : Holds itself
  pub term_first_holds : Holds term_first
  pub term_in_term_holds : Holds term_in_term
  pub five_no_dot_holds : Holds five_no_dot
  pub number_of_none_holds : Holds number_of_none
  pub no_function_holds : Holds no_function
  pub one_dot_zero_holds : Holds one_dot_zero
  pub hundred_holds : Holds hundred
  pub hundred_one_holds : Holds hundred_one

pub p_cases : PCases
unfolding computed hello whales whales_without lone itself term_first term_in_term five_no_dot number_of_none no_function one_dot_zero ws hundred hundred_one
p_cases = record {
  a_new_bundle = refl;
  hello_image = refl;
  hello_holds = refl;
  whales_holds = refl;
  whales_without_holds = refl;
  lone_holds = refl;
  itself_holds = refl;
  term_first_holds = refl;
  term_in_term_holds = refl;
  five_no_dot_holds = refl;
  number_of_none_holds = refl;
  no_function_holds = refl;
  one_dot_zero_holds = refl;
  hundred_holds = refl;
  hundred_one_holds = refl;
}
