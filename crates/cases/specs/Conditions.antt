-- Demand 3 is about plain additions and about formattings that finished with unfound 0. Both conditions are needed: here one addition changes a formatting
-- where the first was unfound 1, and an overriding one changes a formatting that was unfound 0.
use Rattle.std.specs.Prelude.{◌≡◌, refl, [], ◌∷◌}
use Rattle.std.proofs.Math.Option.{none}
use Rattle.records.specs.Tree.{no_more}
use Rattle.records.specs.Encode.{enc_resource, enc_arguments_image}
use Rattle.bundle.specs.Additions.{Added, add_resource_overriding, add_function}
use Rattle.resolution.specs.Format.{finished, Formatted, format}
use Rattle.resolution.specs.Case.{a_message, say, lent, filled}
use Rattle.resolution.specs.Sentences.{hello, no_function}
use Rattle.cases.specs.Text.{ascii}
use Rattle.cases.specs.Case.{with_number, outcome, computed}

-- `a = { F() }`, and F added
unfoldable pub with_function : Added
with_function = add_function (with_number no_function).slice (ascii "F") 1

unfoldable pub function_found : Formatted
function_found = format with_function.slice (ascii "a") none (enc_arguments_image []) lent

-- `a = Hello`, and `a = Bye` added, overriding
unfoldable pub with_other : Added
with_other = add_resource_overriding (with_number hello).slice (enc_resource (a_message "a" (say "Bye" no_more) ∷ []))

unfoldable pub other_said : Formatted
other_said = format with_other.slice (ascii "a") none (enc_arguments_image []) lent

pub record Conditions : Type 0 where
  -- {F()}, one error, unfound 1; then F(), no error, unfound 0
  pub unfound_before : (outcome no_function).formatted.answer ≡ finished 5 1 1 1 0
  pub found_after : function_found.answer ≡ finished 3 0 1 0 0
  pub found_text : function_found.buffers.text ≡ filled 120 0xAA (ascii "F()")
  -- Hello; then Bye
  pub said_before : (outcome hello).formatted.answer ≡ finished 5 0 0 0 0
  pub said_after : other_said.answer ≡ finished 3 0 0 0 0
  pub said_text : other_said.buffers.text ≡ filled 120 0xAA (ascii "Bye")

pub conditions : Conditions
unfolding computed hello no_function with_function function_found with_other other_said
conditions = record {
  unfound_before = refl;
  found_after = refl;
  found_text = refl;
  said_before = refl;
  said_after = refl;
  said_text = refl;
}
