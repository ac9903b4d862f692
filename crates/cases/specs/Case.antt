-- Cases from bytes to bytes: the bundle is made by the operations on a lent slice, the images by the encoders. What a case is, and each case, stands in
-- `resolution`.
use Rattle.std.specs.Prelude.{◌≡◌, List, [], ◌∷◌, true}
use Rattle.std.proofs.Math.Option.{none}
use Rattle.records.specs.Images.{Item}
use Rattle.records.specs.Encode.{enc_resource, enc_store, enc_arguments_image}
use Rattle.bundle.specs.Additions.{Added, done, new_bundle, add_resource, add_function}
use Rattle.resolution.specs.Format.{Formatted, format}
use Rattle.resolution.specs.Case as formatting
use Rattle.resolution.specs.Case.{Case, filled, no_errors, lent_list, lent, success, items_of}
use Rattle.cases.specs.Opened.{opened}
use Rattle.cases.specs.Text.{Bytes, ascii}

-- what is lent for the bundle: no byte of it is zero
unfoldable pub lent_slice : Bytes
lent_slice = filled 600 0xDD []

-- what the additions and the formatting leave
pub record Outcome : Type 0 where
  pub resource : Added
  pub function : Added
  pub formatted : Formatted

-- "locale en, isolating on, NUMBER added": a new bundle, the resource, NUMBER, then the formatting
unfoldable pub with_resource : Case → Added
with_resource c = add_resource (new_bundle lent_slice 0 1).slice (enc_resource c.entries) lent_list

unfoldable pub with_number : Case → Added
with_number c = add_function (with_resource c).slice (ascii "NUMBER") 1

unfoldable pub outcome : Case → Outcome
outcome c = record {
  resource = with_resource c;
  function = with_number c;
  formatted = format (with_number c).slice c.message none (enc_arguments_image c.arguments) lent;
}

-- a store of such items in the slice: "an accepted one has put its item after the others"
unfoldable pub stored : List Item → Bytes
stored items = filled 600 0xDD (enc_store (record { locale = 0; isolating = true; items = items }))

unfoldable pub expected : Case → Outcome
expected c = record {
  resource = record { answer = done 0; slice = stored (Item.plain c.entries ∷ []); list = filled 24 0xBB no_errors };
  function = record { answer = done 0; slice = stored (items_of c); list = [] };
  formatted = success c;
}

-- the case holds of the definitions, to the last byte
abbrev pub Holds : Case → Type 0
Holds c = outcome c ≡ expected c

-- all that a case rests on, open
unfoldable pub computed : Unit {0}
unfolding formatting.computed opened lent_slice with_resource with_number outcome stored expected
computed = tt
