-- Document 01, "Misreadings", and the sentences that carry no P, from bytes to bytes. Each case stands in `resolution`, specs/Misreadings.
use Rattle.std.specs.Prelude.{◌≡◌, refl, List, [], ◌∷◌}
use Rattle.std.proofs.Math.Option.{none}
use Rattle.records.specs.Tree.{no_more}
use Rattle.records.specs.Images.{Item}
use Rattle.records.specs.Encode.{enc_resource, enc_arguments_image}
use Rattle.bundle.specs.Additions.{Added, done, new_bundle, add_resource}
use Rattle.resolution.specs.Format.{finished, format}
use Rattle.resolution.specs.Case.{a_message, a_term, say, put, term_ref, filled, lent_list, lent, no_errors}
use Rattle.resolution.specs.Sentences.{ws}
use Rattle.resolution.specs.Misreadings.{alone_bare, direct_bare, outer_cleared, selector_missing, selector_text, selector_number, default_first, texts_freed, through_another}
use Rattle.cases.specs.Text.{ascii}
use Rattle.cases.specs.Case.{lent_slice, stored, Holds, computed}

pub record Misreadings : Type 0 where
  pub alone_bare_holds : Holds alone_bare
  pub direct_bare_holds : Holds direct_bare
  pub outer_cleared_holds : Holds outer_cleared
  pub selector_missing_holds : Holds selector_missing
  pub selector_text_holds : Holds selector_text
  pub selector_number_holds : Holds selector_number
  pub default_first_holds : Holds default_first
  pub texts_freed_holds : Holds texts_freed
  pub through_another_holds : Holds through_another

pub misreadings : Misreadings
unfolding computed ws alone_bare direct_bare outer_cleared selector_missing selector_text selector_number default_first texts_freed through_another
misreadings = record {
  alone_bare_holds = refl;
  direct_bare_holds = refl;
  outer_cleared_holds = refl;
  selector_missing_holds = refl;
  selector_text_holds = refl;
  selector_number_holds = refl;
  default_first_holds = refl;
  texts_freed_holds = refl;
  through_another_holds = refl;
}

-- `foo = x`, then `-foo = y` plain: Overriding; `{ -foo }` gives {-foo}, unfound 0. The second resource has the message `a = { -foo }` too: a bundle that
-- files only its first resource has no such message.
unfoldable pub foo_first : List Item
foo_first = Item.plain (a_message "foo" (say "x" no_more) ∷ []) ∷ []

unfoldable pub foo_both : List Item
foo_both = Item.plain (a_message "foo" (say "x" no_more) ∷ []) ∷ Item.plain (a_term "foo" (say "y" no_more) ∷ a_message "a" (put (term_ref "foo") no_more) ∷ []) ∷ []

unfoldable pub foo_one : Added
foo_one = add_resource (new_bundle lent_slice 0 1).slice (enc_resource (a_message "foo" (say "x" no_more) ∷ [])) lent_list

unfoldable pub foo_two : Added
foo_two = add_resource foo_one.slice (enc_resource (a_term "foo" (say "y" no_more) ∷ a_message "a" (put (term_ref "foo") no_more) ∷ [])) lent_list

pub record FooTwice : Type 0 where
  pub first : foo_one ≡ record { answer = done 0; slice = stored foo_first; list = filled 24 0xBB no_errors }
  -- Overriding, kind term, `foo`
  pub second : foo_two ≡ record { answer = done 1; slice = stored foo_both; list = filled 24 0xBB (0x00 ∷ 0x00 ∷ 0x00 ∷ 0x0E ∷ 0x01 ∷ 0x00 ∷ 0x07 ∷ 0x01 ∷ 0x02 ∷ 0x00 ∷ 0x03 ∷ 0x66 ∷ 0x6F ∷ 0x6F ∷ []) }
  -- Reference, kind term, `foo`
  pub formatted : format foo_two.slice (ascii "a") none (enc_arguments_image []) lent ≡ record {
    answer = finished 6 1 1 0 0;
    buffers = record {
      text = filled 120 0xAA (ascii "{-foo}");
      list = filled 24 0xBB (0x00 ∷ 0x00 ∷ 0x00 ∷ 0x0F ∷ 0x01 ∷ 0x00 ∷ 0x08 ∷ 0x02 ∷ 0x02 ∷ 0x00 ∷ 0x03 ∷ 0x66 ∷ 0x6F ∷ 0x6F ∷ 0x00 ∷ []);
      work = filled 16 0 [];
    };
  }

pub foo_twice : FooTwice
unfolding computed foo_first foo_both foo_one foo_two
foo_twice = record { first = refl; second = refl; formatted = refl }
