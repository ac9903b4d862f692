-- The refusals about arguments, each in its place: "13 malformed arguments", 19 "directly after 13", "7 list buffer under 5 bytes". Each call below is
-- also refused for every later reason that it can be.
use Rattle.std.specs.Prelude.{◌≡◌, refl, [], ◌∷◌, ◌++◌, true}
use Rattle.std.proofs.Math.Option.{none}
use Rattle.decimals.specs.Ascii.{ascii}
use Rattle.records.specs.Got.{got}
use Rattle.records.specs.Tree.{no_more}
use Rattle.records.specs.Images.{Item, Argument}
use Rattle.records.specs.Encode.{enc_arguments_image}
use Rattle.resolution.specs.Effect.{Bytes}
use Rattle.resolution.specs.Format.{Buffers, Formatted, refuse, format_store}
use Rattle.resolution.specs.Case.{a_message, say, whole, filled, computed}

-- a list buffer of 4 bytes
unfoldable pub short_list : Buffers
short_list = record { text = filled 120 0xAA []; list = filled 4 0xBB []; work = [] }

-- the message `a = Hello`, with an arguments image
unfoldable pub hello : Bytes → Formatted
hello image = format_store (got (record { locale = 0; isolating = true; items = Item.plain (a_message "a" (say "Hello" no_more) ∷ []) ∷ [] }) 0) (ascii "a") none image short_list

pub record ArgumentsRefused : Type 0 where
  -- a byte behind names that do not ascend; the names; a scale that is not the least; and the list alone, which is too short
  pub malformed : hello (enc_arguments_image (whole "n" 1 ∷ whole "m" 1 ∷ []) ++ (0 ∷ [])) ≡ refuse 13 short_list
  pub names : hello (enc_arguments_image (whole "n" 1 ∷ whole "m" 1 ∷ [])) ≡ refuse 19 short_list
  pub scale : hello (enc_arguments_image (whole "m" 1 ∷ (ascii "n", Argument.number true 0 14) ∷ [])) ≡ refuse 19 short_list
  pub list : hello (enc_arguments_image (whole "m" 1 ∷ whole "n" 1 ∷ [])) ≡ refuse 7 short_list

pub arguments_refused : ArgumentsRefused
unfolding computed short_list hello
arguments_refused = record { malformed = refl; names = refl; scale = refl; list = refl }
