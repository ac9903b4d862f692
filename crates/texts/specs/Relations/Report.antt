-- Error records appended to a list.
use Rattle.std.specs.Prelude.{ℕ, ◌+◌, Bool, ◌&&◌, List, [], ◌∷◌, ◌++◌, length, leb, ltb}
use Rattle.records.specs.Bytes.{to_be}
use Rattle.records.specs.Images as images
use Rattle.records.specs.Errors as errors
use Rattle.records.specs.Errors.{Error, enc_error, list_header}
use Rattle.decimals.specs.Bytes.{given}
use Rattle.buffers.specs.Relations.Append.{over, attempt, Wrote}
use Rattle.std.proofs.Math.Option.{Option, none, some}
use Rattle.texts.specs.declared.errors.Kind.{Kind}
use Rattle.texts.specs.declared.errors.Kind.TheVariants as kind
use Rattle.texts.specs.declared.errors.Referred.{Referred}
use Rattle.texts.specs.declared.errors.Referred.TheVariants as referred
use Rattle.texts.specs.declared.errors.Plain.{Plain}
use Rattle.texts.specs.declared.errors.Plain.TheVariants as plain

-- what the enums of the code stand for
unfoldable pub kind_of : Kind → images.Kind
kind_of kind.Message = images.Kind.message
kind_of kind.Term = images.Kind.term

unfoldable pub referred_of : Referred → errors.Referred
referred_of referred.Message = errors.Referred.message
referred_of referred.Term = errors.Referred.term
referred_of referred.Function = errors.Referred.function
referred_of referred.Variable = errors.Referred.variable

unfoldable pub plain_of : Plain → Error
plain_of plain.MissingDefault = Error.missing_default
plain_of plain.Cyclic = Error.cyclic
plain_of plain.TooManyPlaceables = Error.too_many_placeables

-- Is there room in a list of `size` bytes, at a position, for a record of n bytes, its length among them? A record's length is a u16 that counts
-- the rest, and the list's a u32: a record of more than 65,537 bytes cannot be written, and none that ends past 4,294,967,295.
unfoldable pub room_for : ℕ → ℕ → ℕ → Bool
room_for size at n = leb n 65537 && (leb (at + n) 4294967295 && leb (at + n) size)

-- how many bytes an attribute takes with its Flag: 65,538, more than a record has, where its length is no u16
unfoldable pub attribute_len : Option (List ℕ) → ℕ
attribute_len (some a) = given (ltb 65535 (length a)) 65538 (3 + length a)
attribute_len none = 1

-- "the next record passes the list buffer" (7): where it does not, it is written
unfoldable pub recorded : List ℕ → ℕ → Error → Wrote × List ℕ
recorded d at e = attempt (room_for (length d) at (length (enc_error e))) d at (enc_error e)

-- an error list's header, for a whole length: u32 whole length, version 1
unfoldable pub header : ℕ → List ℕ
header whole = to_be 4 whole ++ (1 ∷ [])

-- the header at the front of a list, if it has room and the length is a u32
unfoldable pub headed : List ℕ → ℕ → List ℕ
headed d whole = given (leb list_header (length d) && ltb whole 4294967296) (over d 0 (header whole)) d
