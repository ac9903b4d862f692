-- New bundle and additions: document 01, "What each operation refuses". Each is a function from the lent slices to the answer and what they hold then.
-- An item's bytes and the room for it: `growth`, specs/Items. The entries that repeat an id: `entries`, specs/Repeats.
use Rattle.std.specs.Prelude.{Bool, true, false, not, List, [], ◌∷◌, ℕ, ◌+◌, length, leb, eqb}
use Rattle.records.specs.Got.{Got, got, bad}
use Rattle.rules.specs.Rules.{is_id}
use Rattle.records.specs.Images.{Entry, Store, max_locale, is_some, store_of, resource_of}
use Rattle.records.specs.Encode.{enc_function, enc_store}
use Rattle.records.specs.Errors.{Error, enc_errors}
use Rattle.entries.specs.Lookup.{find_in}
use Rattle.entries.specs.Repeats.{repeats}
use Rattle.growth.specs.Items.{at_front, with_item, has_room}

-- "A refusal's result is its number. An addition's carries its count of Overriding records, 0 for overriding resources and functions."
pub data Answer : Type 0 where
  done : ℕ → Answer
  refused : ℕ → Answer

-- an answer, the bundle's slice and the list buffer afterwards
pub record Added : Type 0 where
  pub answer : Answer
  pub slice : List ℕ
  pub list : List ℕ

abbrev pub Slices : Type 0
Slices = List ℕ × List ℕ

-- "Nothing changes."
unfoldable pub refuse : ℕ → List ℕ → List ℕ → Added
refuse n s l = record { answer = refused n; slice = s; list = l }

unfoldable pub succeed : ℕ → List ℕ → List ℕ → Added
succeed n s l = record { answer = done n; slice = s; list = l }

unfoldable pub or_refuse : Bool → ℕ → List ℕ → List ℕ → Added → Added
or_refuse true n s l a = a
or_refuse false n s l a = refuse n s l

-- "New bundle: 1 slice under 9 bytes; 2 locale above 3; 3 isolating byte above 1. Slice unchanged."
unfoldable pub new_bundle : List ℕ → ℕ → ℕ → Added
new_bundle s locale isolating =
    or_refuse (leb 9 (length s)) 1 s []
    (or_refuse (leb locale max_locale) 2 s []
    (or_refuse (leb isolating 1) 3 s []
    (succeed 0 (at_front (enc_store (record { locale = locale; isolating = eqb isolating 1; items = [] })) s) [])))

-- "7 (plain) list buffer too short for header and records"
unfoldable pub listed : List ℕ → List ℕ → List Error → List ℕ → Added
listed s l errors s' =
    or_refuse (leb (length (enc_errors errors)) (length l)) 7 s l
    (succeed (length errors) s' (at_front (enc_errors errors) l))

-- "Add resource, plain: 4 malformed store; 5 malformed image; 6; 7."
unfoldable pub add_plain_to : List ℕ → List ℕ → List ℕ → Got Store → Got (List Entry) → Added
add_plain_to s image l bad r = refuse 4 s l
add_plain_to s image l (got st used) bad = refuse 5 s l
add_plain_to s image l (got st used) (got es e) =
    or_refuse (has_room (length s) used (length st.items) (1 + length image)) 6 s l
    (listed s l (repeats (find_in st.items) es) (with_item s used (length st.items) (1 ∷ image)))

unfoldable pub add_resource : List ℕ → List ℕ → List ℕ → Added
add_resource s image l = add_plain_to s image l (store_of s) (resource_of image)

-- "Add resource, overriding": no list
unfoldable pub add_overriding_to : List ℕ → List ℕ → Got Store → Got (List Entry) → Added
add_overriding_to s image bad r = refuse 4 s []
add_overriding_to s image (got st used) bad = refuse 5 s []
add_overriding_to s image (got st used) (got es e) =
    or_refuse (has_room (length s) used (length st.items) (1 + length image)) 6 s []
    (succeed 0 (with_item s used (length st.items) (2 ∷ image)) [])

unfoldable pub add_resource_overriding : List ℕ → List ℕ → Added
add_resource_overriding s image = add_overriding_to s image (store_of s) (resource_of image)

-- "Add function: 4; 8 not an Id; 9 code not 1; 10 the id has an entry; 6."
unfoldable pub add_function_to : List ℕ → List ℕ → ℕ → Got Store → Added
add_function_to s id code bad = refuse 4 s []
add_function_to s id code (got st used) =
    or_refuse (is_id id) 8 s []
    (or_refuse (eqb code 1) 9 s []
    (or_refuse (not (is_some (find_in st.items id))) 10 s []
    (or_refuse (has_room (length s) used (length st.items) (9 + length id)) 6 s []
    (succeed 0 (with_item s used (length st.items) (3 ∷ enc_function id)) []))))

unfoldable pub add_function : List ℕ → List ℕ → ℕ → Added
add_function s id code = add_function_to s id code (store_of s)
