-- The error list read back: document 01, "Error list".
use Rattle.std.specs.Prelude.{ℕ, zero, suc, ◌+◌, ◌≤◌, ◌<◌, List, [], ◌∷◌, length, eqb}
use Rattle.std.proofs.Math.Option.{Option, some, none}
use Rattle.records.specs.Got.{Got, got, bad, Parser, after, test, pick}
use Rattle.records.specs.Bytes.{byte_at, number_at, str_at}
use Rattle.records.specs.Decode.{as_a, optional_at}
use Rattle.records.specs.Images.{kind_at}
use Rattle.records.specs.Errors.{Referred, Error, overriding, reference, no_value, missing_default, cyclic, too_many_placeables, enc_error, enc_errors}
use Rattle.records.specs.Valid.{All}

-- "kind 1 message, 2 term, 3 function, 4 variable"
unfoldable pub referred_at : Parser Referred
referred_at s at =
    after (byte_at s at) (λ k e.
    pick (eqb k 1) (got Referred.message e)
    (pick (eqb k 2) (got Referred.term e)
    (pick (eqb k 3) (got Referred.function e)
    (test (eqb k 4) (got Referred.variable e)))))

-- "Overriding (kind, Id)"
unfoldable pub overriding_at : Parser Error
overriding_at s at = after (kind_at s at) (λ k e. as_a (overriding k) (str_at s e))

-- "Reference (kind, Id, attribute Flag, Id if 1)"
unfoldable pub reference_at : Parser Error
reference_at s at =
    after (referred_at s at) (λ k p.
    after (str_at s p) (λ i e.
    as_a (reference k i) (optional_at str_at s e)))

-- "NoValue (Id)"
unfoldable pub no_value_at : Parser Error
no_value_at s at = as_a no_value (str_at s at)

-- "4 MissingDefault; 5 Cyclic; 6 TooManyPlaceables": the tag is all
unfoldable pub plain_at : ℕ → ℕ → Got Error
plain_at t e = pick (eqb t 4) (got missing_default e) (pick (eqb t 5) (got cyclic e) (test (eqb t 6) (got too_many_placeables e)))

-- "tag: 1 Overriding (kind, Id); 2 Reference (kind, Id, attribute Flag, Id if 1); 3 NoValue (Id); 4 MissingDefault; 5 Cyclic; 6 TooManyPlaceables"
unfoldable pub tagged_at : Parser Error
tagged_at s at =
    after (byte_at s at) (λ t e.
    pick (eqb t 1) (overriding_at s e)
    (pick (eqb t 2) (reference_at s e)
    (pick (eqb t 3) (no_value_at s e) (plain_at t e))))

-- "Record: u16 length of the rest, tag": what is read ends where the length says
unfoldable pub record_at : Parser Error
record_at s at = after (number_at 2 s at) (λ n p. after (tagged_at s p) (λ x e. test (eqb e (p + n)) (got x e)))

-- records up to the end, n at most
unfoldable pub records_at : ℕ → Parser (List Error)
records_at zero s at = test (eqb at (length s)) (got [] at)
records_at (suc n) s at = pick (eqb at (length s)) (got [] at) (after (record_at s at) (λ x e. as_a (λ l. x ∷ l) (records_at n s e)))

-- "Error list: u32 whole length, version 1, records"
unfoldable pub list_with : Parser (List Error)
list_with s at =
    after (number_at 4 s at) (λ n p.
    test (eqb n (length s))
    (after (byte_at s p) (λ v e. test (eqb v 1) (records_at (length s) s e))))

unfoldable pub value_of : {A : Type 0} → Got A → Option A
value_of (got x e) = some x
value_of bad = none

-- the error that the bytes of one record write, and the errors that those of a list do
unfoldable pub error_of : List ℕ → Option Error
error_of s = value_of (after (record_at s 0) (λ x e. test (eqb e (length s)) (got x e)))

unfoldable pub errors_of : List ℕ → Option (List Error)
errors_of s = value_of (list_with s 0)

-- an error whose record has a length: a u16 counts what follows it
abbrev pub Recordable : Error → Type 0
Recordable e = length (enc_error e) ≤ 65537

-- errors that a list can hold: its whole length is a u32
abbrev pub Listable : List Error → Type 0
Listable es = All Recordable es × (length (enc_errors es) < 4294967296)

-- the Ids of an error: "Str of 1 to 255 ASCII bytes"
unfoldable pub Brief : Error → Type 0
Brief (overriding k i) = length i ≤ 255
Brief (reference k i none) = length i ≤ 255
Brief (reference k i (some a)) = (length i ≤ 255) × (length a ≤ 255)
Brief (no_value i) = length i ≤ 255
Brief missing_default = Unit {0}
Brief cyclic = Unit {0}
Brief too_many_placeables = Unit {0}
