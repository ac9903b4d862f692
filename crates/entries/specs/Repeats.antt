-- The entries of an image that repeat an id: document 01, "one Overriding record for each".
use Rattle.std.specs.Prelude.{Bool, true, false, ◌||◌, List, [], ◌∷◌, ℕ}
use Rattle.decimals.specs.Bytes.{same_bytes}
use Rattle.records.specs.Images.{Entry, is_some}
use Rattle.records.specs.Errors.{Error}
use Rattle.entries.specs.Lookup.{Find}

-- one Overriding record for each entry whose id is held already: in the bundle, or by an entry before it in the image
unfoldable pub is_held : Find → List (List ℕ) → List ℕ → Bool
is_held find [] i = is_some (find i)
is_held find (n ∷ ns) i = same_bytes n i || is_held find ns i

unfoldable pub repeat_if : Bool → Entry → List Error → List Error
repeat_if true e l = Error.overriding e.kind e.id ∷ l
repeat_if false e l = l

unfoldable pub repeats_from : Find → List (List ℕ) → List Entry → List Error
repeats_from find seen [] = []
repeats_from find seen (e ∷ es) = repeat_if (is_held find seen e.id) e (repeats_from find (e.id ∷ seen) es)

unfoldable pub repeats : Find → List Entry → List Error
repeats find es = repeats_from find [] es
