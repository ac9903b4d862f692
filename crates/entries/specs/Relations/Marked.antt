-- The records of the entries that are marked.
use Rattle.std.specs.Prelude.{ℕ, ◌+◌, List, [], ◌∷◌, get_or, eqb}
use Rattle.records.specs.Errors.{Error}
use Rattle.records.specs.Images.{Entry}
use Rattle.entries.specs.Repeats.{repeat_if}

-- the records of the entries that are marked, with the mark of the first at k
unfoldable pub marked : List ℕ → ℕ → List Entry → List Error
marked marks k [] = []
marked marks k (e ∷ es) = repeat_if (eqb (get_or marks k 0) 1) e (marked marks (k + 1) es)
