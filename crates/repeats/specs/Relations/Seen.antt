-- The ids of the entries before one.
use Rattle.std.specs.Prelude.{ℕ, List, [], ◌∷◌}
use Rattle.records.specs.Images.{Entry}

-- the ids that are seen after entries, the last first
unfoldable pub seen_after : List (List ℕ) → List Entry → List (List ℕ)
seen_after seen [] = seen
seen_after seen (e ∷ es) = seen_after (e.id ∷ seen) es
