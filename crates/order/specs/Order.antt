-- The order of byte strings. Document 02, Card 2: "strictly ascending byte order".
use Rattle.std.specs.Prelude.{ℕ, Bool, true, false, ◌&&◌, ◌||◌, List, [], ◌∷◌, ltb, eqb}

-- the first byte that differs decides; of two that agree until one ends, that one is less
unfoldable pub before : List ℕ → List ℕ → Bool
before a [] = false
before [] (y ∷ b) = true
before (x ∷ a) (y ∷ b) = ltb x y || (eqb x y && before a b)
