-- "The first variant whose key matches is taken and the search stops; without one, the first default", over the variants that can be read.
use Rattle.std.specs.Prelude.{ℕ, List, [], ◌∷◌, Bool, ◌&&◌, ◌||◌, eqb}
use Rattle.std.proofs.Math.Option.{Option, none}
use Rattle.numbers.specs.Value.{Value}
use Rattle.literals.specs.Literal.{is_number}
use Rattle.records.specs.Tree.{Key}
use Rattle.records.specs.Optional.{or_else, option_of}
use Rattle.resolution.specs.Resolve.{matches}
use Rattle.variants.specs.Outline.{Outline, variants_at}

-- the first that passes a test
unfoldable pub first_of : (Outline → Bool) → List Outline → Option Outline
first_of test [] = none
first_of test (o ∷ os) = or_else (option_of (test o) o) (first_of test os)

-- "An Id key matches equal text, or a number whose category it names; a literal key an equal number": a key of another kind, and one that is no
-- number literal where it should be, matches nothing
unfoldable pub key_matches : ℕ → Value → Outline → Bool
key_matches locale v o =
    (eqb o.kind 1 && matches locale (Key.name o.key) v)
    || (eqb o.kind 2 && (is_number o.key && matches locale (Key.number o.key) v))

-- "default Flag"
unfoldable pub is_default : Outline → Bool
is_default o = eqb o.flag 1

-- the variant that a value chooses among those at a position
unfoldable pub chosen_at : ℕ → Value → List ℕ → ℕ → Option Outline
chosen_at locale v s at = or_else (first_of (key_matches locale v) (variants_at s at)) (first_of is_default (variants_at s at))
