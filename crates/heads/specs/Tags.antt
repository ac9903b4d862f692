-- What the tag of an expression says of it.
use Rattle.std.specs.Prelude.{Bool, ◌||◌, ◌&&◌, not, List, ℕ, eqb, get_or}

-- the value of a message, a term or an inline placeable is a text of its own
unfoldable pub text_tag : ℕ → Bool
text_tag t = eqb t 4 || (eqb t 5 || eqb t 7)

-- a string literal, a message and a term stand bare, without isolating marks
unfoldable pub bare_tag : ℕ → Bool
bare_tag t = eqb t 1 || (eqb t 4 || eqb t 5)

-- the expression at a position stands bare, by the byte there; past the end none does
unfoldable pub bare_at : List ℕ → ℕ → Bool
bare_at s at = bare_tag (get_or s at 0)

-- a placeable has marks where they are written and it does not stand bare
unfoldable pub marks_at : List ℕ → Bool → ℕ → Bool
marks_at s iso at = iso && not (bare_at s at)
