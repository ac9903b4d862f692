-- Bytes put at the front of others.
use Rattle.std.proofs.Common.{◌≡◌, ℕ, ◌<◌, ◌≤◌, List, ◌++◌, length, drop, refl, le-leb}
use borrow.Author.Tests.{lt-leb}
use Rattle.vectors.specs.Lendings.{front_if, fronted}

-- no room
pub front_none : (s f : List ℕ) → length s < length f → s ≡ fronted s f
unfolding fronted front_if
front_none s f h = rw (lt-leb (length f) (length s) h) refl

-- room
pub front_put : (s f : List ℕ) → length f ≤ length s → f ++ drop (length f) s ≡ fronted s f
unfolding fronted front_if
front_put s f h = rw (le-leb (length f) (length s) h) refl
