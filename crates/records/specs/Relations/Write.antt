-- Bytes written into a lent slice.
use Rattle.std.specs.Prelude.{ℕ, ◌+◌, Bool, true, false, List, ◌++◌, length, take, drop, leb}

-- a slice, and bytes over what stands from a position on
unfoldable pub over : List ℕ → ℕ → List ℕ → List ℕ
over d at bs = take at d ++ bs ++ drop (at + length bs) d

-- the same where they fit; where they do not, nothing changes
unfoldable pub over_if : Bool → List ℕ → ℕ → List ℕ → List ℕ
over_if true d at bs = over d at bs
over_if false d at bs = d

unfoldable pub over_fit : List ℕ → ℕ → List ℕ → List ℕ
over_fit d at bs = over_if (leb (at + length bs) (length d)) d at bs
