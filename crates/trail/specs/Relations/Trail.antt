-- The trail: the patterns that are being resolved, by their positions in the store.
use Rattle.std.specs.Prelude.{ℕ, zero, suc, ◌+◌, List, [], ◌∷◌, get_or}
use Rattle.records.specs.Got.{Got, got, bad}
use Rattle.records.specs.Bytes.{part, number_at}
use Rattle.resolution.specs.Effect.{Bytes}
use Rattle.resolution.specs.Resolve.{Trail}

-- the bytes of the pattern at a position: its length, and as many bytes as it says, or as there are; none where no length can be read
unfoldable pub prefixed : List ℕ → ℕ → Got ℕ → Bytes
prefixed store p (got n q) = part store p (4 + n)
prefixed store p bad = []

unfoldable pub pattern_bytes : List ℕ → ℕ → Bytes
pattern_bytes store p = prefixed store p (number_at 4 store p)

-- the patterns that are being resolved, by the positions in the trail
unfoldable pub trail_of : List ℕ → List ℕ → ℕ → Trail
trail_of store a zero = []
trail_of store a (suc d) = pattern_bytes store (get_or a d 0) ∷ trail_of store a d
