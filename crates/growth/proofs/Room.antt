-- Room for an item: none where the slice has none.
use mathlib.Core.Path.{◌≡◌, sym, ◌∙◌}
use mathlib.Core.Bool.{Bool, false}
use Prim.Native.Nat.{ℕ, ◌+◌}
use lib.Dec.{leb}
use Rattle.growth.specs.Items.{has_room}

pub room_no_slice : (size used count n : ℕ) {r : Bool} → r ≡ leb (used + n) size → r ≡ false → false ≡ has_room size used count n
unfolding has_room
room_no_slice size used count n {r} h k = rw (sym h ∙ k)
