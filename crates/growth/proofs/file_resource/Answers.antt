-- `growth::file_resource` meets its contract: where there is room, the item behind the others, and the counts over it.
use native.Mathlib.Omega.{arith}
use Rattle.growth.proofs.Items.{filed_low, filed_not, item_filed}
use Rattle.growth.proofs.file_resource.Goals.{else-used-ge9-via-then-used-ge9+else-has_room, else-used-ge9-via-else-used-ge9}
use Rattle.growth.proofs.file_resource.Goals as goal

pub returns-then-has_room : goal.returns-then-has_room
returns-then-has_room c = item_filed _ _ _ _ _ (omega arith) c.if-used-ge9.true c.has_room.ensures c.if-has_room.true c.put_resource.ensures c.put_counts.ensures

pub returns-else-used-ge9 : goal.returns-else-used-ge9
returns-else-used-ge9 c = elim c.else-used-ge9.branch [
  | else-used-ge9-via-then-used-ge9+else-has_room w ↦ filed_not _ _ _ _ (omega arith) w.has_room.ensures w.if-has_room.false
  | else-used-ge9-via-else-used-ge9 w ↦ filed_low _ _ _ _ w.if-used-ge9.false
]
