-- `growth::file_function` meets its contract: where there is room, the item behind the others, and the counts over it.
use Rattle.growth.proofs.Items.{filed_low, filed_not, function_length, item_filed, long_not, short_written}
use Rattle.growth.proofs.file_function.Goals.{else-id-le255-via-then-id-le255+then-used-ge9+else-has_room, else-id-le255-via-then-id-le255+else-used-ge9, else-id-le255-via-else-id-le255}
use Rattle.growth.proofs.file_function.Goals as goal

pub returns-then-has_room : goal.returns-then-has_room
returns-then-has_room c = short_written _ _ _ c.if-id-le255.true (item_filed _ _ _ _ _ (function_length c.args.id.now) c.if-used-ge9.true c.has_room.ensures c.if-has_room.true c.put_function.ensures c.put_counts.ensures)

pub returns-else-id-le255 : goal.returns-else-id-le255
returns-else-id-le255 c = elim c.else-id-le255.branch [
  | else-id-le255-via-then-id-le255+then-used-ge9+else-has_room w ↦ short_written _ _ _ w.if-id-le255.true (filed_not _ _ _ _ (function_length c.args.id.now) w.has_room.ensures w.if-has_room.false)
  | else-id-le255-via-then-id-le255+else-used-ge9 w ↦ short_written _ _ _ w.if-id-le255.true (filed_low _ _ _ _ w.if-used-ge9.false)
  | else-id-le255-via-else-id-le255 w ↦ long_not _ _ _ w.if-id-le255.false
]
