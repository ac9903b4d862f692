-- `texts::errors::put_plain` meets its contract.
use Rattle.records.specs.Bytes.{to_be}
use Rattle.texts.proofs.Recording.{plain_length, recorded_fits, recorded_full}
use Rattle.buffers.specs.Relations.Append.{over}
use mathlib.Core.Path.{◌∙◌, ap, sym}
use Rattle.texts.proofs.errors.put_plain.Goals as goal

pub returns-then-room_for : goal.returns-then-room_for
unfolding to_be
returns-then-room_for c = recorded_fits _ _ _ 3 c.room_for.ensures c.if-room_for.true (plain_length _) (c.write_head.ensures ∙ ap (over _ _) (sym c.tag.ensures))

pub returns : goal.returns
returns c = recorded_full _ _ _ 3 c.room_for.ensures c.if-room_for.false (plain_length _)
