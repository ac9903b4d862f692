-- `texts::errors::put_no_value` meets its contract.
use Rattle.texts.proofs.Recording.{name_written, no_value_is, no_value_length, recorded_fits, recorded_full, recorded_long, room_true}
use Rattle.buffers.specs.Relations.Append.{over}
use mathlib.Core.Path.{◌∙◌, ap}
use native.Mathlib.Omega.{arith}
use Rattle.texts.proofs.errors.put_no_value.Goals as goal

pub returns-then-n-gt65535 : goal.returns-then-n-gt65535
returns-then-n-gt65535 c = recorded_long _ _ _ (omega (arith, no_value_length c.args.id.now))

pub returns-then-room_for : goal.returns-then-room_for
returns-then-room_for c =
    let room = room_true _ _ _ c.room_for.ensures c.if-room_for.true in
    recorded_fits _ _ _ _ c.room_for.ensures c.if-room_for.true (no_value_length _) (name_written _ _ _ _ _ (omega arith) c.write_head.ensures c.write_str.ensures ∙ ap (over _ _) (no_value_is _))

pub returns : goal.returns
returns c = recorded_full _ _ _ _ c.room_for.ensures c.if-room_for.false (no_value_length _)
