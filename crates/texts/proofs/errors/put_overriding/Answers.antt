-- `texts::errors::put_overriding` meets its contract.
use Rattle.texts.proofs.Recording.{overriding_is, overriding_length, recorded_fits, recorded_full, recorded_long}
use Rattle.buffers.specs.Relations.Append.{over}
use Rattle.texts.specs.Relations.Report.{kind_of}
use mathlib.Core.Path.{◌∙◌, ap}
use native.Mathlib.Omega.{arith}
use Rattle.texts.proofs.errors.put_overriding.Goals as goal

pub returns-then-n-gt65535 : goal.returns-then-n-gt65535
returns-then-n-gt65535 c = recorded_long _ _ _ (omega (arith, overriding_length c.args.id.now (kind_of c.args.kind)))

pub returns-then-room_for : goal.returns-then-room_for
returns-then-room_for c = recorded_fits _ _ _ _ c.room_for.ensures c.if-room_for.true (overriding_length _ _) (c.write_named.ensures ∙ ap (over _ _) (overriding_is _ _ c.byte.ensures))

pub returns : goal.returns
returns c = recorded_full _ _ _ _ c.room_for.ensures c.if-room_for.false (overriding_length _ _)
