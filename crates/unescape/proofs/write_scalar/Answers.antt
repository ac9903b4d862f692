-- `unescape::write_scalar` meets its contract: the branches are those of `enc_scalar`.
use Rattle.buffers.proofs.Place.{set_over, store_2, store_3, store_4}
use Rattle.scalars.proofs.Scalars.{scalar_1, scalar_2, scalar_3, scalar_4}
use Rattle.unescape.proofs.Reading.{room_of}
use Rattle.buffers.specs.Relations.Append.{over}
use mathlib.Core.Path.{◌∙◌, ap, sym}
use native.Mathlib.Omega.{arith}
use Rattle.unescape.proofs.write_scalar.Goals as goal

pub returns-then-v-lt128 : goal.returns-then-v-lt128
returns-then-v-lt128 c =
    let one = room_of c.args.at _ (scalar_1 c.args.v c.if-v-lt128.true) c.requires.0 in
    set_over _ _ _ (omega arith) ∙ ap (over _ _) (sym (scalar_1 c.args.v c.if-v-lt128.true))

pub returns-then-v-lt2048 : goal.returns-then-v-lt2048
returns-then-v-lt2048 c =
    let two = room_of c.args.at _ (scalar_2 c.args.v c.if-v-lt128.false c.if-v-lt2048.true) c.requires.0 in
    store_2 _ _ _ _ two ∙ ap (over _ _) (sym (scalar_2 c.args.v c.if-v-lt128.false c.if-v-lt2048.true))

pub returns-then-v-lt65536 : goal.returns-then-v-lt65536
returns-then-v-lt65536 c =
    let three = room_of c.args.at _ (scalar_3 c.args.v c.if-v-lt128.false c.if-v-lt2048.false c.if-v-lt65536.true) c.requires.0 in
    store_3 _ _ _ _ _ three ∙ ap (over _ _) (sym (scalar_3 c.args.v c.if-v-lt128.false c.if-v-lt2048.false c.if-v-lt65536.true))

pub returns : goal.returns
returns c =
    let four = room_of c.args.at _ (scalar_4 c.args.v c.if-v-lt128.false c.if-v-lt2048.false c.if-v-lt65536.false) c.requires.0 in
    store_4 _ _ _ _ _ _ four ∙ ap (over _ _) (sym (scalar_4 c.args.v c.if-v-lt128.false c.if-v-lt2048.false c.if-v-lt65536.false))
