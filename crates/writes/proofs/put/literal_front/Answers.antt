-- `writes::put::literal_front` meets its contract: the bytes where there is room for them, else refused.
use Rattle.writes.proofs.Copies.{appended_in}
use Rattle.writes.proofs.Laws.{room_is, work_in, work_out}
use mathlib.Core.Path.{◌∙◌, sym}
use native.Mathlib.Omega.{arith}
use Rattle.writes.proofs.put.literal_front.Goals as goal

pub grow-requires : goal.grow-requires
grow-requires c =
    let same = sym c.has_room.ensures in
    rw c.unescape_into.auto.d (same ∙ c.if-has_room.true)

pub returns-then-has_room : goal.returns-then-has_room
returns-then-has_room c =
    let same = sym c.has_room.ensures in
    let h = room_is c.args.st.now _ _ (same ∙ c.if-has_room.true) in
    let size = c.unescaped_len-n.ensures in
    work_in _ c.args.work.now c.args.st.now size (same ∙ c.if-has_room.true) (appended_in _ _ _ c.unescape_into.ensures (omega (arith, h.0, h.1, size))) (rw c.unescape_into.auto.d at c.grow.ensures)

pub returns : goal.returns
returns c =
    let same = sym c.has_room.ensures in
    let size = c.unescaped_len-n.ensures in
    work_out _ c.args.work.now c.args.st.now size (same ∙ c.if-has_room.false) c.refuse.ensures
