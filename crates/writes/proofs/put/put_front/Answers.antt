-- `writes::put::put_front` meets its contract: the bytes where there is room for them, else refused.
use Rattle.records.proofs.Writing.{fits_over}
use Rattle.writes.proofs.Laws.{room_is, work_in, work_out}
use mathlib.Core.Path.{◌∙◌, refl, sym}
use native.Mathlib.Omega.{arith}
use Rattle.writes.proofs.put.put_front.Goals as goal

pub grow-requires : goal.grow-requires
grow-requires c =
    let same = sym c.has_room.ensures in
    rw c.write_bytes.auto.d (same ∙ c.if-has_room.true)

pub returns-then-has_room : goal.returns-then-has_room
returns-then-has_room c =
    let same = sym c.has_room.ensures in
    let h = room_is c.args.st.now _ _ (same ∙ c.if-has_room.true) in
    work_in _ c.args.work.now c.args.st.now refl (same ∙ c.if-has_room.true) (c.write_bytes.ensures ∙ fits_over _ _ _ (omega (arith, h.0, h.1))) (rw c.write_bytes.auto.d at c.grow.ensures)

pub returns : goal.returns
returns c =
    let same = sym c.has_room.ensures in
    work_out _ c.args.work.now c.args.st.now refl (same ∙ c.if-has_room.false) c.refuse.ensures
