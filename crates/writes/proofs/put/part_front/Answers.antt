-- `writes::put::part_front` meets its contract: the part where there is room for it, else refused.
use Prim.Native.Nat.{ℕ}
use Rattle.buffers.specs.Relations.Append.{over}
use Rattle.writes.proofs.Copies.{Span, span}
use Rattle.writes.proofs.Laws.{room_is, work_in, work_out}
use lib.ListN.{length}
use mathlib.Core.Path.{◌∙◌, ap, subst, sym}
use native.Mathlib.Omega.{arith}
use Rattle.writes.proofs.put.part_front.Goals as goal

pub copy_part-requires : goal.copy_part-requires
copy_part-requires c =
    let same = sym c.has_room.ensures in
    let h = room_is c.args.st.now _ _ (same ∙ c.if-has_room.true) in
    let size = ap length c.text_of-n.ensures in
    let part-is = subst (λ (k : ℕ). Span c.args.work.now c.args.a c.args.e k) (sym size) (span c.args.work.now c.args.a c.args.e) in
    (omega (arith, h.0, h.1), part-is.within)

pub grow-requires : goal.grow-requires
grow-requires c =
    let same = sym c.has_room.ensures in
    rw c.copy_part.auto.work (same ∙ c.if-has_room.true)

pub returns-then-has_room : goal.returns-then-has_room
returns-then-has_room c =
    let same = sym c.has_room.ensures in
    let size = ap length c.text_of-n.ensures in
    let part-is = subst (λ (k : ℕ). Span c.args.work.now c.args.a c.args.e k) (sym size) (span c.args.work.now c.args.a c.args.e) in
    work_in _ c.args.work.now c.args.st.now size (same ∙ c.if-has_room.true) (c.copy_part.ensures ∙ ap (over c.args.work.now c.args.st.now.front) part-is.reads) (rw c.copy_part.auto.work at c.grow.ensures)

pub returns : goal.returns
returns c =
    let same = sym c.has_room.ensures in
    let size = ap length c.text_of-n.ensures in
    work_out _ c.args.work.now c.args.st.now size (same ∙ c.if-has_room.false) c.refuse.ensures
