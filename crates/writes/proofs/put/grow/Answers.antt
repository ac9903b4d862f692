-- `writes::put::grow` meets its contract: the front moves on, and the highest use is the greater of the one before and the use now.
use Rattle.workspace.proofs.Laws.{highest_is}
use Rattle.writes.proofs.Laws.{room_is, work_at}
use mathlib.Core.Path.{◌∙◌}
use native.Mathlib.Omega.{arith}
use Rattle.writes.proofs.put.grow.Goals as goal

pub overflow_add-front : goal.overflow_add-front
overflow_add-front c =
    let h = room_is _ _ _ c.requires in
    omega (arith, h.0, h.1)

pub returns : goal.returns
returns c =
    let h = room_is _ _ _ c.requires in
    c.set_front.ensures ∙ work_at c.args.st.now c.args.len _ (c.highest-high.ensures ∙ highest_is _ _ _ _ h.0 h.1)
