-- `unescape::unescape_to` meets its contract: piece by piece, what is read stands behind what was read before.
use Rattle.unescape.proofs.Reading.{written_end, written_none, written_room, written_turn}
use native.Mathlib.Omega.{arith}
use Rattle.unescape.proofs.unescape_to.Goals as goal

pub loop-b-init : goal.loop-b-init
loop-b-init c = written_none _ _ _

pub write-requires : goal.write-requires
write-requires c = written_room _ _ _ c.requires c.loop-b.invariant c.in-Some.ensures.cases.0 c.front_piece-p.ensures

pub overflow_add-end : goal.overflow_add-end
overflow_add-end c =
    let room = written_room _ _ _ c.requires c.loop-b.invariant c.in-Some.ensures.cases.0 c.front_piece-p.ensures in
    omega arith

pub loop-b-preserved : goal.loop-b-preserved
loop-b-preserved c = written_turn _ _ _ c.requires c.loop-b.invariant c.in-Some.ensures.cases.0 c.front_piece-p.ensures c.write.ensures c.len-end.ensures c.more.ensures

pub returns-clause-value : goal.returns-clause-value
returns-clause-value c = (written_end _ _ _ c.loop-b.invariant c.in_default.ensures.cases).0

pub returns-clause-d_after : goal.returns-clause-d_after
returns-clause-d_after c = (written_end _ _ _ c.loop-b.invariant c.in_default.ensures.cases).1
