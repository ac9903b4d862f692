-- `writes::put::has_room` meets its contract, without a sum that could overflow.
use Rattle.writes.proofs.Laws.{room_from, room_none}
use native.Mathlib.Omega.{arith}
use Rattle.writes.proofs.put.has_room.Goals as goal

pub returns-then-back-front : goal.returns-then-back-front
returns-then-back-front c = room_none _ _ _ (omega (arith, c.if-back-front.true))

pub returns-then-back-front-2 : goal.returns-then-back-front-2
returns-then-back-front-2 c = room_none _ _ _ (omega (arith, c.if-back-front.false, c.if-back-front-2.true))

pub returns : goal.returns
returns c = room_from _ _ _ (omega (arith, c.if-back-front.false, c.if-back-front-2.false))
