-- `repeats::slots::place` meets its contract: a slot that is free takes the position.
use Rattle.repeats.proofs.Places.{placed_free_at, placed_not_at}
use Rattle.repeats.proofs.Seeking.{slot_is, slot_not}
use mathlib.Core.Path.{refl}
use native.Mathlib.Omega.{arith}
use Rattle.repeats.proofs.slots.place.Goals as goal

pub returns-then-places-j-eq0 : goal.returns-then-places-j-eq0
returns-then-places-j-eq0 c = let s = slot_is _ c.seek.ensures c.in-Some.is in placed_free_at _ _ _ _ _ s.0 s.1 c.if-places-j-eq0.true

pub returns-else-places-j-eq0 : goal.returns-else-places-j-eq0
returns-else-places-j-eq0 c = placed_not_at _ _ _ _ _ (slot_is _ c.seek.ensures c.in-Some.is).0 (λ _. c.if-places-j-eq0.false)

pub returns-in_default : goal.returns-in_default
returns-in_default c = placed_not_at _ _ _ _ _ refl (λ l _. let h = slot_not _ c.seek.ensures c.in_default.is in omega arith)
