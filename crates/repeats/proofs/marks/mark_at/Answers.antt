-- `repeats::marks::mark_at` meets its contract: an entry that stands in its slot is marked as its slot is, one that another stands there for is held by that; any other is marked by walking.
use Rattle.repeats.proofs.Notes.{mark_before, mark_quick}
use Rattle.repeats.proofs.Seeking.{slot_is}
use mathlib.Core.Path.{refl}
use Rattle.repeats.proofs.marks.mark_at.Goals as goal

pub returns-then-p-at : goal.returns-then-p-at
returns-then-p-at c = λ st f count pre hs r hc lk hp hi. let s = slot_is _ c.seek.ensures c.in-Some.is in mark_quick _ _ _ _ r hc _ _ _ _ _ _ pre lk hp hi s.0 s.1 refl c.if-p-gt0.true c.if-p-at.true

pub returns-then-p-at-2 : goal.returns-then-p-at-2
returns-then-p-at-2 c = λ st f count pre hs r hc lk hp hi. let s = slot_is _ c.seek.ensures c.in-Some.is in mark_before _ _ _ _ r hc _ _ _ _ _ _ pre lk hp hi s.0 s.1 refl c.if-p-gt0.true c.if-p-at-2.true

pub returns : goal.returns
returns c = λ st f count pre hs r hc lk hp hi. c.mark_of.ensures st f pre _ hs hp
