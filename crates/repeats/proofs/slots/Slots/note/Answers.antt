-- `repeats::slots::Slots::note` meets its contract: an id is noted in its slot, if it has one.
use Rattle.repeats.proofs.Notes.{notes_none, notes_one}
use Rattle.repeats.proofs.Seeking.{slot_is, slot_not}
use mathlib.Core.Path.{refl}
use Rattle.repeats.proofs.slots.Slots.note.Goals as goal

pub returns-in-Some : goal.returns-in-Some
returns-in-Some c = let s = slot_is _ c.seek.ensures c.in-Some.is in notes_one _ _ _ _ _ s.0 s.1

pub returns-in_default : goal.returns-in_default
returns-in_default c = notes_none _ _ _ _ _ refl (slot_not _ c.seek.ensures c.in_default.is)
