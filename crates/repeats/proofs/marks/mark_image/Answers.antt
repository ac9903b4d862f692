-- `repeats::marks::mark_image` meets its contract: the tables are filled, and the marks go by them.
use Rattle.repeats.proofs.Notes.{ready}
use mathlib.Core.Path.{refl}
use Rattle.repeats.proofs.marks.mark_image.Goals as goal

pub returns : goal.returns
returns c = λ st u es f hs hr. c.mark_repeats.ensures st u es f hs hr (ready (c.place_entries.ensures es f hr refl) (c.note_store.ensures st u hs))
