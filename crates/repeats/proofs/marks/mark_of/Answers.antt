-- `repeats::marks::mark_of` meets its contract: an id is held by an entry before, or in the store.
use Rattle.repeats.proofs.Marking.{mark_among, mark_else}
use Rattle.entries.proofs.Located.{first_held, holder_held}
use mathlib.Core.Path.{◌∙◌, sym}
use Rattle.repeats.proofs.marks.mark_of.Goals.{then-is_among, else-is_among}
use Rattle.repeats.proofs.marks.mark_of.Goals as goal

pub returns : goal.returns
returns c = λ st f pre i hs hp. elim c.if-is_among.branch [
  | then-is_among w ↦ rw (w.result-is, w.if-is_among.true) (mark_among _ pre _ (sym w.if-is_among.true ∙ c.is_among.ensures ∙ first_held _ _ _ _ pre i hp))
  | else-is_among w ↦ rw w.result-is (mark_else _ pre _ (sym w.if-is_among.false ∙ c.is_among.ensures ∙ first_held _ _ _ _ pre i hp) (holder_held _ _ w.has_holder.ensures st f hs))
]
