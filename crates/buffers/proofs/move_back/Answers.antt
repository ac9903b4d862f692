-- `buffers::move_back` meets its contract: the bytes lie within, and are moved; or nothing is.
use Rattle.buffers.proofs.Place.{moved_paste, not_inside, not_moved}
use Rattle.records.proofs.Laws.{there}
use borrow.Author.Tests.{leb-false}
use mathlib.Core.Path.{◌∙◌, sym}
use Rattle.buffers.proofs.move_back.Goals.{else-from-to-via-then-from-to+else-has_bytes, else-from-to-via-else-from-to}
use Rattle.buffers.proofs.move_back.Goals as goal

pub returns-then-has_bytes : goal.returns-then-has_bytes
returns-then-has_bytes c =
    let inside = there c.args.w.now c.args.to c.args.n c.has_bytes.ensures c.if-has_bytes.true in
    c.copy_within.ensures.after ∙ moved_paste _ _ _ _ c.if-from-to.true inside

pub returns-else-from-to : goal.returns-else-from-to
returns-else-from-to c = elim c.else-from-to.branch [
  | else-from-to-via-then-from-to+else-has_bytes w ↦ sym (not_inside _ _ _ _ w.if-from-to.true (leb-false _ _ (sym w.has_bytes.ensures ∙ w.if-has_bytes.false)))
  | else-from-to-via-else-from-to w ↦ sym (not_moved _ _ _ _ w.if-from-to.false)
]
