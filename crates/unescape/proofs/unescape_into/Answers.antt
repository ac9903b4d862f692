-- `unescape::unescape_into` meets its contract: the room first, then the bytes.
use Rattle.buffers.proofs.Place.{appended_fits, appended_full}
use borrow.Author.Tests.{leb-false, leb-true}
use mathlib.Core.Path.{◌∙◌, sym}
use Rattle.unescape.proofs.unescape_into.Goals as goal

pub unescape_to-requires : goal.unescape_to-requires
unescape_to-requires c = leb-true _ _ (sym c.has_room.ensures ∙ c.if-has_room.true)

pub returns-then-has_room : goal.returns-then-has_room
returns-then-has_room c = appended_fits _ _ _ (leb-true _ _ (sym c.has_room.ensures ∙ c.if-has_room.true)) c.unescape_to.ensures.value c.unescape_to.ensures.d_after

pub returns : goal.returns
returns c = appended_full _ _ _ (leb-false _ _ (sym c.has_room.ensures ∙ c.if-has_room.false))
