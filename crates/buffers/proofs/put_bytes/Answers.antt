-- `buffers::put_bytes` meets its contract: the length first, then the bytes.
use Rattle.buffers.proofs.Place.{appended_fits, appended_full}
use Rattle.records.proofs.Laws.{there}
use Rattle.records.proofs.Writing.{fits_over}
use borrow.Author.Tests.{leb-false}
use lib.ListN.{length}
use mathlib.Core.Path.{◌∙◌, refl, sym}
use Rattle.buffers.proofs.put_bytes.Goals as goal

pub returns-then-has_bytes : goal.returns-then-has_bytes
returns-then-has_bytes c =
    let room = there c.args.d.now c.args.at (length c.args.src.now) c.has_bytes.ensures c.if-has_bytes.true in
    appended_fits _ _ _ room refl (c.write_bytes.ensures ∙ fits_over _ _ _ room)

pub returns : goal.returns
returns c = appended_full _ _ _ (leb-false _ _ (sym c.has_bytes.ensures ∙ c.if-has_bytes.false))
