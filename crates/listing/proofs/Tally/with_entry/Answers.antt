-- `listing::Tally::with_entry` meets its contract: by the mark.
use Rattle.listing.proofs.Tallying.{tally_one, tally_same}
use Rattle.listing.proofs.Tally.with_entry.Goals as goal

pub returns-then-mark-eq1 : goal.returns-then-mark-eq1
returns-then-mark-eq1 c = tally_one _ _ _ c.if-mark-eq1.true

pub returns-else-mark-eq1 : goal.returns-else-mark-eq1
returns-else-mark-eq1 c = tally_same _ _ _ c.if-mark-eq1.false
