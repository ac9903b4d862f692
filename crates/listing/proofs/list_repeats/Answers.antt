-- `listing::list_repeats` meets its contract: what was tallied is what is written, and nothing is written where it does not fit.
use Rattle.listing.proofs.Records.{listed_all, listed_short}
use Rattle.listing.proofs.Tallying.{tally_small}
use native.Mathlib.Omega.{arith}
use Rattle.listing.proofs.list_repeats.Goals as goal

pub returns-then-list-tally : goal.returns-then-list-tally
returns-then-list-tally c = λ es f hr. listed_short _ (c.tally_marked-tally.ensures.0 es f hr) c.if-list-tally.true

pub returns : goal.returns
returns c =
    λ es f hr.
    let y = c.tally_marked-tally.ensures.0 es f hr in
    let small = tally_small _ _ hr y in
    let size = y.size in
    listed_all _ y c.if-list-tally.false (omega arith) (c.list_marked.ensures es f hr (omega arith)) c.put_header.ensures
