-- `writes::list::list_variable` meets its contract: nothing within a term, else the reference.
use Rattle.texts.specs.Relations.Report.{referred_of}
use Rattle.writes.proofs.Laws.{missing_outside, missing_within}
use Rattle.writes.proofs.list.list_variable.Goals as goal

pub returns-then-st : goal.returns-then-st
returns-then-st c = missing_within _ _ _ c.if-st.true

pub returns : goal.returns
unfolding referred_of
returns c = missing_outside c.args.name.now c.args.list.now c.args.st.now c.if-st.false c.list_reference.ensures
