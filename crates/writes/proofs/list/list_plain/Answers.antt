-- `writes::list::list_plain` meets its contract: nothing once refused, else the record.
use Rattle.state.proofs.Laws.{refused_no, refused_yes}
use Rattle.writes.proofs.Laws.{listed_next, listed_over}
use Rattle.writes.proofs.list.list_plain.Goals as goal

pub returns-then-is_refused : goal.returns-then-is_refused
returns-then-is_refused c = listed_over _ c.args.list.now c.args.st.now (refused_yes c.is_refused.ensures c.if-is_refused.true)

pub returns : goal.returns
returns c = listed_next _ c.args.list.now c.args.st.now (refused_no c.is_refused.ensures c.if-is_refused.false) c.put_plain-w.ensures c.list_after.ensures
