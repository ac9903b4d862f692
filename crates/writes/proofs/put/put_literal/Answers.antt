-- `writes::put::put_literal` meets its contract: nothing once refused, else to where the text goes.
use Rattle.state.proofs.Laws.{refused_no, refused_yes}
use Rattle.writes.proofs.Laws.{written_aside_law, written_over, written_text}
use Rattle.writes.proofs.put.put_literal.Goals as goal

pub returns-then-is_refused : goal.returns-then-is_refused
returns-then-is_refused c = written_over _ c.args.text.now c.args.work.now c.args.st.now (refused_yes c.is_refused.ensures c.if-is_refused.true)

pub returns-then-st : goal.returns-then-st
returns-then-st c = written_aside_law _ c.args.text.now c.args.work.now c.args.st.now (refused_no c.is_refused.ensures c.if-is_refused.false) c.if-st.true c.literal_front.ensures

pub returns : goal.returns
returns c = written_text _ c.args.text.now c.args.work.now c.args.st.now (refused_no c.is_refused.ensures c.if-is_refused.false) c.if-st.false c.unescape_into-w.ensures c.text_after.ensures
