-- `writes::put::put_work` meets its contract: nothing once refused, else to where the text goes.
use Rattle.state.proofs.Laws.{refused_no, refused_yes}
use Rattle.arguments.specs.Relations.Given.{between}
use Rattle.buffers.specs.Relations.Append.{appended}
use Rattle.writes.proofs.Laws.{written_aside_law, written_over, written_text}
use mathlib.Core.Path.{◌∙◌, ◌≡◌, ap}
use Rattle.writes.proofs.put.put_work.Goals as goal

pub returns-then-is_refused : goal.returns-then-is_refused
returns-then-is_refused c = written_over _ c.args.text.now c.args.work.now c.args.st.now (refused_yes c.is_refused.ensures c.if-is_refused.true)

pub returns-then-st : goal.returns-then-st
returns-then-st c = written_aside_law _ c.args.text.now c.args.work.now c.args.st.now (refused_no c.is_refused.ensures c.if-is_refused.false) c.if-st.true c.part_front.ensures

pub returns : goal.returns
returns c =
    let bytes : c.text_of.result.now ≡ between c.args.work.now c.args.a c.args.e = c.text_of.ensures in
    written_text _ c.args.text.now c.args.work.now c.args.st.now (refused_no c.is_refused.ensures c.if-is_refused.false) c.if-st.false (c.put_bytes-w.ensures ∙ ap (appended _ _) bytes) c.text_after.ensures
