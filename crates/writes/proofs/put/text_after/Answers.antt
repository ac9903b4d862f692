-- `writes::put::text_after` meets its contract: by what was answered.
use Rattle.writes.proofs.Laws.{text_at, text_full}
use mathlib.Core.Path.{◌∙◌}
use Rattle.writes.proofs.put.text_after.Goals as goal

pub returns-in-Ok : goal.returns-in-Ok
returns-in-Ok c = c.set_text.ensures ∙ text_at c.args.st.now c.in-Ok.is

pub returns-in-Err : goal.returns-in-Err
returns-in-Err c = text_full c.args.st.now c.in-Err.is c.refuse.ensures
