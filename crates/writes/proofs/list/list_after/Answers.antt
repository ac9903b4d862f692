-- `writes::list::list_after` meets its contract: by what was answered, and as far as the count goes.
use Rattle.state.specs.Setters.{up_to}
use Rattle.writes.proofs.Laws.{list_at, list_full}
use mathlib.Core.Path.{◌∙◌}
use Rattle.writes.proofs.list.list_after.Goals as goal

pub returns-in-Ok : goal.returns-in-Ok
unfolding up_to
returns-in-Ok c = c.set_list.ensures ∙ list_at c.args.st.now c.in-Ok.is c.one_more-errors.ensures

pub returns-in-Err : goal.returns-in-Err
returns-in-Err c = list_full c.args.st.now c.in-Err.is c.refuse.ensures
