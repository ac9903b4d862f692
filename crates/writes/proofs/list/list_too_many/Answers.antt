-- `writes::list::list_too_many` meets its contract: the error is listed in the state that it leaves.
use Rattle.records.specs.Errors.{too_many_placeables}
use Rattle.state.specs.declared.Progress.{Progress}
use Rattle.texts.specs.Relations.Report.{plain_of}
use Rattle.writes.specs.Written.{listed}
use mathlib.Core.Path.{◌∙◌, ap}
use Rattle.writes.proofs.list.list_too_many.Goals as goal

pub returns : goal.returns
unfolding plain_of
returns c = c.list_plain.ensures ∙ ap (λ (s : Progress). listed too_many_placeables c.args.list.now s) c.begin_last.ensures
