-- `state::Progress::begin` meets its contract, by what `may_begin` answers.
use Rattle.state.proofs.Laws.{begin_none, begin_one}
use mathlib.Core.Path.{◌∙◌, sym}
use Rattle.state.proofs.Progress.begin.Goals as goal

pub returns-then-may_begin : goal.returns-then-may_begin
returns-then-may_begin c = sym (begin_one c.args.self.now (sym c.may_begin.ensures ∙ c.if-may_begin.true))

pub returns-else-may_begin : goal.returns-else-may_begin
returns-else-may_begin c = sym (begin_none c.args.self.now (sym c.may_begin.ensures ∙ c.if-may_begin.false))
