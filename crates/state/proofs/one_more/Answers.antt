-- `state::one_more` meets its contract: the count stops at its greatest value.
use Rattle.state.proofs.Laws.{one_more_is}
use Rattle.state.proofs.one_more.Goals as goal

pub returns : goal.returns
returns c = one_more_is c.args.n _ c.saturating_add.ensures
