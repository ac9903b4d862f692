-- `state::Progress::count_unfound` meets its contract: one lookup more is counted.
use Rattle.state.proofs.Laws.{counted}
use Rattle.state.proofs.Progress.count_unfound.Goals as goal

pub returns : goal.returns
returns c = counted c.args.self.now c.one_more-self.ensures
