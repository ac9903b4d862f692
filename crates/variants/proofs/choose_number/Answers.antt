-- `variants::choose_number` meets its contract: an Id key matches by the category, a literal by the value.
use Rattle.variants.specs.Relations.Sought.{Chooses}
use Rattle.variants.proofs.choose_number.Goals as goal

pub returns : goal.returns
unfolding Chooses
returns c = c.choose.ensures
