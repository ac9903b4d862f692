-- `variants::choose_text` meets its contract: an Id key matches a text of the same bytes, a literal none.
use Rattle.variants.specs.Relations.Sought.{Chooses}
use Rattle.variants.proofs.choose_text.Goals as goal

pub returns : goal.returns
unfolding Chooses
returns c = c.choose.ensures
