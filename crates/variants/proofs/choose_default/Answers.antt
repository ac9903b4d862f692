-- `variants::choose_default` meets its contract: the pattern of what is found is read at its place.
use Rattle.variants.proofs.Firsts.{pattern_lost, pattern_none, pattern_there}
use mathlib.Core.Path.{◌∙◌}
use Rattle.variants.proofs.choose_default.Goals as goal

pub returns-in_err-find_default : goal.returns-in_err-find_default
returns-in_err-find_default c = c.from_residual.ensures ∙ pattern_lost (pattern_none _ _ _ c.find_default.ensures c.in_err-find_default.was)

pub returns : goal.returns
returns c = c.pattern_of.ensures ∙ pattern_there _ _ _ c.find_default.ensures c.in_ok-find_default.was
