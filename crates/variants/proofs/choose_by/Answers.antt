-- `variants::choose_by` meets its contract: by a key, or the first default.
use Rattle.variants.proofs.Firsts.{by_default, by_key, pattern_none, pattern_there}
use mathlib.Core.Path.{◌∙◌}
use Rattle.variants.proofs.choose_by.Goals as goal

pub returns-in-None : goal.returns-in-None
returns-in-None c = c.choose_default.ensures ∙ by_default _ _ _ _ (pattern_none _ _ _ c.search.ensures c.in-None.is)

pub returns-in-Some : goal.returns-in-Some
returns-in-Some c = c.pattern_of.ensures ∙ pattern_there _ _ _ c.search.ensures c.in-Some.is ∙ by_key _ _ _ _ c.search.ensures c.in-Some.is
