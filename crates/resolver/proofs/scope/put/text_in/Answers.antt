-- `resolver::scope::put::text_in` meets its contract: the part is of the slice that the value names.
use Rattle.resolver.proofs.Single.Buffers.{text_in_args, text_in_none, text_in_store}
use mathlib.Core.Path.{◌∙◌}
use Rattle.resolver.proofs.scope.put.text_in.Goals as goal

pub returns-in-Store : goal.returns-in-Store
returns-in-Store c = c.text_of.ensures ∙ text_in_store _ _ c.in-Store.is

pub returns-in-Args : goal.returns-in-Args
returns-in-Args c = c.text_of-in-Args.ensures ∙ text_in_args _ _ c.in-Args.is

pub returns-in_default : goal.returns-in_default
returns-in_default c = text_in_none _ _ _ c.in_default.not-Store c.in_default.not-Args
