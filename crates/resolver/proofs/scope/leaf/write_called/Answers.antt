-- `resolver::scope::leaf::write_called` meets its contract: what the call led to, and then what is written of its result.
use Rattle.records.proofs.Views.{str_bad}
use Rattle.resolver.proofs.Inlines.{inline_called, inline_uncalled}
use Rattle.resolver.proofs.scope.leaf.write_called.Goals as goal

pub returns-in_default : goal.returns-in_default
returns-in_default c = λ t q left at tag w₀ hb is g. inline_uncalled _ _ _ _ _ hb is (str_bad _ _ c.read_str.ensures c.in_default.is) g

pub returns : goal.returns
returns c = λ t q left at tag w₀ hb is g. inline_called _ _ _ _ _ hb c.read_str.ensures c.in-Some.is is g (c.write_result.ensures _ _)
