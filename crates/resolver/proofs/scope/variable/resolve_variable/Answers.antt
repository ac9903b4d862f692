-- `resolver::scope::variable::resolve_variable` meets its contract: the value where the variable is there, else Error.
use Rattle.resolver.proofs.Single.Acting.{missing_acts}
use Rattle.resolver.proofs.Single.Variables.{resolve_found, resolve_missing}
use Rattle.resolver.proofs.scope.variable.resolve_variable.Goals as goal

pub returns-in_default : goal.returns-in_default
returns-in_default c = λ x w t. resolve_missing _ _ _ _ _ x _ w t _ c.text_of-name.ensures (λ u L q k lv. c.find_variable.ensures u x _ w t L q k lv) c.in_default.is (missing_acts c.list_variable.ensures)

pub returns : goal.returns
returns c = λ x w t. resolve_found _ _ _ _ _ x _ w t _ c.text_of-name.ensures (λ u L q k lv. c.find_variable.ensures u x _ w t L q k lv) c.in-Some.is
