-- `resolver::scope::variable::write_variable` meets its contract: the value's text where the variable is there, else its name in braces.
use Rattle.resolver.proofs.Single.Acting.{braced_acts, missing_acts, value_acts}
use Rattle.resolver.proofs.Single.Variables.{write_found, write_missing}
use Rattle.resolver.proofs.scope.variable.write_variable.Goals as goal

pub returns-in_default : goal.returns-in_default
returns-in_default c = λ t. write_missing _ _ _ _ _ _ _ _ t _ c.text_of-name.ensures (λ u L q k lv. c.find_variable.ensures u _ _ _ t L q k lv) c.in_default.is (missing_acts c.list_variable.ensures) (braced_acts _ _ _ c.put_braced.ensures _ _ t)

pub returns : goal.returns
returns c = λ t. write_found _ _ _ _ _ _ _ _ t _ c.text_of-name.ensures (λ u L q k lv. c.find_variable.ensures u _ _ _ t L q k lv) c.in-Some.is ((value_acts _ _ _ c.put_value.ensures).0 _ t) (λ y hy. (value_acts _ _ _ c.put_value.ensures).1 y hy _ t)
