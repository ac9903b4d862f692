-- `resolver::scope::value::find_variable` meets its contract: among the term's arguments where there are any, else among the formatting's.
use Rattle.arguments.proofs.Placed.{found_means, found_within}
use Rattle.resolver.proofs.Single.Variables.{variable_given, variable_inside}
use Rattle.resolver.proofs.scope.value.find_variable.Goals as goal

pub returns-then-st : goal.returns-then-st
returns-then-st c = λ u x l w t L q k lv. variable_inside _ _ _ _ lv.locals c.if-st.true (λ low f ns h n. c.find_local.ensures _ w low f ns h n)

pub returns : goal.returns
returns c = λ u x l w t L q k lv. variable_given _ _ _ _ u.given_at lv.locals c.if-st.false (found_within c.find_argument.ensures) (found_means c.find_argument.ensures u.noted u.given u.given_at) (λ low y z. c.argument_value.ensures _ _ w low y z)
