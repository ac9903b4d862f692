-- `resolver::scope::value::argument_value` meets its contract: each answer of the search is the value that it means.
use Rattle.resolver.proofs.Single.Variables.{local_as, argument_as, argument_missing, argument_nothing, argument_number, argument_text}
use Rattle.std.specs.Prelude.{Some}
use mathlib.Core.Path.{◌∙◌, ap}
use Rattle.resolver.proofs.scope.value.argument_value.Goals as goal

pub returns-in_err-a : goal.returns-in_err-a
returns-in_err-a c = λ i s w low. argument_as i s w low c.in_err-a.was (λ y z. local_as c.from_residual.ensures (argument_missing i s w low))

pub returns-in-Text : goal.returns-in-Text
returns-in-Text c = λ i s w low. argument_as i s w low (c.in_ok-a.was ∙ ap Some c.in-Text.is) (λ y z. argument_text i s w low _ _ y)

pub returns-in-Number : goal.returns-in-Number
returns-in-Number c = λ i s w low. argument_as i s w low (c.in_ok-a.was ∙ ap Some c.in-Number.is) (λ y z. argument_number i s w low _ _ _ c.default.ensures z)

pub returns-in-Nothing : goal.returns-in-Nothing
returns-in-Nothing c = λ i s w low. argument_as i s w low (c.in_ok-a.was ∙ ap Some c.in-Nothing.is) (λ y z. argument_nothing i s w low)
