-- `resolver::call::answer` meets its contract: what holds the Id tells the answer.
use Rattle.entries.proofs.Located.{holder_at}
use Rattle.resolver.proofs.Answers.{answer_as, answer_function, answer_message, answer_nothing, answer_term}
use Rattle.std.specs.Prelude.{Some}
use mathlib.Core.Path.{◌∙◌, ap}
use Rattle.resolver.proofs.call.answer.Goals as goal

pub returns-in-Some-Function : goal.returns-in-Some-Function
returns-in-Some-Function c = answer_as c.hold.ensures.1 c.hold.ensures.0 (answer_function _ _ _ _ _ _ _ _ _ (holder_at _ _ c.find_holder.ensures) (c.in-Some-Function.is ∙ ap Some c.in-Some-Function.field-0-is) c.number_function-v.ensures c.set_back.ensures)

pub returns-in-Some-Message : goal.returns-in-Some-Message
returns-in-Some-Message c = answer_as c.hold_missing.ensures.1 c.hold_missing.ensures.0 (answer_message _ _ _ _ _ _ _ _ _ (holder_at _ _ c.find_holder.ensures) (c.in-Some-Message.is ∙ ap Some c.in-Some-Message.field-0-is) c.set_back-in-Some-Message.ensures)

pub returns-in-Some-Term : goal.returns-in-Some-Term
returns-in-Some-Term c = answer_as c.hold_missing-in-Some-Term.ensures.1 c.hold_missing-in-Some-Term.ensures.0 (answer_term _ _ _ _ _ _ _ _ _ (holder_at _ _ c.find_holder.ensures) (c.in-Some-Term.is ∙ ap Some c.in-Some-Term.field-0-is) c.set_back-in-Some-Term.ensures)

pub returns-in-None : goal.returns-in-None
returns-in-None c = answer_as c.hold_missing-in-None.ensures.1 c.hold_missing-in-None.ensures.0 (answer_nothing _ _ _ _ _ _ _ _ _ (holder_at _ _ c.find_holder.ensures) c.in-None.is c.missing_function.ensures)
