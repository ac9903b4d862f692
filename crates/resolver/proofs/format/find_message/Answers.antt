-- `resolver::format::find_message` meets its contract: by what holds the id, and then by the part.
use Rattle.resolver.proofs.Patterns.{found_function, found_nothing, found_part, found_term_law}
use Rattle.std.specs.Prelude.{Some}
use mathlib.Core.Path.{◌∙◌, ap}
use Rattle.resolver.proofs.format.find_message.Goals as goal

pub returns-in-Some-Message : goal.returns-in-Some-Message
returns-in-Some-Message c = found_part _ _ _ c.find_holder.ensures (c.in-Some-Message.is ∙ ap Some c.in-Some-Message.field-0-is) c.find_part.ensures c.ok_or.ensures.value

pub returns-in-Some-Term : goal.returns-in-Some-Term
returns-in-Some-Term c = found_term_law _ _ _ c.find_holder.ensures (c.in-Some-Term.is ∙ ap Some c.in-Some-Term.field-0-is)

pub returns-in-Some-Function : goal.returns-in-Some-Function
returns-in-Some-Function c = found_function _ _ _ c.find_holder.ensures (c.in-Some-Function.is ∙ ap Some c.in-Some-Function.field-0-is)

pub returns-in-None : goal.returns-in-None
returns-in-None c = found_nothing _ _ _ c.find_holder.ensures c.in-None.is
