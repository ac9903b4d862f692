-- `arguments::number::has_least_scale` meets its contract: a value without a scale; else a number's scale and digits; any other value has none.
use Rattle.arguments.proofs.Running.{least_digits, least_missing, least_nothing, least_number, least_text, least_zero, whole_least}
use mathlib.Core.Path.{◌∙◌, ap}
use Rattle.std.specs.Prelude.{Some}
use Rattle.arguments.proofs.number.has_least_scale.Goals as goal

pub returns-then-is_whole : goal.returns-then-is_whole
returns-then-is_whole c = whole_least _ _ c.is_whole.ensures c.if-is_whole.true

pub returns-then-scale-eq0 : goal.returns-then-scale-eq0
returns-then-scale-eq0 c = least_number c.read_argument_value.ensures (c.in-Some-Number.is ∙ ap Some c.in-Some-Number.field-0-is) (least_zero _ _ _ c.if-scale-eq0.true)

pub returns-else-scale-eq0 : goal.returns-else-scale-eq0
returns-else-scale-eq0 c = least_number c.read_argument_value.ensures (c.in-Some-Number.is ∙ ap Some c.in-Some-Number.field-0-is) (least_digits _ _ _ c.if-scale-eq0.false)

pub returns-in-Some-Text : goal.returns-in-Some-Text
returns-in-Some-Text c = least_text c.read_argument_value.ensures (c.in-Some-Text.is ∙ ap Some c.in-Some-Text.field-0-is)

pub returns-in-Some-Nothing : goal.returns-in-Some-Nothing
returns-in-Some-Nothing c = least_nothing c.read_argument_value.ensures (c.in-Some-Nothing.is ∙ ap Some c.in-Some-Nothing.field-0-is)

pub returns-in-None : goal.returns-in-None
returns-in-None c = least_missing c.read_argument_value.ensures c.in-None.is
