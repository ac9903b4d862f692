-- `resolver::scope::value::literal_number` meets its contract: the value is that of what was read.
use Rattle.literals.specs.Relations.Shown.{literal_of}
use Rattle.resolver.specs.Relations.Values.{literal_valued}
use mathlib.Core.Path.{◌∙◌, ap, sym}
use Rattle.resolver.proofs.scope.value.literal_number.Goals as goal

pub returns-in_default : goal.returns-in_default
unfolding literal_valued
returns-in_default c = sym (ap literal_valued c.in_default.is) ∙ ap literal_valued (c.read_literal.ensures ∙ ap literal_of c.text_of.ensures)

pub returns : goal.returns
unfolding literal_valued
returns c = sym (ap literal_valued c.in-Some.is) ∙ ap literal_valued (c.read_literal.ensures ∙ ap literal_of c.text_of.ensures)
