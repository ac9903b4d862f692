-- `resolver::reference::lacking` meets its contract: by the kind that is asked for, and by whether there is an attribute.
use Rattle.resolver.proofs.Targets.{lacking_attribute, lacking_term, lacking_value}
use Rattle.resolver.proofs.reference.lacking.Goals as goal

pub returns-then-term : goal.returns-then-term
returns-then-term c = lacking_term c.args.r c.if-term.true

pub returns-in-Some : goal.returns-in-Some
returns-in-Some c = lacking_attribute c.args.r c.if-term.false c.in-Some.is

pub returns-in-None : goal.returns-in-None
returns-in-None c = lacking_value c.args.r c.if-term.false c.in-None.is
