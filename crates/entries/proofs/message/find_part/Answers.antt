-- `entries::message::find_part` meets its contract: by what is asked.
use Rattle.entries.specs.Outline.{part_in}
use Rattle.entries.proofs.message.find_part.Goals as goal

pub returns-in-Some : goal.returns-in-Some
unfolding part_in
returns-in-Some c = rw c.in-Some.is c.find_attribute.ensures

pub returns-in-None : goal.returns-in-None
unfolding part_in
returns-in-None c = rw c.in-None.is c.find_value.ensures
