-- `resolver::format::is_id_or_none` meets its contract: by whether there is an attribute.
use Rattle.resolution.specs.Format.{is_id_or_none}
use mathlib.Core.Path.{refl}
use Rattle.resolver.proofs.format.is_id_or_none.Goals as goal

pub returns-in-Some : goal.returns-in-Some
unfolding is_id_or_none
returns-in-Some c = rw c.in-Some.is c.is_id.ensures

pub returns-in-None : goal.returns-in-None
unfolding is_id_or_none
returns-in-None c = rw c.in-None.is refl
