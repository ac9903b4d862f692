-- `resolver::scope::error::reference_pieces` meets its contract.
use Rattle.resolver.specs.Relations.Leaves.{parted_pieces}
use Rattle.resolver.proofs.Single.Pieces.{reference_bad, reference_is}
use mathlib.Core.Path.{◌∙◌}
use Rattle.resolver.proofs.scope.error.reference_pieces.Goals as goal

pub returns-in_default : goal.returns-in_default
returns-in_default c = c.no_name.ensures ∙ reference_bad _ _ c.in_default.is

pub returns-in-Some-attribute : goal.returns-in-Some-attribute
unfolding parted_pieces
returns-in-Some-attribute c = reference_is _ _ c.in-Some.is c.in-Some-attribute.is

pub returns-in-None : goal.returns-in-None
unfolding parted_pieces
returns-in-None c = reference_is _ _ c.in-Some.is c.in-None.is
