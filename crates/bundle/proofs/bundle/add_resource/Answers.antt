-- `bundle::bundle::add_resource` meets its contract: a refusal, or the list of the repeated entries and the item at its place.
use Rattle.bundle.proofs.Adds.{plain_filed, plain_no_place, plain_short}
use Rattle.refusals.proofs.Passed.{passed_on}
use Rattle.bundle.proofs.bundle.add_resource.Goals as goal

pub returns-in_err-place : goal.returns-in_err-place
returns-in_err-place c = plain_no_place _ _ _ c.resource_place.ensures c.in_err-place.was (passed_on _ c.from_residual.ensures.1)

pub returns-in_default : goal.returns-in_default
returns-in_default c = plain_short _ _ _ _ c.resource_place.ensures c.in_ok-place.was c.mark_image.ensures c.list_repeats.ensures c.in_default.is

pub returns : goal.returns
returns c = plain_filed _ _ _ _ c.resource_place.ensures c.in_ok-place.was c.mark_image.ensures c.list_repeats.ensures c.in-Ok.is c.file_resource.ensures
