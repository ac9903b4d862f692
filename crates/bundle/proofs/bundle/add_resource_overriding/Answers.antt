-- `bundle::bundle::add_resource_overriding` meets its contract: a refusal, or the item at its place.
use Rattle.bundle.proofs.Adds.{over_filed, over_no_place}
use Rattle.refusals.proofs.Passed.{passed_on}
use Rattle.bundle.proofs.bundle.add_resource_overriding.Goals as goal

pub returns-in_err-place : goal.returns-in_err-place
returns-in_err-place c = over_no_place _ _ c.resource_place.ensures c.in_err-place.was (passed_on _ c.from_residual.ensures.1)

pub returns : goal.returns
returns c = over_filed _ _ c.resource_place.ensures c.in_ok-place.was c.file_resource.ensures
