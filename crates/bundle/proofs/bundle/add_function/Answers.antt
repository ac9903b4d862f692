-- `bundle::bundle::add_function` meets its contract: a refusal, or the item at its place.
use Rattle.bundle.proofs.Adds.{function_filed, function_no_place}
use Rattle.refusals.proofs.Passed.{passed_on}
use Rattle.bundle.proofs.bundle.add_function.Goals as goal

pub returns-in_err-place : goal.returns-in_err-place
returns-in_err-place c = function_no_place _ _ _ c.function_place.ensures c.in_err-place.was (passed_on _ c.from_residual.ensures.1)

pub returns : goal.returns
returns c = function_filed _ _ _ c.function_place.ensures c.in_ok-place.was c.file_function.ensures
