-- `arguments::find::find_argument` meets its contract: from the last place that is not above, one by one.
use Rattle.arguments.proofs.Placed.{found_here, found_none, low_in}
use native.Mathlib.Omega.{arith}
use Rattle.arguments.proofs.find.find_argument.Goals as goal

pub returns-in_err-count : goal.returns-in_err-count
returns-in_err-count c = found_none _ _ _ c.read_u16.ensures c.in_err-count.was c.from_residual.ensures

pub overflow_sub-count : goal.overflow_sub-count
overflow_sub-count c = let h = low_in _ _ _ _ c.find_place-j.ensures in omega arith

pub returns : goal.returns
returns c = found_here _ _ _ c.read_u16.ensures c.in_ok-count.was c.find_place-j.ensures c.scan.ensures
