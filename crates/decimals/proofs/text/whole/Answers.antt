-- `decimals::text::whole` meets its contract: a power that no u64 holds is above all digits.
use native.Mathlib.Nat.{div-eq_of_lt, one-le-pow}
use native.Mathlib.Omega.{arith}
use mathlib.Core.Path.{sym}
use Rattle.decimals.proofs.text.whole.Goals as goal

pub nonzero_div-result : goal.nonzero_div-result
nonzero_div-result c = let power = c.in-Some.ensures in omega (arith, power, one-le-pow c.from.result 10 (omega arith))

pub returns-in-None : goal.returns-in-None
returns-in-None c = let above = rw c.from.ensures at c.in-None.ensures in sym (div-eq_of_lt (omega (arith, above)))

pub returns-in-Some : goal.returns-in-Some
returns-in-Some c = rw ((c.in-Some.ensures).1, c.from.ensures)
