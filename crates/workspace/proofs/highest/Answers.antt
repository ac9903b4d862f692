-- `workspace::highest` meets its contract: the use so far where there is no use now, else the greater of the two.
use Rattle.workspace.proofs.Laws.{beyond, crossed, higher_now, lower_now}
use mathlib.Core.Path.{sym}
use native.Mathlib.Omega.{arith}
use Rattle.workspace.proofs.highest.Goals as goal

pub returns-then-back-front : goal.returns-then-back-front
returns-then-back-front c = sym (crossed _ _ _ _ (omega (arith, c.if-back-front.true)))

pub returns-then-len-back : goal.returns-then-len-back
returns-then-len-back c = sym (beyond _ _ _ _ (omega (arith, c.if-len-back.true)))

pub returns-then-high-used : goal.returns-then-high-used
returns-then-high-used c = higher_now _ _ _ _ (omega (arith, c.if-back-front.false)) (omega (arith, c.if-len-back.false)) (omega (arith, c.if-high-used.true))

pub returns : goal.returns
returns c = lower_now _ _ _ _ (omega (arith, c.if-back-front.false)) (omega (arith, c.if-len-back.false)) (omega (arith, c.if-high-used.false))
