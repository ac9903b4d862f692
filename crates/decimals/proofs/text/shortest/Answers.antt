-- `decimals::text::shortest` meets its contract: what is left has the same shortest decimal.
use Rattle.decimals.proofs.Shortest.{shortest_end, shortest_more, shortest_stop}
use mathlib.Core.Path.{◌≡◌, ◌∙◌, sym}
use native.Mathlib.Omega.{arith}
use Rattle.decimals.proofs.text.shortest.Goals as goal

pub loop-s-preserved : goal.loop-s-preserved
loop-s-preserved c = shortest_more c.loop-s.d c.loop-s.s c.loop-s-test.true c.if-d-eq0.true ∙ c.loop-s.invariant

pub returns-else-d-eq0 : goal.returns-else-d-eq0
returns-else-d-eq0 c = sym c.loop-s.invariant ∙ shortest_stop c.loop-s.d c.loop-s.s c.if-d-eq0.false

pub returns-after-loop-s : goal.returns-after-loop-s
returns-after-loop-s c =
    let none : c.loop-s.s ≡ 0 = omega arith in
    rw none (sym c.loop-s.invariant ∙ shortest_end c.loop-s.d c.loop-s.s c.loop-s-test.false)
