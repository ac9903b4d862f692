-- `resolver::reference::count_if` meets its contract: by the two cases.
use Rattle.resolver.specs.Relations.Targets.{count_if}
use Rattle.resolver.proofs.reference.count_if.Goals as goal

pub returns-then-lost : goal.returns-then-lost
unfolding count_if
returns-then-lost c = rw c.if-lost.true c.count_unfound.ensures

pub returns-else-lost : goal.returns-else-lost
unfolding count_if
returns-else-lost c = rw c.if-lost.false
