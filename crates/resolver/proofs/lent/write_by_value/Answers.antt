-- `resolver::lent::write_by_value` meets its contract: the scope's numbers are put among the others, the pattern is written over them, and the scope is read from them.
use Rattle.resolver.proofs.Whole.{from_state}
use Rattle.resolver.proofs.lent.write_by_value.Goals as goal

pub returns : goal.returns
returns c = (from_state c.set_scope.ensures c.write.ensures, c.scope.ensures)
