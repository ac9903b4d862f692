-- `order::is_before` meets its contract: the order is that of the library.
use Rattle.order.proofs.Compared.{before_same}
use Rattle.order.proofs.is_before.Goals as goal

pub returns : goal.returns
returns c = before_same c.args.a.now c.args.b.now _ c.lt.ensures
