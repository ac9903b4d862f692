-- `writes::put::put_fsi` meets its contract: by the condition.
use Rattle.writes.proofs.Laws.{where_off, where_on}
use Rattle.writes.proofs.put.put_fsi.Goals as goal

pub returns-then-on : goal.returns-then-on
returns-then-on c = where_on _ _ _ _ c.if-on.true c.put.ensures

pub returns-else-on : goal.returns-else-on
returns-else-on c = where_off _ _ _ _ c.if-on.false
