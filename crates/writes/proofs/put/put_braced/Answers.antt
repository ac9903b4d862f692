-- `writes::put::put_braced` meets its contract: three writes.
use Rattle.writes.proofs.Laws.{written_three}
use Rattle.writes.proofs.put.put_braced.Goals as goal

pub returns : goal.returns
returns c = written_three _ _ _ _ _ _ c.put.ensures c.put-2.ensures c.put-3.ensures
