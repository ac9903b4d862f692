-- `resolver::scope::put::put_error` meets its contract: the pieces of the expression, written.
use Rattle.resolver.proofs.Single.Pieces.{error_written}
use Rattle.resolver.proofs.scope.put.put_error.Goals as goal

pub returns : goal.returns
returns c = error_written c.error_pieces-p.ensures (λ l t. c.put_pieces.ensures _ l t)
