-- `resolver::scope::put::put_pieces` meets its contract: the pieces written one after the other.
use Rattle.resolver.proofs.Single.Acting.{braced_acts}
use Rattle.resolver.proofs.Single.Pieces.{pieces_written}
use Rattle.resolver.proofs.scope.put.put_pieces.Goals as goal

pub returns : goal.returns
returns c = λ i l t. pieces_written _ _ _ c.text_of-head.ensures c.text_of-id.ensures c.text_of-joint.ensures c.text_of-attribute.ensures (braced_acts _ _ _ c.put_braced.ensures i l t) (braced_acts _ _ _ c.put_braced-2.ensures i l t)
