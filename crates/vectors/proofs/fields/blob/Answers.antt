-- `vectors::fields::blob` meets its contract: so many bytes as the length says.
use Rattle.vectors.proofs.Clamp.{blob_is}
use Rattle.vectors.proofs.fields.blob.Goals as goal

pub returns : goal.returns
returns c = blob_is c.args.s.now c.args.at c.past.ensures c.u32_at.ensures.0 c.part.ensures
