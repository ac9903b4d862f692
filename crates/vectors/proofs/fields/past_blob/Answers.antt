-- `vectors::fields::past_blob` meets its contract: past the length, and past so many bytes.
use Rattle.vectors.proofs.Clamp.{past_blob_is}
use Rattle.vectors.proofs.fields.past_blob.Goals as goal

pub returns : goal.returns
returns c = past_blob_is c.args.s.now c.args.at c.past.ensures c.u32_at.ensures.0 c.past-2.ensures
