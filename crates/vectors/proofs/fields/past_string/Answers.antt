-- `vectors::fields::past_string` meets its contract: past the length, and past so many bytes.
use Rattle.vectors.proofs.Clamp.{past_string_is}
use Rattle.vectors.proofs.fields.past_string.Goals as goal

pub returns : goal.returns
returns c = past_string_is c.args.s.now c.args.at c.past.ensures c.u16_at.ensures.0 c.past-2.ensures
