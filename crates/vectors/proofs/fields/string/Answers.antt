-- `vectors::fields::string` meets its contract: so many bytes as the length says.
use Rattle.vectors.proofs.Clamp.{string_is}
use Rattle.vectors.proofs.fields.string.Goals as goal

pub returns : goal.returns
returns c = string_is c.args.s.now c.args.at c.past.ensures c.u16_at.ensures.0 c.part.ensures
