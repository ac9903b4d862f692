-- `vectors::fields::u16_at` meets its contract: two bytes, the second held to the end.
use Rattle.std.proofs.Common.{arith, ◌∙◌}
use Rattle.vectors.proofs.Clamp.{u16_is}
use Rattle.vectors.proofs.fields.u16_at.Goals as goal

pub returns : goal.returns
returns c = (u16_is c.args.s.now c.args.at (c.from.ensures ∙ c.byte.ensures) c.past.ensures (c.from-2.ensures ∙ c.byte-2.ensures), omega arith)
