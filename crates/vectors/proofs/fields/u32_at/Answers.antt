-- `vectors::fields::u32_at` meets its contract: two u16, the second held to the end.
use Rattle.vectors.proofs.Clamp.{u32_is}
use Rattle.std.proofs.Common.{arith}
use Rattle.vectors.proofs.fields.u32_at.Goals as goal

pub returns : goal.returns
returns c = (u32_is c.args.s.now c.args.at c.u16_at.ensures.0 c.past.ensures c.u16_at-2.ensures.0, omega arith)
