-- `vectors::fields::u64_at` meets its contract: two u32, the second held to the end.
use Rattle.vectors.proofs.Clamp.{u64_is}
use Rattle.vectors.proofs.fields.u64_at.Goals as goal

pub returns : goal.returns
returns c = u64_is c.args.s.now c.args.at c.u32_at.ensures.0 c.past.ensures c.u32_at-2.ensures.0
