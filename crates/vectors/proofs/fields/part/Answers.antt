-- `vectors::fields::part` meets its contract: it is whole where it does not pass the end.
use Rattle.std.proofs.Common.{refl, arith}
use Rattle.vectors.proofs.Clamp.{part_given}
use Rattle.vectors.proofs.fields.part.Goals as goal

pub returns : goal.returns
returns c = part_given c.args.s.now c.args.at c.args.n c.saturating_add.result c.get.result _ c.unwrap_or.result (omega arith) c.saturating_add.ensures c.get.ensures.lookup c.unwrap_or.ensures refl
