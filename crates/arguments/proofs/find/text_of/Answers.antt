-- The part where there is one, and else nothing.
use Rattle.arguments.proofs.Laws.{part_or_none}
use mathlib.Core.Path.{refl}
use Rattle.arguments.proofs.find.text_of.Goals as goal

pub returns : goal.returns
returns c = part_or_none c.args.args.now c.args.a c.args.e c.get.result c.get.ensures.lookup _ c.unwrap_or.ensures refl
