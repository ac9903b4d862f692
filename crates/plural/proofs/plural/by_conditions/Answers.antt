-- `plural::plural::by_conditions` meets its contract: what the code has of a whole number stands for its operands.
use Rattle.plural.specs.Plural.{whole_operands}
use mathlib.Core.Path.{refl}
use Rattle.plural.proofs.plural.by_conditions.Goals as goal

pub returns : goal.returns
unfolding whole_operands
returns c = c.conditions.ensures (whole_operands c.args.n) (record { i = refl; v = refl; t = refl })
