-- `exports::named` meets its contract: by the mark.
use Rattle.records.specs.Optional.{option_of}
use mathlib.Core.Path.{refl}
use Rattle.exports.proofs.named.Goals as goal

pub returns-then-has : goal.returns-then-has
unfolding option_of
returns-then-has c = rw c.if-has.true refl

pub returns-else-has : goal.returns-else-has
unfolding option_of
returns-else-has c = rw c.if-has.false refl
