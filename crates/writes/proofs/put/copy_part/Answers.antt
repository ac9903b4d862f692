-- `writes::put::copy_part` meets its contract: the library copies them, and no bytes are no copy.
use Rattle.writes.proofs.Copies.{copied, not_copied}
use mathlib.Core.Path.{◌∙◌}
use native.Mathlib.Omega.{arith}
use Rattle.writes.proofs.put.copy_part.Goals as goal

pub returns-then-n-gt0 : goal.returns-then-n-gt0
returns-then-n-gt0 c = c.copy_within.ensures.after ∙ copied _ _ _ _ (c.requires.1 c.if-n-gt0.true)

pub returns-else-n-gt0 : goal.returns-else-n-gt0
returns-else-n-gt0 c = not_copied _ _ _ _ (omega arith)
