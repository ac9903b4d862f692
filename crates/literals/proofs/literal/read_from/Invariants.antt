-- `literals::literal::read_from` meets its contract: what is left is read on from what was read, and there is room for its digits.
use Rattle.literals.proofs.Reading.{Fine}
use Rattle.literals.specs.Literal.{read_from, read_start}
use Rattle.literals.specs.Relations.Shown.{told_read}
use lib.ListN.{drop}
use mathlib.Core.Path.{◌≡◌}
use Rattle.literals.proofs.literal.read_from.Given as goal

abbrev pub invariant-loop-b : goal.invariant-loop-b
invariant-loop-b l = (read_from (drop l.b-index l.s) (told_read l.r) ≡ read_from l.s read_start) × Fine (told_read l.r) (drop l.b-index l.s)
