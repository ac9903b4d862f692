-- `records::literal::check_tagged` meets its contract.
use mathlib.Core.Path.{◌∙◌}
use Rattle.records.proofs.Laws.{fails, is, isnt, num_step, num_stop, passes}
use Rattle.records.specs.Relations.Rule.{tagged_at}
use Rattle.records.proofs.literal.check_tagged.Goals as goal

pub returns-in_err-tag : goal.returns-in_err-tag
unfolding tagged_at
returns-in_err-tag c = c.from_residual.ensures ∙ num_stop _ _ c.read_byte.ensures c.in_err-tag.was

pub returns-then-tag-eq1 : goal.returns-then-tag-eq1
unfolding tagged_at
returns-then-tag-eq1 c = num_step _ _ c.read_byte.ensures c.in_ok-tag.was (is _ _ c.if-tag-eq1.true c.check_ruled.ensures)

pub returns-then-tag-eq2 : goal.returns-then-tag-eq2
unfolding tagged_at
returns-then-tag-eq2 c = num_step _ _ c.read_byte.ensures c.in_ok-tag.was (isnt _ _ c.if-tag-eq1.false (passes _ c.if-tag-eq2.true c.check_ruled-then-tag-eq2.ensures))

pub returns-else-tag-eq2 : goal.returns-else-tag-eq2
unfolding tagged_at
returns-else-tag-eq2 c = num_step _ _ c.read_byte.ensures c.in_ok-tag.was (isnt _ _ c.if-tag-eq1.false (fails _ c.if-tag-eq2.false))
