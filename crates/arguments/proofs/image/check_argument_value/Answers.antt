-- The tag decides what follows.
use mathlib.Core.Path.{◌∙◌}
use Rattle.records.proofs.Laws.{fails, isnt, next_end, next_got, num_step, num_stop, is as is-tag, passes}
use Rattle.records.specs.Images.{argument_value_at}
use Rattle.records.specs.Relations.Rule.{rule_of}
use Rattle.arguments.proofs.image.check_argument_value.Goals as goal

pub returns-in_err-tag : goal.returns-in_err-tag
unfolding argument_value_at
returns-in_err-tag c = c.from_residual.ensures ∙ num_stop _ _ c.read_byte.ensures c.in_err-tag.was

pub returns-then-tag-eq1 : goal.returns-then-tag-eq1
unfolding argument_value_at rule_of
returns-then-tag-eq1 c = num_step _ _ c.read_byte.ensures c.in_ok-tag.was (is-tag _ _ c.if-tag-eq1.true (next_end _ _ c.check_ruled.ensures))

pub returns-then-tag-eq2 : goal.returns-then-tag-eq2
unfolding argument_value_at
returns-then-tag-eq2 c = num_step _ _ c.read_byte.ensures c.in_ok-tag.was (isnt _ _ c.if-tag-eq1.false (is-tag _ _ c.if-tag-eq2.true c.check_argument_number.ensures))

pub returns-then-tag-eq3 : goal.returns-then-tag-eq3
unfolding argument_value_at
returns-then-tag-eq3 c = num_step _ _ c.read_byte.ensures c.in_ok-tag.was (isnt _ _ c.if-tag-eq1.false (isnt _ _ c.if-tag-eq2.false (passes _ c.if-tag-eq3.true (next_got _ _))))

pub returns-else-tag-eq3 : goal.returns-else-tag-eq3
unfolding argument_value_at
returns-else-tag-eq3 c = num_step _ _ c.read_byte.ensures c.in_ok-tag.was (isnt _ _ c.if-tag-eq1.false (isnt _ _ c.if-tag-eq2.false (fails _ c.if-tag-eq3.false)))
