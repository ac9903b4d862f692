-- The loops, and what the check does not find alone.
use mathlib.Core.Path.{◌∙◌}
use Rattle.records.proofs.Laws.{next_end, num_step, isnt, is as is-tag, turn_end, turn_next, turn_stop, expression_deeper, inline_deeper}
use Rattle.records.specs.Decode.{element_at, text_read_at, elements_at, expression, expr_at, inline_at, inline, inlines_at, variant_at}
use Rattle.records.specs.Relations.Rule.{rule_of}
use Rattle.records.specs.Tree.{more, no_more, and, no_inline, no_variant, or}
use Rattle.patterns.proofs.+check.Goals as goal

pub check_element-returns-in-1 : goal.check_element-returns-in-1
unfolding element_at text_read_at rule_of
check_element-returns-in-1 t c = num_step _ _ c.read_byte.ensures c.in_ok-tag.was (is-tag _ _ c.in-1.is (next_end _ _ c.check_ruled.ensures))

pub check_elements-returns-in_err-at : goal.check_elements-returns-in_err-at
unfolding elements_at
check_elements-returns-in_err-at t c = c.from_residual.ensures ∙ turn_stop no_more more (element_at (expression c.args.depth)) c.args.s.now c.args.count c.loop.counter c.loop.at c.loop.invariant c.loop-test.true c.check_element.ensures c.in_err-at.was

pub check_elements-loop-preserved : goal.check_elements-loop-preserved
unfolding elements_at
check_elements-loop-preserved t c = turn_next no_more more (element_at (expression c.args.depth)) c.args.s.now c.args.count c.loop.counter c.loop.at c.loop.invariant c.loop-test.true c.check_element.ensures c.in_ok-at.was

pub check_elements-returns : goal.check_elements-returns
unfolding elements_at
check_elements-returns t c = turn_end no_more more (element_at (expression c.args.depth)) c.args.s.now c.args.count c.loop.counter c.loop.at c.loop.invariant c.loop-test.false

pub check_expression-returns-else-tag-eq8 : goal.check_expression-returns-else-tag-eq8
unfolding expr_at
check_expression-returns-else-tag-eq8 t c = expression_deeper _ _ _ c.if-depth-eq0.false (num_step _ _ c.read_byte.ensures c.in_ok-tag.was (isnt _ _ c.if-tag-eq8.false (next_end _ _ c.check_body.ensures)))

pub check_inline-returns : goal.check_inline-returns
unfolding inline_at
check_inline-returns t c = inline_deeper _ _ _ c.if-depth-eq0.false (num_step _ _ c.read_byte.ensures c.in_ok-tag.was c.check_body.ensures)

pub check_inlines-returns-in_err-at : goal.check_inlines-returns-in_err-at
unfolding inlines_at
check_inlines-returns-in_err-at t c = c.from_residual.ensures ∙ turn_stop no_inline and (inline c.args.depth) c.args.s.now c.args.count c.loop.counter c.loop.at c.loop.invariant c.loop-test.true c.check_inline.ensures c.in_err-at.was

pub check_inlines-loop-preserved : goal.check_inlines-loop-preserved
unfolding inlines_at
check_inlines-loop-preserved t c = turn_next no_inline and (inline c.args.depth) c.args.s.now c.args.count c.loop.counter c.loop.at c.loop.invariant c.loop-test.true c.check_inline.ensures c.in_ok-at.was

pub check_inlines-returns : goal.check_inlines-returns
unfolding inlines_at
check_inlines-returns t c = turn_end no_inline and (inline c.args.depth) c.args.s.now c.args.count c.loop.counter c.loop.at c.loop.invariant c.loop-test.false

pub check_variants-returns-in_err-at : goal.check_variants-returns-in_err-at
check_variants-returns-in_err-at t c = c.from_residual.ensures ∙ turn_stop no_variant or (variant_at (expression c.args.depth)) c.args.s.now c.args.count c.loop.counter c.loop.at c.loop.invariant c.loop-test.true c.check_variant.ensures c.in_err-at.was

pub check_variants-loop-preserved : goal.check_variants-loop-preserved
check_variants-loop-preserved t c = turn_next no_variant or (variant_at (expression c.args.depth)) c.args.s.now c.args.count c.loop.counter c.loop.at c.loop.invariant c.loop-test.true c.check_variant.ensures c.in_ok-at.was

pub check_variants-returns : goal.check_variants-returns
check_variants-returns t c = turn_end no_variant or (variant_at (expression c.args.depth)) c.args.s.now c.args.count c.loop.counter c.loop.at c.loop.invariant c.loop-test.false
