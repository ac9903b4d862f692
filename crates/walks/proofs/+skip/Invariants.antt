-- The measures, and what the loop keeps.
use Prim.Native.Nat.{◌*◌, ◌+◌, ◌-◌}
use Rattle.walks.specs.Outline.{expression_outline, many_outline}
use Rattle.records.specs.Relations.Answer.{next_of}
use mathlib.Core.Path.{◌≡◌}
use Rattle.walks.proofs.+skip.Given as goal

abbrev pub decreases-skip_arguments : goal.decreases-skip_arguments
decreases-skip_arguments l = 5 * l.left + 2

abbrev pub decreases-skip_expression : goal.decreases-skip_expression
decreases-skip_expression l = 5 * l.left

abbrev pub decreases-skip_inlines : goal.decreases-skip_inlines
decreases-skip_inlines l = 5 * l.left + 1

abbrev pub decreases-skip_rest : goal.decreases-skip_rest
decreases-skip_rest l = 5 * l.left + 4

abbrev pub decreases-skip_term_arguments : goal.decreases-skip_term_arguments
decreases-skip_term_arguments l = 5 * l.left + 3

abbrev pub invariant-skip_inlines-loop : goal.invariant-skip_inlines-loop
invariant-skip_inlines-loop l = next_of (many_outline (l.count - l.counter) (expression_outline l.left) l.s l.at) ≡ next_of (many_outline l.count (expression_outline l.left) l.s l.from)
