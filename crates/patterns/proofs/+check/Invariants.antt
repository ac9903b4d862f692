-- The measures, and what each loop keeps.
use Prim.Native.Nat.{◌*◌, ◌+◌, ◌-◌}
use Rattle.records.specs.Decode.{elements_at, expression, inline, inlines_at, variant_at, many}
use Rattle.records.specs.Relations.Answer.{next_of}
use Rattle.records.specs.Tree.{no_variant, or}
use mathlib.Core.Path.{◌≡◌}
use Rattle.patterns.proofs.+check.Given as goal

abbrev pub decreases-check_arguments : goal.decreases-check_arguments
decreases-check_arguments l = 8 * l.depth + 3

abbrev pub decreases-check_body : goal.decreases-check_body
decreases-check_body l = 8 * l.depth + 8

abbrev pub decreases-check_element : goal.decreases-check_element
decreases-check_element l = 8 * l.depth + 2

abbrev pub decreases-check_elements : goal.decreases-check_elements
decreases-check_elements l = 8 * l.depth + 3

abbrev pub decreases-check_expression : goal.decreases-check_expression
decreases-check_expression l = 8 * l.depth + 1

abbrev pub decreases-check_inline : goal.decreases-check_inline
decreases-check_inline l = 8 * l.depth + 1

abbrev pub decreases-check_inlines : goal.decreases-check_inlines
decreases-check_inlines l = 8 * l.depth + 2

abbrev pub decreases-check_pattern : goal.decreases-check_pattern
decreases-check_pattern l = 8 * l.depth + 4

abbrev pub decreases-check_select : goal.decreases-check_select
decreases-check_select l = 8 * l.depth + 7

abbrev pub decreases-check_term : goal.decreases-check_term
decreases-check_term l = 8 * l.depth + 4

abbrev pub decreases-check_variant : goal.decreases-check_variant
decreases-check_variant l = 8 * l.depth + 5

abbrev pub decreases-check_variants : goal.decreases-check_variants
decreases-check_variants l = 8 * l.depth + 6

abbrev pub invariant-check_elements-loop : goal.invariant-check_elements-loop
invariant-check_elements-loop l = next_of (elements_at (expression l.depth) (l.count - l.counter) l.s l.at) ≡ next_of (elements_at (expression l.depth) l.count l.s l.from)

abbrev pub invariant-check_inlines-loop : goal.invariant-check_inlines-loop
invariant-check_inlines-loop l = next_of (inlines_at (inline l.depth) (l.count - l.counter) l.s l.at) ≡ next_of (inlines_at (inline l.depth) l.count l.s l.from)

abbrev pub invariant-check_variants-loop : goal.invariant-check_variants-loop
invariant-check_variants-loop l = next_of (many no_variant or (l.count - l.counter) (variant_at (expression l.depth)) l.s l.at) ≡ next_of (many no_variant or l.count (variant_at (expression l.depth)) l.s l.from)
