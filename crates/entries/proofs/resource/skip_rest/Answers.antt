-- Past the value, and past the attributes by their count.
use Rattle.entries.specs.Outline.{attributes_outline}
use Rattle.records.proofs.Laws.{next_step, next_stop, num_step, num_stop}
use mathlib.Core.Path.{◌∙◌}
use Rattle.entries.proofs.resource.skip_rest.Goals as goal

pub returns-in_err-p : goal.returns-in_err-p
returns-in_err-p c = c.from_residual.ensures ∙ next_stop _ _ c.skip_value.ensures c.in_err-p.was

pub returns-in_err-count : goal.returns-in_err-count
unfolding attributes_outline
returns-in_err-count c = c.from_residual-in_err-count.ensures ∙ next_step _ _ c.skip_value.ensures c.in_ok-p.was (λ v. num_stop _ _ c.read_u16.ensures c.in_err-count.was)

pub returns : goal.returns
unfolding attributes_outline
returns c = next_step _ _ c.skip_value.ensures c.in_ok-p.was (λ v. num_step _ _ c.read_u16.ensures c.in_ok-count.was c.skip_all_attributes.ensures)
