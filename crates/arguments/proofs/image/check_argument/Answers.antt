-- An Id, and a value.
use mathlib.Core.Path.{◌∙◌}
use Rattle.records.proofs.Laws.{next_end, next_step, next_stop}
use Rattle.records.specs.Images.{argument_at}
use Rattle.arguments.proofs.image.check_argument.Goals as goal

pub returns-in_err-e : goal.returns-in_err-e
unfolding argument_at
returns-in_err-e c = c.from_residual.ensures ∙ next_stop _ _ c.check_id.ensures c.in_err-e.was

pub returns : goal.returns
unfolding argument_at
returns c = next_step _ _ c.check_id.ensures c.in_ok-e.was (λ _. next_end _ _ c.check_argument_value.ensures)
