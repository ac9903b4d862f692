-- `records::check_named` meets its contract.
use mathlib.Core.Path.{◌∙◌}
use Rattle.records.proofs.Laws.{next_end, next_step, next_stop}
use Rattle.records.specs.Decode.{named_at}
use Rattle.records.proofs.call_arguments.check_named.Goals as goal

pub returns-in_err-e : goal.returns-in_err-e
unfolding named_at
returns-in_err-e c = c.from_residual.ensures ∙ next_stop _ _ c.check_id.ensures c.in_err-e.was

pub returns : goal.returns
unfolding named_at
returns c =
    next_step _ _ c.check_id.ensures c.in_ok-e.was (λ n. next_end _ _ c.check_literal.ensures)
