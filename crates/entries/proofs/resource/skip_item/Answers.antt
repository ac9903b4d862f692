-- `entries::resource::skip_item` meets its contract: behind the mode byte stands a record that fills its length.
use mathlib.Core.Path.{◌∙◌}
use Rattle.entries.specs.Outline.{item_outline}
use Rattle.records.proofs.Laws.{next_end, next_step, next_stop, num_step, num_stop}
use Rattle.entries.proofs.resource.skip_item.Goals as goal

pub returns-in_err-p : goal.returns-in_err-p
unfolding item_outline
returns-in_err-p c = c.from_residual.ensures ∙ next_stop _ _ c.skip_bytes.ensures c.in_err-p.was

pub returns-in_err-n : goal.returns-in_err-n
unfolding item_outline
returns-in_err-n c = c.from_residual-in_err-n.ensures ∙ next_step _ _ c.skip_bytes.ensures c.in_ok-p.was (λ b. num_stop _ _ c.read_u32.ensures c.in_err-n.was)

pub returns : goal.returns
unfolding item_outline
returns c = next_step _ _ c.skip_bytes.ensures c.in_ok-p.was (λ b. num_step _ _ c.read_u32.ensures c.in_ok-n.was (next_end _ _ c.skip_bytes-2.ensures))
