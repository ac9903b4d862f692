-- `records::skip_str` meets its contract.
use mathlib.Core.Path.{◌∙◌}
use Rattle.records.proofs.Laws.{next_got, num_step, num_stop}
use Rattle.records.specs.Bytes.{str_at}
use Rattle.records.proofs.bytes.skip_str.Goals as goal

pub returns-in_err-e : goal.returns-in_err-e
unfolding str_at
returns-in_err-e c = c.from_residual.ensures ∙ num_stop _ _ c.read_str.ensures c.in_err-e.was

pub returns : goal.returns
unfolding str_at
returns c = num_step _ _ c.read_str.ensures c.in_ok-e.was (next_got _ _)
