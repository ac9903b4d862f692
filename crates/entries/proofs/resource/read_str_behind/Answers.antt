-- `entries::resource::read_str_behind` meets its contract: what is behind the bytes that are skipped.
use mathlib.Core.Path.{◌∙◌}
use Rattle.entries.proofs.Walk.{behind_step, behind_stop}
use Rattle.records.specs.Bytes.{span_at}
use Rattle.entries.proofs.resource.read_str_behind.Goals as goal

pub returns-in_err-p : goal.returns-in_err-p
returns-in_err-p c = c.from_residual.ensures ∙ behind_stop _ span_at _ _ c.skip_bytes.ensures c.in_err-p.was

pub returns : goal.returns
returns c = behind_step _ span_at _ _ c.skip_bytes.ensures c.in_ok-p.was c.read_str.ensures
