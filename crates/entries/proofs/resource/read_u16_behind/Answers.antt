-- `entries::resource::read_u16_behind` meets its contract: what is behind the bytes that are skipped.
use mathlib.Core.Path.{◌∙◌}
use Rattle.entries.proofs.Walk.{behind_step, behind_stop}
use Rattle.records.specs.Bytes.{number_at}
use Rattle.entries.proofs.resource.read_u16_behind.Goals as goal

pub returns-in_err-p : goal.returns-in_err-p
returns-in_err-p c = c.from_residual.ensures ∙ behind_stop _ (number_at 2) _ _ c.skip_bytes.ensures c.in_err-p.was

pub returns : goal.returns
returns c = behind_step _ (number_at 2) _ _ c.skip_bytes.ensures c.in_ok-p.was c.read_u16.ensures
