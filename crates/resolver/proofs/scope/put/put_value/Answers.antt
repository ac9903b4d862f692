-- `resolver::scope::put::put_value` meets its contract, by what the value is.
use Rattle.resolver.proofs.Single.Buffers.{bytes_number, bytes_text, bytes_work}
use Rattle.writes.proofs.Laws.{written_of}
use mathlib.Core.Path.{◌∙◌}
use Rattle.resolver.proofs.scope.put.put_value.Goals as goal

pub returns-in-Work : goal.returns-in-Work
returns-in-Work c = written_of _ _ _ _ _ c.put_work.ensures (bytes_work _ _ _ c.in-Work.is)

pub returns-in-Number : goal.returns-in-Number
returns-in-Number c = written_of _ _ _ _ _ c.put_number.ensures (bytes_number _ _ _ c.in-Number.is)

pub returns-in_default : goal.returns-in_default
returns-in_default c = written_of _ _ _ _ _ c.put.ensures (c.text_in.ensures ∙ bytes_text _ _ _ _ c.in_default.not-Work c.in_default.not-Number)
