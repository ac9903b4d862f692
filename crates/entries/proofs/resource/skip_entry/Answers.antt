-- `entries::resource::skip_entry` meets its contract: past the Id, and past what follows it.
use mathlib.Core.Path.{◌∙◌}
use Rattle.entries.proofs.Headers.{entry_bad, entry_rest}
use Rattle.entries.proofs.resource.skip_entry.Goals as goal

pub returns-in_err-e : goal.returns-in_err-e
returns-in_err-e c = c.from_residual.ensures ∙ entry_bad _ _ c.read_str_behind.ensures c.in_err-e.was

pub returns : goal.returns
returns c = entry_rest _ _ c.read_str_behind.ensures _ _ c.in_ok-e.was c.skip_rest.ensures
