-- `entries::message::find_value` meets its contract: the Flag behind the Id says whether there is one.
use mathlib.Core.Path.{◌∙◌}
use Rattle.entries.proofs.Headers.{value_no_id, value_no_flag, value_absent, value_present}
use Rattle.entries.proofs.message.find_value.Goals as goal

pub returns-in_err-e : goal.returns-in_err-e
returns-in_err-e c = c.from_residual.ensures ∙ value_no_id _ _ c.read_str_behind.ensures c.in_err-e.was

pub returns-in_err-flag : goal.returns-in_err-flag
returns-in_err-flag c = c.from_residual-in_err-flag.ensures ∙ value_no_flag _ _ c.read_str_behind.ensures _ _ c.in_ok-e.was c.read_byte.ensures c.in_err-flag.was

pub returns-then-flag-eq0 : goal.returns-then-flag-eq0
returns-then-flag-eq0 c = value_absent _ _ c.read_str_behind.ensures _ _ c.in_ok-e.was c.read_byte.ensures c.in_ok-flag.was c.if-flag-eq0.true

pub returns : goal.returns
returns c = value_present _ _ c.read_str_behind.ensures _ _ c.in_ok-e.was c.read_byte.ensures c.in_ok-flag.was c.if-flag-eq0.false
