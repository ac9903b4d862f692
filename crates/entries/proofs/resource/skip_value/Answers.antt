-- `entries::resource::skip_value` meets its contract: the Flag says whether a pattern follows.
use mathlib.Core.Path.{◌∙◌}
use Rattle.entries.specs.Outline.{value_outline}
use Rattle.walks.specs.Outline.{optional_outline, pattern_outline}
use Rattle.records.proofs.Laws.{num_stop, num_step, is, isnt, next_got, next_end}
use Rattle.entries.proofs.resource.skip_value.Goals as goal

pub returns-in_err-flag : goal.returns-in_err-flag
unfolding value_outline optional_outline
returns-in_err-flag c = c.from_residual.ensures ∙ num_stop _ _ c.read_byte.ensures c.in_err-flag.was

pub returns-then-flag-eq0 : goal.returns-then-flag-eq0
unfolding value_outline optional_outline
returns-then-flag-eq0 c = num_step _ _ c.read_byte.ensures c.in_ok-flag.was (is _ _ c.if-flag-eq0.true (next_got _ _))

pub returns : goal.returns
unfolding value_outline optional_outline pattern_outline
returns c = num_step _ _ c.read_byte.ensures c.in_ok-flag.was (isnt _ _ c.if-flag-eq0.false (next_end _ _ c.skip_pattern.ensures))
