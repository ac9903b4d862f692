-- `repeats::slots::is_suited` meets its contract: a slot is free, or the entry there has the id or not.
use Rattle.records.proofs.Views.{num_is, num_none}
use Rattle.repeats.proofs.Seeking.{suits_bad, suits_free, suits_span}
use mathlib.Core.Path.{◌∙◌}
use Rattle.repeats.proofs.slots.is_suited.Goals as goal

pub returns-then-p-eq0 : goal.returns-then-p-eq0
returns-then-p-eq0 c = suits_free _ _ c.if-p-eq0.true

pub returns-in_default : goal.returns-in_default
returns-in_default c = suits_bad _ _ c.if-p-eq0.false (num_none c.read_str_behind.ensures c.in_default.is)

pub returns : goal.returns
returns c = c.same_bytes.ensures ∙ suits_span _ _ c.if-p-eq0.false (num_is c.read_str_behind.ensures c.in-Some.is)
