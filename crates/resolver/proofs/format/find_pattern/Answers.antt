-- `resolver::format::find_pattern` meets its contract: each refusal in its order, and then the message's pattern.
use Rattle.records.proofs.Views.{next_is, next_none}
use Rattle.refusals.proofs.Passed.{passed_for}
use Rattle.resolver.proofs.Patterns.{message_found_law, pattern_no_attribute_id, pattern_no_id, pattern_no_store, pattern_of_law}
use mathlib.Core.Path.{◌∙◌, refl, sym}
use Rattle.resolver.proofs.format.find_pattern.Goals as goal

pub returns-in_err-ok_or : goal.returns-in_err-ok_or
returns-in_err-ok_or c = pattern_no_store _ _ _ (next_none c.check_store.ensures c.in_err-ok_or.ensures.ok_part) (passed_for _ c.in_err-ok_or.ensures.ok_part c.in_err-ok_or.ensures.value c.from_residual.ensures.1)

pub returns-then-not-is_id : goal.returns-then-not-is_id
returns-then-not-is_id c = next_is c.check_store.ensures c.in_ok-ok_or.ensures.ok_part (λ st h. pattern_no_id _ _ _ h (sym c.is_id.ensures ∙ c.if-not-is_id.true) refl)

pub returns-then-not-is_id_or_none : goal.returns-then-not-is_id_or_none
returns-then-not-is_id_or_none c = next_is c.check_store.ensures c.in_ok-ok_or.ensures.ok_part (λ st h. pattern_no_attribute_id _ _ _ h (sym c.is_id.ensures ∙ c.if-not-is_id.false) (sym c.is_id_or_none.ensures ∙ c.if-not-is_id_or_none.true) refl)

pub returns : goal.returns
returns c = next_is c.check_store.ensures c.in_ok-ok_or.ensures.ok_part (λ st h. pattern_of_law _ _ _ h (sym c.is_id.ensures ∙ c.if-not-is_id.false) (sym c.is_id_or_none.ensures ∙ c.if-not-is_id_or_none.false) (message_found_law _ _ _ h c.find_message.ensures))
