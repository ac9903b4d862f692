-- `resolver::scope::call::merge_one` meets its contract, by what the literal is.
use Rattle.resolver.proofs.Single.Calls.{merge_digits, merge_digits_bad, merge_marked, merge_plain, merge_short}
use mathlib.Core.Path.{◌∙◌, sym}
use Rattle.resolver.proofs.scope.call.merge_one.Goals as goal

pub returns-in_default : goal.returns-in_default
returns-in_default c = merge_digits_bad _ _ _ _ _ _ _ _ _ c.text_of-name.ensures c.text_of-src.ensures c.if-tag-eq2.true c.read_literal.ensures c.in_default.is

pub returns-then-tag-eq2 : goal.returns-then-tag-eq2
returns-then-tag-eq2 c = merge_digits _ _ _ _ _ _ _ _ _ c.text_of-name.ensures c.text_of-src.ensures c.if-tag-eq2.true c.read_literal.ensures c.in-Some.is c.merge_number.ensures

pub returns-then-not-has_backslash : goal.returns-then-not-has_backslash
returns-then-not-has_backslash c = merge_plain _ _ _ _ _ _ _ _ _ c.text_of-name.ensures c.text_of-src.ensures c.if-tag-eq2.false (sym c.has_backslash.ensures ∙ c.if-not-has_backslash.true) c.merge_text.ensures

pub returns-then-base-n : goal.returns-then-base-n
returns-then-base-n c = merge_short _ _ _ _ _ _ _ _ _ c.text_of-name.ensures c.text_of-src.ensures c.if-tag-eq2.false (sym c.has_backslash.ensures ∙ c.if-not-has_backslash.false) c.unescaped_len-n.ensures c.if-base-n.true

pub returns : goal.returns
returns c = merge_marked _ _ _ _ _ _ _ _ _ c.text_of-name.ensures c.text_of-src.ensures c.if-tag-eq2.false (sym c.has_backslash.ensures ∙ c.if-not-has_backslash.false) c.unescaped_len-n.ensures c.text_of.ensures c.merge_text-2.ensures
