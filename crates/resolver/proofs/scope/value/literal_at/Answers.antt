-- `resolver::scope::value::literal_at` meets its contract: a number, a part of the store, or a text that ends at the base.
use Rattle.resolver.proofs.Single.Named.{literal_digits_at, literal_marked, literal_number_is, literal_out, literal_plain, literal_short}
use mathlib.Core.Path.{◌∙◌, sym}
use native.Mathlib.Omega.{arith}
use Rattle.resolver.proofs.scope.value.literal_at.Goals as goal

pub returns-then-tag-eq2 : goal.returns-then-tag-eq2
returns-then-tag-eq2 c = literal_digits_at _ _ _ _ _ c.if-tag-eq2.true (literal_number_is _ _ _ c.literal_number.ensures)

pub returns-then-e-a : goal.returns-then-e-a
returns-then-e-a c = literal_out _ _ _ _ _ (λ p q. let h = c.if-e-a.true in omega arith)

pub returns-then-s-e : goal.returns-then-s-e
returns-then-s-e c = literal_out _ _ _ _ _ (λ p q. let h = c.if-s-e.true in omega arith)

pub returns-then-not-has_backslash : goal.returns-then-not-has_backslash
returns-then-not-has_backslash c = literal_plain _ _ _ _ _ c.if-tag-eq2.false (sym c.has_backslash.ensures ∙ c.if-not-has_backslash.true)

pub returns-then-base-n : goal.returns-then-base-n
returns-then-base-n c = literal_short _ _ _ _ _ c.if-tag-eq2.false (sym c.has_backslash.ensures ∙ c.if-not-has_backslash.false) c.unescaped_len-n.ensures c.if-base-n.true

pub returns : goal.returns
returns c = literal_marked _ _ _ _ _ c.if-tag-eq2.false (sym c.has_backslash.ensures ∙ c.if-not-has_backslash.false) c.unescaped_len-n.ensures
