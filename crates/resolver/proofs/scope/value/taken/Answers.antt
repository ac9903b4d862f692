-- `resolver::scope::value::taken` meets its contract: a string with a backslash takes the bytes that it reads as, any other literal none.
use Rattle.resolver.proofs.Single.Named.{taken_digits, taken_marked, taken_out, taken_plain}
use mathlib.Core.Path.{◌∙◌, sym}
use native.Mathlib.Omega.{arith}
use Rattle.resolver.proofs.scope.value.taken.Goals as goal

pub returns-then-tag-ne1 : goal.returns-then-tag-ne1
returns-then-tag-ne1 c = taken_digits _ _ _ _ c.if-tag-ne1.true

pub returns-then-e-a : goal.returns-then-e-a
returns-then-e-a c = taken_out _ _ _ _ (λ p q. let h = c.if-e-a.true in omega arith)

pub returns-then-s-e : goal.returns-then-s-e
returns-then-s-e c = taken_out _ _ _ _ (λ p q. let h = c.if-s-e.true in omega arith)

pub returns-then-has_backslash : goal.returns-then-has_backslash
returns-then-has_backslash c = taken_marked _ _ _ _ c.if-tag-ne1.false (sym c.has_backslash.ensures ∙ c.if-has_backslash.true) c.unescaped_len.ensures

pub returns : goal.returns
returns c = taken_plain _ _ _ _ c.if-tag-ne1.false (sym c.has_backslash.ensures ∙ c.if-has_backslash.false)
