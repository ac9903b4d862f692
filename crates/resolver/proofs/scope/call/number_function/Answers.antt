-- `resolver::scope::call::number_function` meets its contract: a number's options are merged, or the call is refused; anything else gives Error.
use Rattle.state.proofs.Laws.{refused_no, refused_yes}
use Rattle.resolver.proofs.Single.Results.{number_long, number_merged, number_other, number_over}
use mathlib.Core.Path.{◌∙◌, sym}
use Rattle.resolver.proofs.scope.call.number_function.Goals as goal

pub returns-then-is_refused : goal.returns-then-is_refused
returns-then-is_refused c = number_over _ _ _ _ _ _ (refused_yes c.is_refused.ensures c.if-is_refused.true)

pub returns-in-Ok : goal.returns-in-Ok
returns-in-Ok c = number_merged _ _ _ _ _ _ c.in-Number.is (λ x ns f low e h n. sym c.in-Ok.is ∙ c.merge_named.ensures x ns f low e h n)

pub returns-in-Err : goal.returns-in-Err
returns-in-Err c = number_long _ _ _ _ _ _ c.in-Number.is (refused_no c.is_refused.ensures c.if-is_refused.false) (λ x ns f low e h n. sym c.in-Err.is ∙ c.merge_named.ensures x ns f low e h n) c.refuse.ensures

pub returns-in_default : goal.returns-in_default
returns-in_default c = number_other _ _ _ _ _ _ c.in_default.not-Number
