-- `resolver::scope::select::choose` meets its contract, by where the value lies; none and an error match no key.
use Rattle.heads.proofs.Heads.{locale_is}
use Rattle.resolver.proofs.Single.Choosing.{by_nothing, by_number, by_text, by_work, by_wrong, choice_is}
use Rattle.resolver.proofs.scope.select.choose.Goals as goal

pub returns-in-Work : goal.returns-in-Work
returns-in-Work c = choice_is _ _ _ _ _ _ (λ st f hs. by_work _ _ _ _ _ _ c.in-Work.is c.text_of.ensures c.choose_text.ensures st.locale)

pub returns-in-Number : goal.returns-in-Number
returns-in-Number c = choice_is _ _ _ _ _ _ (λ st f hs. by_number _ _ _ _ _ _ c.in-Number.is c.choose_number.ensures (locale_is _ c.locale_of.ensures st f hs))

pub returns-in-Nothing : goal.returns-in-Nothing
returns-in-Nothing c = choice_is _ _ _ _ _ _ (λ st f hs. by_nothing _ _ _ _ _ _ c.in-Nothing.is c.choose_default.ensures st.locale)

pub returns-in-Wrong : goal.returns-in-Wrong
returns-in-Wrong c = choice_is _ _ _ _ _ _ (λ st f hs. by_wrong _ _ _ _ _ _ c.in-Wrong.is c.choose_default-in-Wrong.ensures st.locale)

pub returns-in_default : goal.returns-in_default
returns-in_default c = choice_is _ _ _ _ _ _ (λ st f hs. by_text _ _ _ _ _ _ (c.in_default.not-Work, c.in_default.not-Number, c.in_default.not-Nothing, c.in_default.not-Wrong) c.text_in.ensures c.choose_text-in_default.ensures st.locale)
