-- `variants::key_matches` meets its contract, by what is sought and by the kind.
use Rattle.variants.proofs.Keys.{by_category, by_none, by_number, by_text}
use Rattle.variants.proofs.key_matches.Goals as goal

pub returns-then-kind-eq1 : goal.returns-then-kind-eq1
returns-then-kind-eq1 c = by_category _ _ _ c.in-Number.is c.if-kind-eq1.true c.matches_category.ensures

pub returns-then-kind-eq2 : goal.returns-then-kind-eq2
returns-then-kind-eq2 c = by_number _ _ _ c.in-Number.is c.if-kind-eq2.true c.is_equal.ensures

pub returns-in-Text : goal.returns-in-Text
returns-in-Text c = by_text _ _ _ c.in-Text.is c.same_bytes.ensures

pub returns-else-kind-eq2 : goal.returns-else-kind-eq2
returns-else-kind-eq2 c = by_none _ _ _ c.in-Number.is c.if-kind-eq1.false c.if-kind-eq2.false
