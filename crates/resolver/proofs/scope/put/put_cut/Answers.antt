-- `resolver::scope::put::put_cut` meets its contract: of a select, the error is its selector's.
use Rattle.state.proofs.Laws.{refused_yes}
use Rattle.records.proofs.Views.{num_is, num_none}
use Rattle.resolver.proofs.Single.Steps.{cut_clean, cut_inline, cut_none, cut_over, cut_select}
use Rattle.resolver.proofs.scope.put.put_cut.Goals as goal

pub returns-then-is_refused : goal.returns-then-is_refused
returns-then-is_refused c = cut_over _ _ _ _ _ (refused_yes c.is_refused.ensures c.if-is_refused.true)

pub returns-in_default : goal.returns-in_default
returns-in_default c = cut_none _ _ _ _ _ (num_none c.read_byte.ensures c.in_default.is)

pub returns-then-tag-eq8 : goal.returns-then-tag-eq8
returns-then-tag-eq8 c =
    let tag_is = num_is c.read_byte.ensures c.in-Some.is in
    cut_select _ _ _ _ _ _ _ tag_is c.if-st.true c.if-tag-eq8.true c.put_error.ensures

pub returns-else-tag-eq8 : goal.returns-else-tag-eq8
returns-else-tag-eq8 c =
    let tag_is = num_is c.read_byte.ensures c.in-Some.is in
    cut_inline _ _ _ _ _ _ _ tag_is c.if-st.true c.if-tag-eq8.false c.put_error-then-st.ensures

pub returns-else-st : goal.returns-else-st
returns-else-st c = cut_clean _ _ _ _ _ c.if-st.false
