-- `entries::resource::same_id` meets its contract: bytes of two lengths, and bytes that differ at the last place, are not the same.
use Rattle.decimals.proofs.Same.{same_length}
use Rattle.entries.proofs.Walk.{differ_at}
use borrow.Author.Tests.{eqb-false}
use mathlib.Core.Path.{◌∙◌, sym}
use Rattle.entries.proofs.resource.same_id.Goals as goal
use Rattle.entries.proofs.resource.same_id.Goals.{then-found-n+then-n-eq0, then-found-n+else-n-eq0, else-found-n}

pub returns-else-found-n-2 : goal.returns-else-found-n-2
returns-else-found-n-2 c =
    c.if-found-n-2.false
    ∙ (elim c.if-found-n.branch [
      | then-found-n+then-n-eq0 w ↦ absurd (eqb-false _ _ (sym w.value-is ∙ c.if-found-n-2.false) w.if-n-eq0.true)
      | then-found-n+else-n-eq0 w ↦ differ_at _ _ _ (eqb-false _ _ (sym w.value-is ∙ c.if-found-n-2.false))
      | else-found-n w ↦ sym (same_length _ _ w.if-found-n.false)
    ])
