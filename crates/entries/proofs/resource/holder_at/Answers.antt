-- `entries::resource::holder_at` meets its contract: the kind byte is there and 1, or not.
use Rattle.entries.proofs.Held.{kind_none, kind_one, kind_other}
use Rattle.entries.proofs.resource.holder_at.Goals as goal
use Rattle.entries.proofs.resource.holder_at.Goals.{else-at-s-via-then-at-s+else-s-at-eq1, else-at-s-via-else-at-s}

pub returns-then-s-at-eq1 : goal.returns-then-s-at-eq1
returns-then-s-at-eq1 c = kind_one _ _ c.if-s-at-eq1.true

pub returns-else-at-s : goal.returns-else-at-s
returns-else-at-s c = elim c.else-at-s.branch [ else-at-s-via-then-at-s+else-s-at-eq1 w ↦ kind_other _ _ w.if-s-at-eq1.false | else-at-s-via-else-at-s w ↦ kind_none _ _ w.if-at-s.false ]
