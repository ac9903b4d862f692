-- `entries::resource::later` meets its contract: by the test.
use Rattle.entries.proofs.Held.{found_held}
use Rattle.records.specs.Optional.{option_of, or_else}
use mathlib.Core.Path.{sym}
use Rattle.entries.proofs.resource.later.Goals as goal

pub returns-then-same : goal.returns-then-same
unfolding option_of or_else
returns-then-same c = rw c.if-same.true c.holder_at.ensures

pub returns-else-same : goal.returns-else-same
unfolding option_of or_else
returns-else-same c = rw c.if-same.false (sym (found_held _))
