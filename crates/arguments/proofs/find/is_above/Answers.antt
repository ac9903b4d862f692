-- `arguments::find::is_above` meets its contract: beyond the last argument, or a greater name.
use Rattle.arguments.proofs.Placed.{above_beyond, above_there}
use borrow.Author.Tests.{le-leb}
use mathlib.Core.Path.{◌∙◌}
use Rattle.arguments.proofs.find.is_above.Goals as goal

pub returns-then-count-place : goal.returns-then-count-place
returns-then-count-place c = le-leb _ _ c.if-count-place.true ∙ above_beyond _ _ _ _ _ c.if-count-place.true

pub returns-else-count-place : goal.returns-else-count-place
returns-else-count-place c = above_there _ _ _ _ _ c.if-count-place.false c.is_past.ensures
