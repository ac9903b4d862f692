-- `entries::entry::has_holder` meets its contract: by what was found.
use Rattle.entries.proofs.Held.{held_some, says_held}
use Rattle.records.specs.Images.{is_some}
use mathlib.Core.Path.{◌∙◌, ap}
use Rattle.entries.proofs.entry.has_holder.Goals as goal

pub returns : goal.returns
returns c = c.is_some.ensures ∙ held_some _ ∙ ap is_some (says_held c.find_holder.ensures)
