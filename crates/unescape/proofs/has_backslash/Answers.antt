-- `unescape::has_backslash` meets its contract: the library looks for the byte.
use Rattle.unescape.proofs.Reading.{any_backslash}
use mathlib.Core.Path.{◌∙◌}
use Rattle.unescape.proofs.has_backslash.Goals as goal

pub returns : goal.returns
returns c = c.contains.ensures.value ∙ any_backslash c.args.s.now
