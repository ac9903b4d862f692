-- `variants::pattern_of` meets its contract.
use Rattle.variants.proofs.Firsts.{its_pattern, no_pattern}
use mathlib.Core.Path.{◌∙◌}
use Rattle.variants.proofs.pattern_of.Goals as goal

pub returns-in_err-read_variant : goal.returns-in_err-read_variant
returns-in_err-read_variant c = c.from_residual.ensures ∙ no_pattern c.read_variant.ensures c.in_err-read_variant.was

pub returns : goal.returns
returns c = its_pattern c.read_variant.ensures c.in_ok-read_variant.was
