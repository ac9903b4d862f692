-- `decimals::bytes::same_bytes` meets its contract: bytes are compared one after the other.
use mathlib.Core.Path.{◌∙◌}
use Rattle.decimals.proofs.Same.{pointwise_same}
use Rattle.decimals.proofs.bytes.same_bytes.Goals as goal

pub returns : goal.returns
returns c = c.eq.ensures ∙ pointwise_same c.args.a.now c.args.b.now
