-- `decimals::text::shortest` meets its contract: what is left has the same shortest decimal.
use Rattle.decimals.specs.Decimal.{shortest}
use mathlib.Core.Path.{◌≡◌}
use Rattle.decimals.proofs.text.shortest.Given as goal

abbrev pub invariant-loop-s : goal.invariant-loop-s
invariant-loop-s l = shortest l.d l.s ≡ shortest l.digits l.scale

abbrev pub decreases-loop-s : goal.decreases-loop-s
decreases-loop-s l = l.s
