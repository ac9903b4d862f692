-- `plural::plural::operands_of` meets its contract: a shortest decimal has a fraction where its scale is not 0.
use Prim.Native.Nat.{ℕ}
use Rattle.plural.proofs.Categories.{shows_part, shows_whole}
use Rattle.decimals.proofs.Shown.{unset_zero}
use Rattle.decimals.specs.Relations.Shown.{told}
use borrow.Author.Tests.{eq-eqb, ne_eqb}
use lib.Dec.{eqb}
use mathlib.Core.Path.{ap}
use Rattle.plural.proofs.plural.operands_of.Goals as goal

pub returns-then-no_fraction : goal.returns-then-no_fraction
returns-then-no_fraction c = shows_whole (told c.args.n) c.shortest-q.ensures c.if-no_fraction.true c.whole.ensures (ap (λ (k : ℕ). eqb k 0) (unset_zero c.args.n.options.minimum_fraction_digits c.unwrap_or.ensures)) (eq-eqb _ _ c.if-no_fraction.true)

pub returns-else-no_fraction : goal.returns-else-no_fraction
returns-else-no_fraction c = shows_part (told c.args.n) c.shortest-q.ensures c.if-no_fraction.false c.whole.ensures (ne_eqb _ _ c.if-no_fraction.false) (ne_eqb _ _ c.if-no_fraction.false)
