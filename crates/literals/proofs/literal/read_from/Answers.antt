-- `literals::literal::read_from` meets its contract: what is left is read on from what was read, and there is room for its digits.
use Rattle.literals.proofs.Reading.{fine_digits, fine_fraction, fine_scale, fine_start, fine_turn, read_end, read_turn}
use Rattle.literals.specs.Literal.{read_start}
use Rattle.decimals.specs.Relations.Shown.{told_count}
use Rattle.literals.specs.Relations.Shown.{told_read}
use mathlib.Core.Path.{◌∙◌, refl, sym}
use native.Mathlib.Omega.{arith}
use Rattle.literals.proofs.literal.read_from.Goals as goal

pub loop-b-init : goal.loop-b-init
unfolding told_count read_start
loop-b-init c = (refl, fine_start c.args.s.now c.requires)

pub read_step-r-requires : goal.read_step-r-requires
read_step-r-requires c = (fine_digits c.loop-b.invariant.1, fine_fraction c.loop-b.invariant.1)

pub loop-b-preserved : goal.loop-b-preserved
loop-b-preserved c = (read_turn c.args.s.now c.loop-b.b-index (told_read c.loop-b.r) c.loop-b-test.true c.loop-b.invariant.0 c.read_step-r.ensures, fine_turn c.args.s.now c.loop-b-test.true c.loop-b.invariant.1 c.read_step-r.ensures)

pub returns : goal.returns
returns c = (sym (read_end c.args.s.now c.loop-b.b-index _ c.loop-b-test.false) ∙ c.loop-b.invariant.0, omega (arith, fine_scale c.loop-b.invariant.1))
