-- `literals::literal::is_number` meets its contract: the state and the count, run on over what is left, end as over the whole.
use Rattle.literals.proofs.Counting.{count_end, count_more, digit_counted, one_or_none}
use Rattle.decimals.proofs.Run.{run_done, run_turn}
use Rattle.decimals.specs.Bytes.{digit}
use Rattle.literals.specs.Literal.{digit_count, is_number, number_step}
use Rattle.std.proofs.lemmas.Bool.Decides.{nat_tests}
use lib.ListN.{get_or}
use mathlib.Core.Path.{◌≡◌}
use native.Mathlib.Omega.{arith}
use Rattle.literals.proofs.literal.is_number.Goals as goal

pub loop-b-preserved : goal.loop-b-preserved
loop-b-preserved c =
    let turn = count_more c.args.s.now c.loop-b.b-index c.loop-b-test.true in
    let one = digit_counted _ c.from-n.ensures c.is_digit.ensures in
    (omega (arith, one_or_none (digit (get_or c.args.s.now c.loop-b.b-index 0)), one), run_turn number_step c.args.s.now c.loop-b-test.true c.loop-b.invariant.1 c.number_step-q.ensures, omega (arith, turn, one, c.loop-b.invariant.2))

pub returns-then-matches : goal.returns-then-matches
unfolding is_number
returns-then-matches c =
    let q = run_done number_step c.args.s.now c.loop-b.q c.loop-b-test.false c.loop-b.invariant.1 in
    let n : digit_count c.args.s.now ≡ c.loop-b.n = omega (arith, count_end c.args.s.now c.loop-b.b-index c.loop-b-test.false, c.loop-b.invariant.2) in
    grind (arith, nat_tests)

pub returns-else-matches : goal.returns-else-matches
unfolding is_number
returns-else-matches c =
    let q = run_done number_step c.args.s.now c.loop-b.q c.loop-b-test.false c.loop-b.invariant.1 in
    grind (arith, nat_tests)
