-- `rules::is_string` meets its contract: what is left leads on to the same state.
use Rattle.decimals.proofs.Run.{run_done, run_turn}
use Rattle.rules.specs.Rules.{escape_step, is_string}
use borrow.Author.Tests.{eq-eqb, ne_eqb}
use Rattle.rules.proofs.string.is_string.Goals as goal

pub loop-b-preserved : goal.loop-b-preserved
loop-b-preserved c = run_turn escape_step c.args.s.now c.loop-b-test.true c.loop-b.invariant c.escape_step-q.ensures

pub returns-then-q-eq0 : goal.returns-then-q-eq0
unfolding is_string
returns-then-q-eq0 c = rw (run_done escape_step c.args.s.now c.loop-b.q c.loop-b-test.false c.loop-b.invariant, eq-eqb _ _ c.if-q-eq0.true) c.is_utf8.ensures

pub returns-else-q-eq0 : goal.returns-else-q-eq0
unfolding is_string
returns-else-q-eq0 c = rw (run_done escape_step c.args.s.now c.loop-b.q c.loop-b-test.false c.loop-b.invariant, ne_eqb _ _ c.if-q-eq0.false)
