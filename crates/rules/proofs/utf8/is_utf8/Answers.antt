-- `rules::is_utf8` meets its contract: what is left leads on to the same state.
use Rattle.decimals.proofs.Run.{run_done, run_turn}
use Rattle.rules.specs.Rules.{utf8_step, is_utf8}
use Rattle.rules.proofs.utf8.is_utf8.Goals as goal

pub loop-b-preserved : goal.loop-b-preserved
loop-b-preserved c = run_turn utf8_step c.args.s.now c.loop-b-test.true c.loop-b.invariant c.utf8_step-q.ensures

pub returns : goal.returns
unfolding is_utf8
returns c = rw (run_done utf8_step c.args.s.now c.loop-b.q c.loop-b-test.false c.loop-b.invariant)
