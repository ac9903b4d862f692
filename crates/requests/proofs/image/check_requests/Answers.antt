-- What is left of the requests ends where all of them end.
use Rattle.records.proofs.Laws.{turn_end, turn_next, turn_stop}
use Rattle.requests.specs.Image.{request_at}
use mathlib.Core.List.{[], ◌∷◌}
use mathlib.Core.Path.{◌∙◌}
use Rattle.requests.proofs.image.check_requests.Goals as goal

pub returns-in_err-at : goal.returns-in_err-at
returns-in_err-at c = c.from_residual.ensures ∙ turn_stop [] ◌∷◌ request_at c.args.s.now c.args.count c.loop.counter c.loop.at c.loop.invariant c.loop-test.true c.check_request.ensures c.in_err-at.was

pub loop-preserved : goal.loop-preserved
loop-preserved c = turn_next [] ◌∷◌ request_at c.args.s.now c.args.count c.loop.counter c.loop.at c.loop.invariant c.loop-test.true c.check_request.ensures c.in_ok-at.was

pub returns : goal.returns
returns c = turn_end [] ◌∷◌ request_at c.args.s.now c.args.count c.loop.counter c.loop.at c.loop.invariant c.loop-test.false
