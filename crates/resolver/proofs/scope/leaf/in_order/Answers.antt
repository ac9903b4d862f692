-- `resolver::scope::leaf::in_order` meets its contract: each pair is asked for in turn.
use Rattle.resolver.specs.Relations.Targets.{in_order}
use borrow.Author.Tests.{le-leb, lt-leb}
use Rattle.resolver.proofs.scope.leaf.in_order.Goals as goal

pub returns-then-front-start : goal.returns-then-front-start
unfolding in_order
returns-then-front-start c = rw (lt-leb _ _ c.if-front-start.true)

pub returns-then-back-front : goal.returns-then-back-front
unfolding in_order
returns-then-back-front c = rw (le-leb _ _ c.if-front-start.false, lt-leb _ _ c.if-back-front.true)

pub returns : goal.returns
unfolding in_order
returns c = rw (le-leb _ _ c.if-front-start.false, le-leb _ _ c.if-back-front.false)
