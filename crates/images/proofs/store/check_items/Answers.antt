-- What is left of the items ends where all of them end.
use Rattle.records.proofs.Laws.{turn_end, turn_next, turn_stop}
use Rattle.records.specs.Images.{item_at}
use mathlib.Core.List.{[], ◌∷◌}
use mathlib.Core.Path.{◌∙◌}
use Rattle.images.proofs.store.check_items.Goals as goal

pub returns-in_err-at : goal.returns-in_err-at
returns-in_err-at c = c.from_residual.ensures ∙ turn_stop [] ◌∷◌ item_at c.args.s.now c.args.count c.loop.counter c.loop.at c.loop.invariant c.loop-test.true c.check_item.ensures c.in_err-at.was

pub loop-preserved : goal.loop-preserved
loop-preserved c = turn_next [] ◌∷◌ item_at c.args.s.now c.args.count c.loop.counter c.loop.at c.loop.invariant c.loop-test.true c.check_item.ensures c.in_ok-at.was

pub returns : goal.returns
returns c = turn_end [] ◌∷◌ item_at c.args.s.now c.args.count c.loop.counter c.loop.at c.loop.invariant c.loop-test.false
