-- `resolver::format::run_on` meets its contract: with the pattern on the trail and a new scope, the pattern's run goes on from where text, list and counts stand.
use Prim.Native.Nat.{ℕ}
use Rattle.resolver.proofs.Whole.{from_state, run_on}
use Rattle.state.specs.Progress.{scope_of, scoped_s}
use Rattle.state.specs.Setters.{new_s}
use lib.ListN.{get_or, length}
use mathlib.Core.List.{List}
use mathlib.Core.Path.{ap}
use Rattle.resolver.proofs.format.run_on.Goals as goal

pub shape_of-text : goal.shape_of-text
shape_of-text c = c.resolve.auto.text

pub shape_of-list : goal.shape_of-list
shape_of-list c = c.resolve.auto.list

pub shape_of-work : goal.shape_of-work
shape_of-work c = c.resolve.auto.work

pub returns : goal.returns
returns c = (record { text_size = c.resolve.auto.text; list_size = c.resolve.auto.list; work_size = c.resolve.auto.work; runs = λ u p f hp k z r. run_on _ _ _ _ _ _ _ (ap length c.enter.ensures.1) (ap (λ (l : List ℕ). get_or l 0 0) c.enter.ensures.1) (from_state (ap (scoped_s (scope_of (new_s 0))) c.enter.ensures.0) c.resolve.ensures.0) k z r u p f hp }, c.resolve.ensures.1)
