-- `rules::is_utf8` meets its contract: what is left leads on to the same state.
use Rattle.decimals.specs.Bytes.{run}
use Rattle.rules.specs.Rules.{utf8_step}
use lib.ListN.{drop}
use mathlib.Core.Path.{◌≡◌}
use Rattle.rules.proofs.utf8.is_utf8.Given as goal

abbrev pub invariant-loop-b : goal.invariant-loop-b
invariant-loop-b l = run utf8_step l.q (drop l.b-index l.s) ≡ run utf8_step 0 l.s
