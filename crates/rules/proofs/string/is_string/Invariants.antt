-- `rules::is_string` meets its contract: what is left leads on to the same state.
use Rattle.decimals.specs.Bytes.{run}
use Rattle.rules.specs.Rules.{escape_step}
use lib.ListN.{drop}
use mathlib.Core.Path.{◌≡◌}
use Rattle.rules.proofs.string.is_string.Given as goal

abbrev pub invariant-loop-b : goal.invariant-loop-b
invariant-loop-b l = run escape_step l.q (drop l.b-index l.s) ≡ run escape_step 0 l.s
