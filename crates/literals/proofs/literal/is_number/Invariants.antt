-- `literals::literal::is_number` meets its contract: the state and the count, run on over what is left, end as over the whole.
use Prim.Native.Nat.{◌+◌, ◌≤◌}
use Rattle.decimals.specs.Bytes.{run}
use Rattle.literals.specs.Literal.{digit_count, number_step}
use lib.ListN.{drop}
use mathlib.Core.Path.{◌≡◌}
use Rattle.literals.proofs.literal.is_number.Given as goal

abbrev pub invariant-loop-b : goal.invariant-loop-b
invariant-loop-b l = (l.n ≤ l.b-index) × (run number_step l.q (drop l.b-index l.s) ≡ run number_step 0 l.s) × (l.n + digit_count (drop l.b-index l.s) ≡ digit_count l.s)
