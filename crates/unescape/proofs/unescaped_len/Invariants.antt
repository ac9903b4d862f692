-- `unescape::unescaped_len` meets its contract: what is counted, with the length of what is left, gives the same as the whole.
use Prim.Native.Nat.{◌+◌}
use Rattle.unescape.specs.Unescape.{unescape}
use lib.ListN.{length}
use mathlib.Core.Path.{◌≡◌}
use Rattle.unescape.proofs.unescaped_len.Given as goal

abbrev pub invariant-loop-b : goal.invariant-loop-b
invariant-loop-b l = l.n + length (unescape l.left) ≡ length (unescape l.s)

abbrev pub decreases-loop-b : goal.decreases-loop-b
decreases-loop-b l = length l.left
