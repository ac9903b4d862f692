-- `unescape::unescape_to` meets its contract: piece by piece, what is read stands behind what was read before.
use Rattle.unescape.proofs.Reading.{Written}
use lib.ListN.{length}
use Rattle.unescape.proofs.unescape_to.Given as goal

abbrev pub invariant-loop-b : goal.invariant-loop-b
invariant-loop-b l = Written l.s l.initial.d l.at l.d l.end l.left

abbrev pub decreases-loop-b : goal.decreases-loop-b
decreases-loop-b l = length l.left
