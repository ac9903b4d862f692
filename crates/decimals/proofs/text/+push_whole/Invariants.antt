-- `decimals::text::push_whole` meets its contract: the higher digits first, by a call with a tenth, then the lowest.
use Rattle.decimals.proofs.text.+push_whole.Given as goal

abbrev pub decreases-push_whole : goal.decreases-push_whole
decreases-push_whole l = l.n

-- what `push_whole` is given at the measure t, and what a call of it asks below t
