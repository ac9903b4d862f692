-- `decimals::text::push_zeros` meets its contract: a zero, and by a call one less.
use Rattle.decimals.proofs.text.+push_zeros.Given as goal

abbrev pub decreases-push_zeros : goal.decreases-push_zeros
decreases-push_zeros l = l.n

-- what `push_zeros` is given at the measure t, and what a call of it asks below t
