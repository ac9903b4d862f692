-- `decimals::text::push_digits` meets its contract: the higher digits first, by a call with one digit less, then the lowest.
use Rattle.decimals.proofs.text.+push_digits.Given as goal

abbrev pub decreases-push_digits : goal.decreases-push_digits
decreases-push_digits l = l.w

-- what `push_digits` is given at the measure t, and what a call of it asks below t
