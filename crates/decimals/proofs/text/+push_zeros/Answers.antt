-- `decimals::text::push_zeros` meets its contract: a zero, and by a call one less.
use Rattle.decimals.proofs.Writing.{zeros_more}
use Rattle.decimals.proofs.text.+push_zeros.Goals as goal

pub returns : goal.returns
returns t c = zeros_more c.args.n c.if-n-eq0.false c.push.ensures c.push_zeros.ensures
