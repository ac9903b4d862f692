-- `decimals::text::push_whole` meets its contract: the higher digits first, by a call with a tenth, then the lowest.
use Rattle.decimals.proofs.Writing.{adds_same, adds_then, decimal_longer, decimal_more, decimal_small, decimal_some}
use mathlib.Core.Path.{sym}
use native.Mathlib.Omega.{arith}
use Rattle.decimals.proofs.text.+push_whole.Goals as goal

pub push-requires : goal.push-requires
push-requires t c = omega (arith, decimal_some c.args.n)

pub returns-then-n-lt10 : goal.returns-then-n-lt10
returns-then-n-lt10 t c = adds_same (sym (decimal_small c.args.n c.if-n-lt10.true)) c.push.ensures

pub push_whole-u-requires : goal.push_whole-u-requires
push_whole-u-requires t c = omega (arith, decimal_longer c.args.n c.if-n-lt10.false)

pub push-requires-2 : goal.push-requires-2
push-requires-2 t c = omega (arith, decimal_longer c.args.n c.if-n-lt10.false, c.push_whole-u.ensures.len)

pub returns : goal.returns
returns t c = adds_same (sym (decimal_more c.args.n c.if-n-lt10.false)) (adds_then c.push_whole-u.ensures c.push-2.ensures)
