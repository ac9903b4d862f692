-- `decimals::text::push_digits` meets its contract: the higher digits first, by a call with one digit less, then the lowest.
use Prim.Native.Nat.{◌-◌, ◌/◌}
use Rattle.decimals.proofs.Writing.{digits_length, digits_more, digits_none}
use native.Mathlib.Omega.{arith}
use Rattle.decimals.proofs.text.+push_digits.Goals as goal

pub returns-then-w-eq0 : goal.returns-then-w-eq0
returns-then-w-eq0 t c = digits_none c.args.t c.args.w c.args.n c.if-w-eq0.true

pub push-requires : goal.push-requires
push-requires t c = omega (arith, digits_length (c.args.w - 1) (c.args.n / 10), c.push_digits-u.ensures.len)

pub returns : goal.returns
returns t c = digits_more c.args.w c.args.n c.if-w-eq0.false c.push_digits-u.ensures c.push.ensures
