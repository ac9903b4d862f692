-- `decimals::text::push_fraction` meets its contract: nothing where there is no digit, else a dot, the digits, and the zeros that a minimum asks for.
use Rattle.decimals.proofs.Writing.{adds_none, adds_same, adds_then, digits_length, fraction_none, fraction_own, fraction_padded, own_length, padded_length}
use Rattle.decimals.proofs.Shown.{unset_zero}
use Rattle.decimals.specs.Relations.Shown.{told_count}
use mathlib.Core.Path.{sym}
use native.Mathlib.Omega.{arith}
use Rattle.decimals.proofs.text.push_fraction.Goals as goal

pub returns-then-s-eq0 : goal.returns-then-s-eq0
returns-then-s-eq0 c = adds_same (sym (fraction_none (told_count c.args.m) c.args.d c.args.s (unset_zero c.args.m c.unwrap_or-k.ensures) c.if-k-s.true c.if-s-eq0.true)) (adds_none c.args.t)

pub push-requires : goal.push-requires
push-requires c =
    let own = own_length (told_count c.args.m) c.args.d c.args.s (unset_zero c.args.m c.unwrap_or-k.ensures) c.if-k-s.true c.if-s-eq0.false in
    omega (arith, own)

pub push_digits-requires : goal.push_digits-requires
push_digits-requires c =
    let own = own_length (told_count c.args.m) c.args.d c.args.s (unset_zero c.args.m c.unwrap_or-k.ensures) c.if-k-s.true c.if-s-eq0.false in
    omega (arith, own, c.push.ensures.len)

pub returns-then-k-s : goal.returns-then-k-s
returns-then-k-s c = adds_same (sym (fraction_own (told_count c.args.m) c.args.d c.args.s (unset_zero c.args.m c.unwrap_or-k.ensures) c.if-k-s.true c.if-s-eq0.false)) (adds_then c.push.ensures c.push_digits.ensures)

pub push-requires-2 : goal.push-requires-2
push-requires-2 c =
    let padded = padded_length (told_count c.args.m) c.args.d c.args.s (unset_zero c.args.m c.unwrap_or-k.ensures) c.if-k-s.false in
    omega (arith, padded)

pub push_digits-requires-2 : goal.push_digits-requires-2
push_digits-requires-2 c =
    let padded = padded_length (told_count c.args.m) c.args.d c.args.s (unset_zero c.args.m c.unwrap_or-k.ensures) c.if-k-s.false in
    omega (arith, padded, c.push-2.ensures.len)

pub push_zeros-requires : goal.push_zeros-requires
push_zeros-requires c =
    let padded = padded_length (told_count c.args.m) c.args.d c.args.s (unset_zero c.args.m c.unwrap_or-k.ensures) c.if-k-s.false in
    omega (arith, padded, c.push-2.ensures.len, c.push_digits-2.ensures.len, digits_length c.args.s c.args.d)

pub returns : goal.returns
returns c = adds_same (sym (fraction_padded (told_count c.args.m) c.args.d c.args.s (unset_zero c.args.m c.unwrap_or-k.ensures) c.if-k-s.false)) (adds_then (adds_then c.push-2.ensures c.push_digits-2.ensures) c.push_zeros.ensures)
