-- `decimals::text::number_text` meets its contract: sign, whole part and fraction are added to an empty text, and they fit.
use Prim.Native.Nat.{ℕ}
use Rattle.decimals.proofs.Writing.{adds_then, from_none, held_none, number_parts, parts_fit, ranged_in, ranged_out, sign_length}
use Rattle.decimals.specs.Relations.Shown.{held_text, told}
use Rattle.decimals.specs.Text.{decimal}
use lib.ListN.{length}
use mathlib.Core.Path.{◌∙◌, ap, sym}
use native.Mathlib.Omega.{arith}
use Rattle.decimals.proofs.text.number_text.Goals as goal

pub push_whole-u-requires : goal.push_whole-u-requires
push_whole-u-requires c =
    let fit = parts_fit (told c.args.n) (sym c.in_range.ensures ∙ c.if-in_range.true) c.shortest-q.ensures in
    let whole = ap (λ (k : ℕ). length (decimal k)) c.whole.ensures in
    omega (arith, fit, whole, c.push_sign-t.ensures.len, sign_length c.args.n.negative, held_none c.empty.ensures)

pub push_fraction-requires : goal.push_fraction-requires
push_fraction-requires c =
    let fit = parts_fit (told c.args.n) (sym c.in_range.ensures ∙ c.if-in_range.true) c.shortest-q.ensures in
    let whole = ap (λ (k : ℕ). length (decimal k)) c.whole.ensures in
    omega (arith, fit, whole, c.push_sign-t.ensures.len, sign_length c.args.n.negative, held_none c.empty.ensures, c.push_whole-u.ensures.len)

pub returns-then-in_range : goal.returns-then-in_range
returns-then-in_range c = from_none c.empty.ensures (adds_then c.push_sign-t.ensures (adds_then c.push_whole-u.ensures c.push_fraction.ensures)) (rw c.whole.ensures (sym (number_parts (told c.args.n) c.shortest-q.ensures) ∙ sym (ranged_in (told c.args.n) (sym c.in_range.ensures ∙ c.if-in_range.true))))

pub returns : goal.returns
returns c =
    let out = ranged_out (told c.args.n) (sym c.in_range.ensures ∙ c.if-in_range.false) in
    c.empty-2.ensures ∙ sym (ap held_text out)
