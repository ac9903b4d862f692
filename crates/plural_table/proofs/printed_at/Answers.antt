-- `plural_table::printed_at` meets its contract: the place is that of a line and a number, or of a line's end.
use Prim.Native.Nat.{◌%◌, ◌*◌, ◌+◌, ◌/◌, ◌<◌, ℕ}
use Rattle.plural.proofs.Printed.{printed_digit, printed_end}
use Rattle.plural.specs.Table.{printed}
use lib.ListN.{get_or}
use mathlib.Core.Path.{◌∙◌, ◌≡◌, ap, sym}
use native.Mathlib.Omega.{arith}
use Rattle.plural_table.proofs.printed_at.Goals as goal

pub returns-in-200 : goal.returns-in-200
returns-in-200 c =
    let line : c.args.at / 201 < 8 = omega (arith, c.requires) in
    let place : c.args.at / 201 * 201 + 200 ≡ c.args.at = omega (arith, c.in-200.is) in
    sym (printed_end (c.args.at / 201) line) ∙ ap (λ (k : ℕ). get_or printed k 0) place

pub returns-in_default : goal.returns-in_default
returns-in_default c =
    let place : c.args.at / 201 * 201 + c.args.at % 201 ≡ c.args.at = omega arith in
    let line : c.args.at / 201 < 8 = omega (arith, c.requires) in
    let digit : c.args.at % 201 < 200 = omega arith in
    c.digit_in_line.ensures ∙ sym (printed_digit (c.args.at / 201) (c.args.at % 201) line digit) ∙ ap (λ (k : ℕ). get_or printed k 0) place
