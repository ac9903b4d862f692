-- `plural_table::digit_in_line` meets its contract: the digit of the category that the conditions give.
use Prim.Native.Nat.{◌*◌, ◌+◌, ◌/◌}
use Rattle.decimals.specs.Decimal.{kind_number}
use Rattle.plural.proofs.Categories.{rule_bound}
use Rattle.plural.proofs.Printed.{line_digit}
use Rattle.plural.specs.Plural.{whole_operands}
use Rattle.plural.specs.Table.{digit_of, rule_set}
use mathlib.Core.Path.{◌∙◌, ◌≡◌, ap, sym}
use native.Mathlib.Omega.{arith}
use Rattle.plural_table.proofs.digit_in_line.Goals as goal

pub overflow_add-result : goal.overflow_add-result
overflow_add-result c =
    let told = c.category_number.ensures ∙ c.by_conditions.ensures in
    let bound = rule_bound c.kind_of.result (c.args.rule / 2) (whole_operands c.args.n) in
    omega (arith, told, bound)

pub returns : goal.returns
unfolding rule_set digit_of
returns c =
    let told = c.category_number.ensures ∙ c.by_conditions.ensures in
    let set : c.args.rule ≡ c.args.rule / 2 * 2 + kind_number c.kind_of.result = omega (arith, c.kind_of.ensures) in
    ap digit_of told ∙ sym (line_digit c.kind_of.result (c.args.rule / 2) c.args.n set (omega (arith, c.requires)) c.requires.1)
