-- `plural::plural::by_table` meets its contract: the digit that is held is that of the category.
use Rattle.plural.proofs.Categories.{rule_bound}
use Rattle.plural.proofs.Table.{digit_right}
use Rattle.plural.specs.Plural.{whole_operands}
use native.Mathlib.Omega.{arith}
use Rattle.plural.proofs.plural.by_table.Goals as goal

pub overflow_sub-digit : goal.overflow_sub-digit
overflow_sub-digit c =
    let digit = rw (c.from.ensures, c.from-2.ensures) at c.digit.ensures in
    let right = digit_right c.args.kind c.args.locale c.args.n c.kind_number.ensures digit in
    omega (arith, right)

pub numbered-requires : goal.numbered-requires
numbered-requires c =
    let digit = rw (c.from.ensures, c.from-2.ensures) at c.digit.ensures in
    let right = digit_right c.args.kind c.args.locale c.args.n c.kind_number.ensures digit in
    let bound = rule_bound c.args.kind c.args.locale (whole_operands c.args.n) in
    omega (arith, right, bound)

pub returns : goal.returns
returns c =
    let digit = rw (c.from.ensures, c.from-2.ensures) at c.digit.ensures in
    let right = digit_right c.args.kind c.args.locale c.args.n c.kind_number.ensures digit in
    omega (arith, right, c.numbered.ensures)
