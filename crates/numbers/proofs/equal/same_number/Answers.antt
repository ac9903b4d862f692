-- `numbers::equal::same_number` meets its contract: value, then options.
use Rattle.numbers.proofs.Tests.{fields_equal, fields_same}
use Rattle.numbers.specs.Equal.{same_number}
use mathlib.Core.Path.{◌≡◌, ◌∙◌, sym}
use Rattle.numbers.proofs.equal.same_number.Goals as goal

pub returns-then-same_value : goal.returns-then-same_value
unfolding same_number
returns-then-same_value c =
    let fields : c.eq.result ≡ fields_equal c.args.a.options c.args.b.options = c.eq.ensures in
    simp (sym c.same_value.ensures ∙ c.if-same_value.true, fields ∙ fields_same c.args.a.options c.args.b.options)

pub returns-else-same_value : goal.returns-else-same_value
unfolding same_number
returns-else-same_value c = simp (sym c.same_value.ensures ∙ c.if-same_value.false, c.if-same_value.false)
