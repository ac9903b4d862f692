-- `plural::plural::category` meets its contract: the table's category where no fraction digit is shown, else that of the conditions.
use Rattle.decimals.specs.Relations.Shown.{told}
use Rattle.plural.proofs.Categories.{shows_none}
use Rattle.plural.specs.Plural.{Operands, category, operands, rule_of}
use mathlib.Core.Path.{◌∙◌, ap}
use Rattle.plural.proofs.plural.category.Goals as goal

pub returns-then-o : goal.returns-then-o
unfolding category
returns-then-o c = c.by_table.ensures ∙ ap (λ (x : Operands). rule_of c.args.n.options.kind c.args.locale x) (shows_none (told c.args.n) c.operands_of-o.ensures c.if-o.true)

pub returns-else-o : goal.returns-else-o
unfolding category
returns-else-o c = c.conditions.ensures (operands (told c.args.n)) c.operands_of-o.ensures
