-- `categories::entry` meets its contract: the lines are those that the definition has.
use Rattle.categories.proofs.Entries.{line_entry, no_line}
use Rattle.categories.specs.Held.{held}
use Rattle.categories.proofs.entry.Goals as goal

pub returns-then-rule-lt8 : goal.returns-then-rule-lt8
unfolding held
returns-then-rule-lt8 c = line_entry c.args.rule c.args.at c.if-rule-lt8.true c.requires

pub returns-else-rule-lt8 : goal.returns-else-rule-lt8
returns-else-rule-lt8 c = no_line c.args.rule c.args.at c.if-rule-lt8.false
