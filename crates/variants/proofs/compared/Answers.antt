-- `variants::compared` meets its contract: a number with its category.
use Rattle.variants.proofs.Keys.{sees_category, sees_no_number}
use Rattle.variants.proofs.compared.Goals as goal

pub returns-in-Text : goal.returns-in-Text
returns-in-Text c = sees_no_number c.in-Text.is

pub returns-in-Number : goal.returns-in-Number
returns-in-Number c = sees_category c.in-Number.is c.category.ensures
