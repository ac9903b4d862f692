-- `bundle::places::count_items` meets its contract: the count says how many items were read.
use Rattle.bundle.proofs.Placing.{count_bad, count_is}
use Rattle.records.proofs.Views.{num_is, num_none}
use Rattle.bundle.proofs.places.count_items.Goals as goal

pub returns-in_default : goal.returns-in_default
returns-in_default c = λ st f h. count_bad _ (num_none c.read_u16.ensures c.in_default.is) h

pub returns : goal.returns
returns c = λ st f h. count_is _ (num_is c.read_u16.ensures c.in-Some.is) h
