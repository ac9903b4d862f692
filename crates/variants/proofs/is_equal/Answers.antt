-- `variants::is_equal` meets its contract: a key that is no literal equals nothing.
use Rattle.variants.proofs.Keys.{equals_is, equals_no}
use Rattle.variants.proofs.is_equal.Goals as goal

pub returns-in-None : goal.returns-in-None
returns-in-None c = equals_no _ _ c.read_literal.ensures c.in-None.is

pub returns-in-Some : goal.returns-in-Some
returns-in-Some c = equals_is _ _ c.read_literal.ensures c.in-Some.is c.same_number.ensures
