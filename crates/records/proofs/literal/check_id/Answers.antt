-- `records::literal::check_id` meets its contract.
use Rattle.records.specs.Decode.{id_at}
use Rattle.records.specs.Relations.Rule.{rule_of}
use Rattle.records.proofs.literal.check_id.Goals as goal

pub returns : goal.returns
unfolding id_at rule_of
returns c = c.check_ruled.ensures
