-- `records::literal::check_key` meets its contract: tag 1 and an Id, or tag 2 and a number.
use Rattle.records.proofs.Laws.{tagged_ends}
use Rattle.records.specs.Decode.{id_at, key_at, literal_number_at}
use Rattle.records.specs.Relations.Rule.{rule_of}
use Rattle.rules.specs.Rules.{is_id}
use Rattle.literals.specs.Literal.{is_number}
use mathlib.Core.Path.{◌∙◌}
use Rattle.records.specs.Tree.{Key}
use Rattle.records.proofs.literal.check_key.Goals as goal

pub returns : goal.returns
unfolding key_at id_at literal_number_at rule_of
returns c = c.check_tagged.ensures ∙ tagged_ends is_id is_number Key.name Key.number c.args.s.now c.args.at
