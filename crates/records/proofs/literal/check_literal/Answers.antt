-- `records::literal::check_literal` meets its contract: tag 1 and a string, or tag 2 and a number.
use Rattle.records.proofs.Laws.{tagged_ends}
use Rattle.records.specs.Decode.{literal_at, literal_number_at, string_at}
use Rattle.records.specs.Relations.Rule.{rule_of}
use Rattle.rules.specs.Rules.{is_string}
use Rattle.literals.specs.Literal.{is_number}
use mathlib.Core.Path.{◌∙◌}
use Rattle.records.specs.Tree.{Literal}
use Rattle.records.proofs.literal.check_literal.Goals as goal

pub returns : goal.returns
unfolding literal_at string_at literal_number_at rule_of
returns c = c.check_tagged.ensures ∙ tagged_ends is_string is_number Literal.string Literal.number c.args.s.now c.args.at
