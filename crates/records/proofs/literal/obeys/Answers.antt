-- `records::literal::obeys` meets its contract: each rule by its own test.
use Rattle.records.specs.Relations.Rule.{rule_of}
use Rattle.records.proofs.literal.obeys.Goals as goal

pub returns-in-Id : goal.returns-in-Id
unfolding rule_of
returns-in-Id c = rw c.in-Id.is c.is_id.ensures

pub returns-in-Text : goal.returns-in-Text
unfolding rule_of
returns-in-Text c = rw c.in-Text.is c.is_text.ensures

pub returns-in-String : goal.returns-in-String
unfolding rule_of
returns-in-String c = rw c.in-String.is c.is_string.ensures

pub returns-in-Number : goal.returns-in-Number
unfolding rule_of
returns-in-Number c = rw c.in-Number.is c.is_number.ensures

pub returns-in-Utf8 : goal.returns-in-Utf8
unfolding rule_of
returns-in-Utf8 c = rw c.in-Utf8.is c.is_utf8.ensures
