-- `entries::message::find_attribute` meets its contract: the attributes stand behind the Id and the value.
use Rattle.records.specs.Names.{first_named}
use Rattle.entries.specs.Relations.Meets.{at_position}
use mathlib.Core.Path.{◌∙◌, ap, sym}
use Rattle.entries.proofs.Headers.{attributes_no_id, attributes_no_value, attributes_no_count, attributes_start}
use Rattle.entries.proofs.message.find_attribute.Goals as goal

pub returns-in_err-e : goal.returns-in_err-e
unfolding first_named at_position
returns-in_err-e c = c.from_residual.ensures ∙ ap (λ l. at_position (first_named c.args.name.now l)) (sym (attributes_no_id _ _ c.read_str_behind.ensures c.in_err-e.was))

pub returns-in_err-p : goal.returns-in_err-p
unfolding first_named at_position
returns-in_err-p c = c.from_residual-in_err-p.ensures ∙ ap (λ l. at_position (first_named c.args.name.now l)) (sym (attributes_no_value _ _ c.read_str_behind.ensures _ _ c.in_ok-e.was c.skip_value.ensures c.in_err-p.was))

pub returns-in_err-count : goal.returns-in_err-count
unfolding first_named at_position
returns-in_err-count c = c.from_residual-in_err-count.ensures ∙ ap (λ l. at_position (first_named c.args.name.now l)) (sym (attributes_no_count _ _ c.read_str_behind.ensures _ _ c.in_ok-e.was c.skip_value.ensures _ c.in_ok-p.was c.read_u16.ensures c.in_err-count.was))

pub returns : goal.returns
returns c = c.find_named.ensures ∙ ap (λ l. at_position (first_named c.args.name.now l)) (sym (attributes_start _ _ c.read_str_behind.ensures _ _ c.in_ok-e.was c.skip_value.ensures _ c.in_ok-p.was c.read_u16.ensures c.in_ok-count.was))
