-- `arguments::find::skip_argument_value` meets its contract: a text ends where its Str ends, a number is ten bytes, any other tag is alone.
use Rattle.arguments.proofs.Found.{number_ends, text_ends, value_bad, value_nothing, value_number, value_text_law}
use Rattle.records.specs.Relations.Answer.{next_of}
use mathlib.Core.Path.{◌∙◌, ap, sym}
use Rattle.arguments.proofs.find.skip_argument_value.Goals as goal

pub returns-in_err-tag : goal.returns-in_err-tag
unfolding next_of
returns-in_err-tag c = rw (c.from_residual.ensures, value_bad c.args.s.now c.args.at c.read_byte.ensures c.in_err-tag.was)

pub returns-then-tag-eq1 : goal.returns-then-tag-eq1
returns-then-tag-eq1 c = c.skip_str.ensures ∙ text_ends c.args.s.now _ ∙ ap next_of (sym (value_text_law c.args.s.now c.args.at c.read_byte.ensures c.in_ok-tag.was c.if-tag-eq1.true))

pub returns-then-tag-eq2 : goal.returns-then-tag-eq2
returns-then-tag-eq2 c = c.skip_bytes.ensures ∙ number_ends c.args.s.now _ ∙ ap next_of (sym (value_number c.args.s.now c.args.at c.read_byte.ensures c.in_ok-tag.was c.if-tag-eq2.true))

pub returns-else-tag-eq2 : goal.returns-else-tag-eq2
unfolding next_of
returns-else-tag-eq2 c = rw (value_nothing c.args.s.now c.args.at c.read_byte.ensures c.in_ok-tag.was c.if-tag-eq1.false c.if-tag-eq2.false)
