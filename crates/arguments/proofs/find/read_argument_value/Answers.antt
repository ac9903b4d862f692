-- `arguments::find::read_argument_value` meets its contract: the value is read by its tag, and each part is there or the value is not.
use Rattle.arguments.proofs.Found.{digits_bad, given_bad, given_is, number_bad, number_is, scale_bad, text_bad, text_is, value_bad, value_nothing, value_number, value_text_law}
use Rattle.records.proofs.Views.{num_is, num_none}
use mathlib.Core.Path.{◌∙◌}
use Rattle.arguments.proofs.find.read_argument_value.Goals as goal

pub returns-in_err-tag : goal.returns-in_err-tag
returns-in_err-tag c = c.from_residual.ensures ∙ given_bad (value_bad c.args.s.now c.args.at c.read_byte.ensures c.in_err-tag.was)

pub returns-in_err-a : goal.returns-in_err-a
returns-in_err-a c =
    let text = value_text_law c.args.s.now c.args.at c.read_byte.ensures c.in_ok-tag.was c.if-tag-eq1.true in
    c.from_residual-in_err-a.ensures ∙ given_bad (text ∙ text_bad c.args.s.now _ (num_none c.read_str.ensures c.in_err-a.was))

pub returns-then-tag-eq1 : goal.returns-then-tag-eq1
returns-then-tag-eq1 c =
    let text = value_text_law c.args.s.now c.args.at c.read_byte.ensures c.in_ok-tag.was c.if-tag-eq1.true in
    given_is (text ∙ text_is c.args.s.now _ (num_is c.read_str.ensures c.in_ok-a.was))

pub returns-in_err-sign : goal.returns-in_err-sign
returns-in_err-sign c =
    let number = value_number c.args.s.now c.args.at c.read_byte.ensures c.in_ok-tag.was c.if-tag-eq2.true in
    c.from_residual-in_err-sign.ensures ∙ given_bad (number ∙ number_bad c.args.s.now _ (num_none c.read_byte-then-tag-eq2.ensures c.in_err-sign.was))

pub returns-in_err-digits : goal.returns-in_err-digits
returns-in_err-digits c =
    let number = value_number c.args.s.now c.args.at c.read_byte.ensures c.in_ok-tag.was c.if-tag-eq2.true in
    let sign = num_is c.read_byte-then-tag-eq2.ensures c.in_ok-sign.was in
    c.from_residual-in_err-digits.ensures ∙ given_bad (number ∙ digits_bad c.args.s.now _ sign (num_none c.read_u64.ensures c.in_err-digits.was))

pub returns-in_err-scale : goal.returns-in_err-scale
returns-in_err-scale c =
    let number = value_number c.args.s.now c.args.at c.read_byte.ensures c.in_ok-tag.was c.if-tag-eq2.true in
    let sign = num_is c.read_byte-then-tag-eq2.ensures c.in_ok-sign.was in
    let digits = num_is c.read_u64.ensures c.in_ok-digits.was in
    c.from_residual-in_err-scale.ensures ∙ given_bad (number ∙ scale_bad c.args.s.now _ sign digits c.in_err-scale.ensures.lookup.3)

pub returns-then-tag-eq2 : goal.returns-then-tag-eq2
returns-then-tag-eq2 c =
    let number = value_number c.args.s.now c.args.at c.read_byte.ensures c.in_ok-tag.was c.if-tag-eq2.true in
    let sign = num_is c.read_byte-then-tag-eq2.ensures c.in_ok-sign.was in
    let digits = num_is c.read_u64.ensures c.in_ok-digits.was in
    let within = c.in_ok-scale.ensures.lookup.3.0 in
    rw (c.in_ok-scale.ensures.lookup.3.1 0) (given_is (number ∙ number_is c.args.s.now _ sign digits within))

pub returns : goal.returns
returns c = given_is (value_nothing c.args.s.now c.args.at c.read_byte.ensures c.in_ok-tag.was c.if-tag-eq1.false c.if-tag-eq2.false)
