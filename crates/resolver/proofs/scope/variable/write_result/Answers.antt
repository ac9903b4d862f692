-- `resolver::scope::variable::write_result` meets its contract: the value's text, the name of a function that gave Error, or a reference to one that is missing.
use Rattle.records.specs.Optional.{option_of}
use Rattle.resolver.proofs.Single.Acting.{bare_acts, braced_acts, value_acts}
use Rattle.resolver.proofs.Single.Written.{result_none, result_value, result_wrong}
use Rattle.texts.specs.Relations.Report.{referred_of}
use Rattle.resolver.proofs.scope.variable.write_result.Goals as goal

pub returns-in-Wrong : goal.returns-in-Wrong
returns-in-Wrong c = λ t g. result_wrong _ _ g _ _ c.text_of-name.ensures c.if-value.true c.in-Wrong.is (braced_acts _ _ _ c.put_braced.ensures _ _ t)

pub returns-in_default : goal.returns-in_default
returns-in_default c = λ t g. result_value _ _ g _ _ c.if-value.true c.in_default.not-Wrong ((value_acts _ _ _ c.put_value.ensures).0 _ t) (λ y k. (value_acts _ _ _ c.put_value.ensures).1 y k _ t)

pub returns : goal.returns
unfolding referred_of option_of
returns c = λ t g. result_none _ _ g _ _ c.text_of-name.ensures c.if-value.false ((bare_acts _ _ c.list_reference.ensures).0 _ _ _ t) (λ n. (bare_acts _ _ c.list_reference.ensures).1 n _ _ _ t) (braced_acts _ _ _ c.put_braced-2.ensures _ _ t)
