-- `resolver::scope::value::read_named` meets its contract: what its three reads say is what the definition reads of a named argument.
use Rattle.records.proofs.Views.{num_is, num_none}
use Rattle.records.specs.Bytes.{byte_at, span_at}
use Rattle.reader.proofs.Laws.{first_is, second_is, third_is}
use Rattle.resolver.proofs.Single.Named.{named_as, read_all, read_no_name, read_no_tag, read_no_text}
use mathlib.Core.Path.{refl}
use Rattle.resolver.proofs.scope.value.read_named.Goals as goal

pub returns-in_err-from : goal.returns-in_err-from
returns-in_err-from c = named_as c.from_residual.ensures (read_no_name _ _ (num_none (first_is span_at byte_at span_at _ _ c.read_marked-row.ensures) c.in_err-from.was))

pub returns-in_err-tag : goal.returns-in_err-tag
returns-in_err-tag c =
    let row = c.read_marked-row.ensures in
    let name = c.in_ok-from.was in
    named_as c.from_residual-in_err-tag.ensures (read_no_tag _ _ (num_is (first_is span_at byte_at span_at _ _ row) name) (num_none (second_is span_at byte_at span_at _ _ row name) c.in_err-tag.was))

pub returns-in_err-start : goal.returns-in_err-start
returns-in_err-start c =
    let row = c.read_marked-row.ensures in
    let name = c.in_ok-from.was in
    let mark = c.in_ok-tag.was in
    named_as c.from_residual-in_err-start.ensures (read_no_text _ _ (num_is (first_is span_at byte_at span_at _ _ row) name) (num_is (second_is span_at byte_at span_at _ _ row name) mark) (num_none (third_is span_at byte_at span_at _ _ row name mark) c.in_err-start.was))

pub returns : goal.returns
returns c =
    let row = c.read_marked-row.ensures in
    let name = c.in_ok-from.was in
    let mark = c.in_ok-tag.was in
    read_all _ _ (num_is (first_is span_at byte_at span_at _ _ row) name) (num_is (second_is span_at byte_at span_at _ _ row name) mark) (num_is (third_is span_at byte_at span_at _ _ row name mark) c.in_ok-start.was) refl
