-- `resolver::scope::reference::read_reference` meets its contract: what it reads as Strs is what the definition reads as Ids.
use Rattle.records.proofs.Laws.{str_in}
use Rattle.records.proofs.Views.{num_is, num_none, str_bad, str_is}
use Rattle.records.specs.Bytes.{byte_at, span_at}
use Rattle.reader.proofs.Laws.{first_is, second_is, third_is}
use Rattle.resolver.proofs.Single.References.{reference_attribute, reference_attributeless, reference_bare, reference_flagless, reference_unread}
use mathlib.Core.Path.{refl}
use Rattle.resolver.proofs.scope.reference.read_reference.Goals as goal

pub returns-in_err-from : goal.returns-in_err-from
returns-in_err-from c = reference_unread _ _ c.from_residual.ensures (str_bad _ _ (first_is span_at byte_at span_at _ _ c.read_marked-row.ensures) c.in_err-from.was)

pub returns-in_err-flag : goal.returns-in_err-flag
returns-in_err-flag c =
    let row = c.read_marked-row.ensures in
    let id = c.in_ok-from.was in
    let first = first_is span_at byte_at span_at _ _ row in
    reference_flagless _ _ (str_in _ _ first id) (str_is _ _ first id) c.from_residual-in_err-flag.ensures (num_none (second_is span_at byte_at span_at _ _ row id) c.in_err-flag.was)

pub returns-then-flag-eq0 : goal.returns-then-flag-eq0
returns-then-flag-eq0 c =
    let row = c.read_marked-row.ensures in
    let id = c.in_ok-from.was in
    let first = first_is span_at byte_at span_at _ _ row in
    let flag = num_is (second_is span_at byte_at span_at _ _ row id) c.in_ok-flag.was in
    reference_bare _ _ (str_in _ _ first id) (str_is _ _ first id) flag c.if-flag-eq0.true refl

pub returns-in_err-start : goal.returns-in_err-start
returns-in_err-start c =
    let row = c.read_marked-row.ensures in
    let id = c.in_ok-from.was in
    let mark = c.in_ok-flag.was in
    let first = first_is span_at byte_at span_at _ _ row in
    let flag = num_is (second_is span_at byte_at span_at _ _ row id) mark in
    reference_attributeless _ _ (str_in _ _ first id) (str_is _ _ first id) flag c.if-flag-eq0.false c.from_residual-in_err-start.ensures (str_bad _ _ (third_is span_at byte_at span_at _ _ row id mark) c.in_err-start.was)

pub returns : goal.returns
returns c =
    let row = c.read_marked-row.ensures in
    let id = c.in_ok-from.was in
    let mark = c.in_ok-flag.was in
    let attribute = c.in_ok-start.was in
    let first = first_is span_at byte_at span_at _ _ row in
    let flag = num_is (second_is span_at byte_at span_at _ _ row id) mark in
    let third = third_is span_at byte_at span_at _ _ row id mark in
    reference_attribute _ _ (str_in _ _ first id) (str_is _ _ first id) flag c.if-flag-eq0.false (str_in _ _ third attribute) (str_is _ _ third attribute) refl
