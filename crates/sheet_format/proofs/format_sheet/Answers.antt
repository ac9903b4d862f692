-- `sheet_format::format_sheet` meets its contract: 4, 18 and 7 in their order, and then the messages; its figure is the definition's.
use Rattle.layout.proofs.Stands.{octets_of}
use Rattle.records.proofs.Laws.{next_at}
use Rattle.records.proofs.Views.{next_none}
use Rattle.resolver.proofs.Ends.{failed_on}
use Rattle.resolver.proofs.Names.{by_name, refused_named}
use Rattle.sheet_format.proofs.Names.{sheet_named}
use Rattle.sheet_format.proofs.Ends.{checked_both, failed_for, refused_header, refused_sheet, refused_store, sheet_closed, with_figure}
use mathlib.Core.Path.{◌∙◌, refl, sym}
use native.Mathlib.Omega.{arith}
use Rattle.sheet_format.proofs.format_sheet.Goals as goal

pub returns-in_err-ok_or : goal.returns-in_err-ok_or
returns-in_err-ok_or c = let all = with_figure _ _ _ _ _ _ _ (refused_store _ _ _ _ _ (next_none c.check_store.ensures c.in_err-ok_or.ensures.ok_part) (failed_for _ c.in_err-ok_or.ensures.ok_part c.in_err-ok_or.ensures.value c.from_residual.ensures.1)) in record { work_after = all.0; figure_is = all.1; named = refused_named (failed_on _ c.from_residual.ensures.1) }

pub returns-in_err-ok_or-2 : goal.returns-in_err-ok_or-2
returns-in_err-ok_or-2 c = let all = with_figure _ _ _ _ _ _ _ (refused_sheet _ _ _ _ _ (next_at _ (sym c.in_ok-ok_or.ensures.ok_part ∙ c.check_store.ensures)).1 (next_none c.check_sheet.ensures c.in_err-ok_or-2.ensures.ok_part) (failed_for _ c.in_err-ok_or-2.ensures.ok_part c.in_err-ok_or-2.ensures.value c.from_residual-in_err-ok_or-2.ensures.1)) in record { work_after = all.0; figure_is = all.1; named = refused_named (failed_on _ c.from_residual-in_err-ok_or-2.ensures.1) }

pub returns-then-list-lt5 : goal.returns-then-list-lt5
returns-then-list-lt5 c = let all = with_figure _ _ _ _ _ _ _ (refused_header _ _ _ _ _ (checked_both (next_at _ (sym c.in_ok-ok_or.ensures.ok_part ∙ c.check_store.ensures)).1 (next_at _ (sym c.in_ok-ok_or-2.ensures.ok_part ∙ c.check_sheet.ensures)).1) c.if-list-lt5.true) in record { work_after = all.0; figure_is = all.1; named = refused_named refl }

pub run_messages-begun-requires : goal.run_messages-begun-requires
run_messages-begun-requires c = record { checked = checked_both (next_at _ (sym c.in_ok-ok_or.ensures.ok_part ∙ c.check_store.ensures)).1 (next_at _ (sym c.in_ok-ok_or-2.ensures.ok_part ∙ c.check_sheet.ensures)).1; header = omega (arith, c.if-list-lt5.false); started = c.new-st.ensures }

pub shape_of-text : goal.shape_of-text
shape_of-text c = c.finish.auto.text ∙ c.run_messages-begun.auto.text

pub shape_of-list : goal.shape_of-list
shape_of-list c = c.finish.auto.list ∙ c.run_messages-begun.auto.list

pub shape_of-work : goal.shape_of-work
shape_of-work c = c.finish.auto.work ∙ c.run_messages-begun.auto.work

pub returns : goal.returns
returns c =
    let store_octets = octets_of c.args.store.now (λ i _. omega (arith, c.shared_slice_known-1.given i)) in
    let sheet_octets = octets_of c.args.sheet.now (λ i _. omega (arith, c.shared_slice_known-2-1.given i)) in
    let all = with_figure _ _ _ _ _ _ _ (sheet_closed _ _ _ _ _ store_octets sheet_octets (omega (arith, c.if-list-lt5.false)) c.run_messages-begun.auto.text c.run_messages-begun.auto.list c.run_messages-begun.auto.work c.run_messages-begun.ensures c.finish.ensures.work_after) in record { work_after = all.0; figure_is = all.1; named = by_name _ _ _ _ _ all.0 (sheet_named _ _ _) c.finish.ensures.named }
