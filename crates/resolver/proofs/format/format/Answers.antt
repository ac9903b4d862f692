-- `resolver::format::format` meets its contract: the refusals in their order, and the run; its figure is the definition's.
use Rattle.arguments.proofs.Judging.{judged_fine, judged_refused}
use Rattle.layout.proofs.Stands.{octets_of}
use Rattle.resolver.proofs.Names.{by_name, format_named, refused_named}
use Rattle.resolver.proofs.Ends.{failed_on, format_arguments_law, format_header, format_refused, format_run, with_figure}
use Rattle.state.specs.declared.Scope.{Scope}
use Rattle.std.specs.Prelude.{is_ok}
use mathlib.Core.Path.{◌∙◌, ap, refl}
use native.Mathlib.Omega.{arith}
use Rattle.resolver.proofs.format.format.Goals as goal

pub returns-in_err-q : goal.returns-in_err-q
returns-in_err-q c = let all = with_figure _ _ _ _ _ _ _ _ _ (format_refused _ _ _ _ _ _ _ c.find_pattern.ensures c.in_err-q.was (failed_on _ c.from_residual.ensures.1)) in record { work_after = all.0; figure_is = all.1; named = refused_named (failed_on _ c.from_residual.ensures.1) }

pub returns-in_err-check_arguments : goal.returns-in_err-check_arguments
returns-in_err-check_arguments c = let all = with_figure _ _ _ _ _ _ _ _ _ (format_arguments_law _ _ _ _ _ _ _ c.find_pattern.ensures _ c.in_ok-q.was (judged_refused _ c.check_arguments.ensures.0 c.in_err-check_arguments.was) (failed_on _ c.from_residual-in_err-check_arguments.ensures.1)) in record { work_after = all.0; figure_is = all.1; named = refused_named (failed_on _ c.from_residual-in_err-check_arguments.ensures.1) }

pub returns-then-list-lt5 : goal.returns-then-list-lt5
returns-then-list-lt5 c = let all = with_figure _ _ _ _ _ _ _ _ _ (format_header _ _ _ _ _ _ _ c.find_pattern.ensures _ c.in_ok-q.was (judged_fine _ c.check_arguments.ensures.0 c.in_ok-check_arguments.was).1 c.if-list-lt5.true refl) in record { work_after = all.0; figure_is = all.1; named = refused_named refl }

pub shape_of-text : goal.shape_of-text
shape_of-text c = c.finish.auto.text ∙ c.run_on-scope.auto.text

pub shape_of-list : goal.shape_of-list
shape_of-list c = c.finish.auto.list ∙ c.run_on-scope.auto.list

pub shape_of-work : goal.shape_of-work
shape_of-work c = c.finish.auto.work ∙ c.run_on-scope.auto.work

pub returns : goal.returns
returns c = let all = with_figure _ _ _ _ _ _ _ _ _ (format_run _ _ _ _ _ _ _ c.find_pattern.ensures _ c.in_ok-q.was (judged_fine _ c.check_arguments.ensures.0 c.in_ok-check_arguments.was).1 (c.check_arguments.ensures.1 (ap is_ok c.in_ok-check_arguments.was)) (octets_of c.args.store.now (λ i _. omega (arith, c.shared_slice_known-1.given i))) (omega (arith, c.if-list-lt5.false)) c.new-st.ensures c.run_on-scope.ensures.0 (ap (λ (y : Scope). y.begun) c.run_on-scope.ensures.1) c.finish.ensures.work_after) in record { work_after = all.0; figure_is = all.1; named = by_name _ _ _ _ _ all.0 (format_named _ _ _ _ _) c.finish.ensures.named }
