-- `records::check_named_arguments` meets its contract.
use Rattle.records.proofs.Laws.{fails_to, holds, next_got, next_know, next_stop}
use Rattle.records.specs.Decode.{named_arguments_at}
use mathlib.Core.Path.{◌∙◌, sym}
use Rattle.records.proofs.call_arguments.check_named_arguments.Goals as goal

pub returns-in_err-t : goal.returns-in_err-t
unfolding named_arguments_at
returns-in_err-t c = c.from_residual.ensures ∙ next_stop _ _ c.check_all_named.ensures c.in_err-t.was

pub returns-then-names_distinct : goal.returns-then-names_distinct
unfolding named_arguments_at
returns-then-names_distinct c = next_know _ _ c.check_all_named.ensures c.in_ok-t.was (λ l h. holds _ _ (sym (c.names_distinct.ensures l _ h) ∙ c.if-names_distinct.true) (next_got _ _))

pub returns-else-names_distinct : goal.returns-else-names_distinct
unfolding named_arguments_at
returns-else-names_distinct c = next_know _ _ c.check_all_named.ensures c.in_ok-t.was (λ l h. fails_to _ _ (sym (c.names_distinct.ensures l _ h) ∙ c.if-names_distinct.false))
