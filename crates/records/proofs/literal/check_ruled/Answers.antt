-- `records::literal::check_ruled` meets its contract.
use Rattle.records.proofs.Laws.{fails_to, holds, next_got, num_step, num_stop, str_in}
use Rattle.records.specs.Decode.{ruled_at}
use mathlib.Core.Path.{◌∙◌, sym}
use native.Mathlib.Omega.{arith}
use Rattle.records.proofs.literal.check_ruled.Goals as goal

pub returns-in_err-p : goal.returns-in_err-p
unfolding ruled_at
returns-in_err-p c = c.from_residual.ensures ∙ num_stop _ _ c.read_str.ensures c.in_err-p.was

pub slice_bounds-obeys-count : goal.slice_bounds-obeys-count
slice_bounds-obeys-count c =
    let in_bytes = str_in c.args.s.now c.args.at c.read_str.ensures c.in_ok-p.was in
    let h = in_bytes in omega arith

pub slice_bounds-obeys-start : goal.slice_bounds-obeys-start
slice_bounds-obeys-start c =
    let in_bytes = str_in c.args.s.now c.args.at c.read_str.ensures c.in_ok-p.was in
    let h = in_bytes in omega arith

pub slice_bounds-obeys-end : goal.slice_bounds-obeys-end
slice_bounds-obeys-end c =
    let in_bytes = str_in c.args.s.now c.args.at c.read_str.ensures c.in_ok-p.was in
    let h = in_bytes in omega arith

pub returns-then-obeys : goal.returns-then-obeys
unfolding ruled_at
returns-then-obeys c = num_step _ _ c.read_str.ensures c.in_ok-p.was (holds _ _ (sym c.obeys.ensures ∙ c.if-obeys.true) (next_got _ _))

pub returns-else-obeys : goal.returns-else-obeys
unfolding ruled_at
returns-else-obeys c = num_step _ _ c.read_str.ensures c.in_ok-p.was (fails_to _ _ (sym c.obeys.ensures ∙ c.if-obeys.false))
