-- `resolver::call::apply` meets its contract: it is refused, or no arguments stand there, or the answer says it.
use Rattle.state.proofs.Laws.{refused_no, refused_yes}
use Rattle.records.proofs.Laws.{str_in}
use Rattle.records.proofs.Views.{num_is, num_none}
use Rattle.resolver.proofs.Answers.{applied_answer, applied_halted, applied_none, applied_stopped, applied_unnamed}
use native.Mathlib.Omega.{arith}
use Rattle.resolver.proofs.call.apply.Goals as goal

pub returns-then-is_refused : goal.returns-then-is_refused
returns-then-is_refused c = applied_stopped _ _ _ _ (refused_yes c.is_refused.ensures c.if-is_refused.true)

pub returns-in_default : goal.returns-in_default
returns-in_default c = applied_none _ _ _ _ (num_none c.read_str.ensures c.in_default.is)

pub returns-in_default-read_u16 : goal.returns-in_default-read_u16
returns-in_default-read_u16 c = applied_unnamed _ _ _ _ (num_none c.read_u16.ensures c.in_default-read_u16.is)

pub returns-then-is_refused-2 : goal.returns-then-is_refused-2
returns-then-is_refused-2 c = applied_halted _ _ (num_is c.read_u16.ensures c.in-Some-read_u16.is) c.resolve_named.ensures _ _ (refused_yes c.is_refused-2.ensures c.if-is_refused-2.true)

pub slice_bounds-answer-count : goal.slice_bounds-answer-count
slice_bounds-answer-count c =
    let str-inside = str_in _ _ c.read_str.ensures c.in-Some.is in
    omega (arith, str-inside)

pub slice_bounds-answer-start : goal.slice_bounds-answer-start
slice_bounds-answer-start c =
    let str-inside = str_in _ _ c.read_str.ensures c.in-Some.is in
    omega (arith, str-inside)

pub slice_bounds-answer-end : goal.slice_bounds-answer-end
slice_bounds-answer-end c =
    let str-inside = str_in _ _ c.read_str.ensures c.in-Some.is in
    omega (arith, str-inside)

pub returns : goal.returns
returns c = applied_answer _ _ (num_is c.read_u16.ensures c.in-Some-read_u16.is) c.resolve_named.ensures (num_is c.read_str.ensures c.in-Some.is) (refused_no c.is_refused.ensures c.if-is_refused.false) (refused_no c.is_refused-2.ensures c.if-is_refused-2.false) c.answer.ensures
