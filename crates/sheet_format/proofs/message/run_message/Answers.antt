-- `sheet_format::message::run_message` meets its contract: 11 or 12 where the message is not found, 13 or 19 where its arguments are refused, and else its run.
use Rattle.arguments.proofs.Judging.{judged_fine, judged_refused}
use Rattle.sheet_format.proofs.Messages.{message_lacks, message_on, message_refused, refused_by}
use Rattle.state.specs.declared.Scope.{Scope}
use Rattle.std.specs.Prelude.{is_ok}
use mathlib.Core.Path.{◌∙◌, ap}
use Rattle.sheet_format.proofs.message.run_message.Goals as goal

pub returns-in-Err-check_arguments : goal.returns-in-Err-check_arguments
returns-in-Err-check_arguments c = message_refused _ _ _ _ _ _ _ c.find_request.ensures c.in-Ok.is c.in-Err-check_arguments.why (judged_refused _ c.check_arguments.ensures.0 c.in-Err-check_arguments.is) (refused_by c.in-Err-check_arguments.why c.args.st.now (c.from-in-Err-check_arguments.ensures ∙ c.number-in-Err-check_arguments.ensures) c.refuse_with-in-Err-check_arguments.ensures)

pub returns-in-Err : goal.returns-in-Err
returns-in-Err c = message_lacks _ _ _ _ _ _ _ c.find_request.ensures c.in-Err.is (refused_by c.in-Err.missing c.args.st.now (c.from.ensures ∙ c.number.ensures) c.refuse_with.ensures)

pub shape_of-text : goal.shape_of-text
shape_of-text c = c.run_on.auto.text

pub shape_of-list : goal.shape_of-list
shape_of-list c = c.run_on.auto.list

pub shape_of-work : goal.shape_of-work
shape_of-work c = c.run_on.auto.work

pub returns-in-Ok-check_arguments : goal.returns-in-Ok-check_arguments
returns-in-Ok-check_arguments c = message_on _ _ _ _ _ _ _ c.find_request.ensures c.in-Ok.is (judged_fine _ c.check_arguments.ensures.0 c.in-Ok-check_arguments.is).1 (c.check_arguments.ensures.1 (ap is_ok c.in-Ok-check_arguments.is)) c.run_on.ensures.0 (ap (λ (y : Scope). y.begun) c.run_on.ensures.1)
