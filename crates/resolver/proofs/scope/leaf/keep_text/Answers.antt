-- `resolver::scope::leaf::keep_text` meets its contract: the text that was made lies at the workspace's back then, and is the value; where it was refused nothing is done.
use Rattle.state.proofs.Laws.{refused_no, refused_yes}
use Rattle.resolver.proofs.Targets.{order_is, order_not}
use Rattle.resolver.proofs.Values.{kept_made, kept_never, kept_stopped}
use mathlib.Core.Path.{◌∙◌, refl, sym}
use native.Mathlib.Omega.{arith}
use Rattle.resolver.proofs.scope.leaf.keep_text.Goals as goal

pub returns-then-is_refused : goal.returns-then-is_refused
returns-then-is_refused c = kept_stopped _ _ _ _ _ (refused_yes c.is_refused.ensures c.if-is_refused.true)

pub returns-then-not-in_order : goal.returns-then-not-in_order
returns-then-not-in_order c = kept_never _ _ _ _ _ (refused_no c.is_refused.ensures c.if-is_refused.false) (order_not _ _ _ _ (sym c.in_order.ensures ∙ c.if-not-in_order.true))

pub overflow_sub-n : goal.overflow_sub-n
overflow_sub-n c =
    let ordered = order_is _ _ _ _ (sym c.in_order.ensures ∙ c.if-not-in_order.false) in
    omega (arith, ordered)

pub overflow_sub-to : goal.overflow_sub-to
overflow_sub-to c =
    let ordered = order_is _ _ _ _ (sym c.in_order.ensures ∙ c.if-not-in_order.false) in
    omega (arith, ordered)

pub returns : goal.returns
returns c =
    let ordered = order_is _ _ _ _ (sym c.in_order.ensures ∙ c.if-not-in_order.false) in
    kept_made _ _ _ _ _ _ (refused_no c.is_refused.ensures c.if-is_refused.false) ordered.0 ordered.1 ordered.2 refl refl c.move_back.ensures c.set_kept.ensures c.hold.ensures.0
