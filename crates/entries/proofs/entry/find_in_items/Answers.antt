-- What the items that are left make of what was found so far is what all make of nothing.
use Rattle.entries.proofs.Held.{from_next, from_none, from_start, from_stuck, unchanged}
use Prim.Native.Nat.{◌+◌, ◌-◌}
use mathlib.Core.Path.{◌∙◌, ◌≡◌}
use native.Mathlib.Omega.{arith}
use Rattle.entries.proofs.entry.find_in_items.Goals as goal
use Rattle.entries.proofs.entry.find_in_items.Goals.{then-can_change, else-can_change}

pub returns-in_default : goal.returns-in_default
returns-in_default c = from_start _ _ _ _ (c.loop.invariant ∙ from_stuck _ _ _ _ _ (omega arith) (elim c.if-can_change.branch [ then-can_change w ↦ w.found-is ∙ w.after_item-found.ensures | else-can_change w ↦ w.found-is ∙ unchanged _ _ _ _ c.can_change.ensures w.if-can_change.false ]) c.skip_item.ensures c.in_default.is)

pub loop-preserved : goal.loop-preserved
loop-preserved c =
    let m : c.args.count - (c.loop.counter + 1) ≡ c.args.count - c.loop.counter - 1 = omega arith in
    rw m (c.loop.invariant ∙ from_next _ _ _ _ _ (omega arith) (elim c.if-can_change.branch [ then-can_change w ↦ w.found-is ∙ w.after_item-found.ensures | else-can_change w ↦ w.found-is ∙ unchanged _ _ _ _ c.can_change.ensures w.if-can_change.false ]) c.skip_item.ensures c.in-Some.is)

pub returns : goal.returns
returns c = from_start _ _ _ _ (c.loop.invariant ∙ from_none _ _ _ _ _ (omega arith))
