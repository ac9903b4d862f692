-- `repeats::slots::Slots::note_store` meets its contract. The loop's invariant: what is noted of the items that are left is noted of all.
use Rattle.entries.proofs.Decoded.{item_past}
use Rattle.records.proofs.Views.{num_is, num_none}
use Rattle.repeats.proofs.Notes.{items_next, items_none, items_stuck, store_noted, store_unread}
use Rattle.entries.proofs.Walk.{told}
use Prim.Native.Nat.{◌+◌, ◌-◌}
use mathlib.Core.Path.{◌≡◌}
use native.Mathlib.Omega.{arith}
use Rattle.repeats.proofs.slots.Slots.note_store.Goals as goal

pub returns-in_default : goal.returns-in_default
returns-in_default c = store_unread _ _ _ _ _ (num_none c.read_u16.ensures c.in_default.is)

pub loop-init : goal.loop-init
loop-init c = let z : c.in-Some.count - 0 ≡ c.in-Some.count = omega arith in rw z (λ out h. h)

pub returns-in_default-skip_item : goal.returns-in_default-skip_item
returns-in_default-skip_item c =
    let count = num_is c.read_u16.ensures c.in-Some.is in
    store_noted _ _ _ _ _ count (c.loop.invariant _ (items_stuck _ _ _ (omega arith) (told (item_past _ _ c.skip_item.ensures) c.in_default-skip_item.is)))

pub loop-preserved : goal.loop-preserved
loop-preserved c =
    let m : c.in-Some.count - (c.loop.counter + 1) ≡ c.in-Some.count - c.loop.counter - 1 = omega arith in
    rw m (λ out h. c.loop.invariant out (items_next _ _ _ (omega arith) c.note_item.ensures (told (item_past _ _ c.skip_item.ensures) c.in-Some-skip_item.is) h))

pub returns : goal.returns
returns c =
    let count = num_is c.read_u16.ensures c.in-Some.is in
    store_noted _ _ _ _ _ count (c.loop.invariant _ (items_none _ _ _ (omega arith)))
