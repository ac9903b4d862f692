-- `repeats::slots::Slots::note_entries` meets its contract. The loop's invariant: what is noted of the entries that are left is noted of all.
use Rattle.records.proofs.Views.{num_is, num_none}
use Rattle.repeats.proofs.Notes.{entries_bad, entries_next, entries_none, entries_stuck}
use native.Mathlib.Omega.{arith}
use Prim.Native.Nat.{◌+◌, ◌-◌}
use mathlib.Core.Path.{◌≡◌}
use Rattle.repeats.proofs.slots.Slots.note_entries.Goals as goal

pub loop-init : goal.loop-init
loop-init c = let z : c.args.count - 0 ≡ c.args.count = omega arith in rw z (λ out h. h)

pub returns-in_default : goal.returns-in_default
returns-in_default c = c.loop.invariant _ (entries_bad _ _ _ (omega arith) (num_none c.read_str_behind.ensures c.in_default.is))

pub returns-in_default-skip_entry : goal.returns-in_default-skip_entry
returns-in_default-skip_entry c = c.loop.invariant _ (entries_stuck _ _ _ (omega arith) c.skip_entry.ensures c.in_default-skip_entry.is)

pub loop-preserved : goal.loop-preserved
loop-preserved c =
    let span = num_is c.read_str_behind.ensures c.in-Some.is in
    let m : c.args.count - (c.loop.counter + 1) ≡ c.args.count - c.loop.counter - 1 = omega arith in
    rw m (λ out h. c.loop.invariant out (entries_next _ _ _ (omega arith) span c.note.ensures c.skip_entry.ensures c.in-Some-skip_entry.is h))

pub returns : goal.returns
returns c = c.loop.invariant _ (entries_none _ _ _ (omega arith))
