-- `repeats::slots::slot` meets its contract. The loop's invariant: what the bytes that are left make of the number so far is what all make of 0; and it is small.
use Prim.Native.Nat.{◌%◌, ◌*◌, ◌+◌, ◌/◌, ℕ}
use Rattle.decimals.proofs.Run.{run_done, run_turn}
use Rattle.repeats.specs.Relations.Slots.{hash_step, mixed, slot_of}
use mathlib.Core.Path.{ap, refl, sym}
use native.Mathlib.Omega.{arith}
use Rattle.repeats.proofs.slots.slot.Goals as goal

pub loop-b-preserved : goal.loop-b-preserved
unfolding hash_step
loop-b-preserved c = (run_turn hash_step _ c.loop-b-test.true c.loop-b.invariant.0 refl, omega arith)

pub returns : goal.returns
unfolding slot_of mixed
returns c = (ap (λ (h : ℕ). (((h + h / 65536) * 2654435769) % 4294967296) / 524288) (sym (run_done hash_step c.args.id.now c.loop-b.h {i = c.loop-b.b-index} c.loop-b-test.false c.loop-b.invariant.0)), omega arith)
