-- `repeats::slots::Slots::seek` meets its contract. The loop's invariant: what is found in the slots that are left is what is found in all eight.
use Prim.Native.Nat.{◌+◌, ◌-◌}
use Rattle.repeats.proofs.Seeking.{seek_ended, seek_found, seek_turn}
use Rattle.repeats.specs.Relations.Slots.{seek_of}
use mathlib.Core.Path.{◌∙◌, ◌≡◌, sym}
use native.Mathlib.Omega.{arith}
use Rattle.repeats.proofs.slots.Slots.seek.Goals as goal

pub loop-j-init : goal.loop-j-init
unfolding seek_of
loop-j-init c = let z : c.slot-h.result + 8 - c.slot-h.result ≡ 8 = omega arith in rw (z, c.slot-h.ensures.0)

pub returns-then-is_suited : goal.returns-then-is_suited
returns-then-is_suited c = seek_found _ _ _ _ c.loop-j.j (omega arith) (omega arith) (sym c.is_suited.ensures ∙ c.if-is_suited.true) c.loop-j.invariant

pub loop-j-preserved : goal.loop-j-preserved
loop-j-preserved c =
    let m : c.slot-h.result + 8 - (c.loop-j.j + 1) ≡ c.slot-h.result + 8 - c.loop-j.j - 1 = omega arith in
    rw m (seek_turn _ _ _ _ c.loop-j.j (omega arith) (sym c.is_suited.ensures ∙ c.if-is_suited.false) c.loop-j.invariant)

pub returns : goal.returns
returns c = seek_ended _ _ _ _ c.loop-j.j (omega arith) c.loop-j.invariant
