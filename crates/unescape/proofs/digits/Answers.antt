-- `unescape::digits` meets its contract: the digits that are left, after those that wrote v, give the same as all; k digits write a number below 16^k.
use Prim.Native.Nat.{◌+◌, ◌-◌}
use Rattle.scalars.proofs.Scalars.{value_below}
use Rattle.unescape.proofs.Reading.{digits_done, digits_front, digits_lack, digits_not, digits_room, digits_turn}
use mathlib.Core.Path.{◌∙◌, ◌≡◌, sym}
use native.Mathlib.Omega.{arith}
use Rattle.unescape.proofs.digits.Goals as goal

pub returns-in_err-b-items : goal.returns-in_err-b-items
returns-in_err-b-items c = let l = c.in_err-b-items.ensures.lookup.0 in c.from_residual.ensures ∙ sym (digits_lack 0 c.args.n c.args.s.now (omega arith))

pub loop-b-init : goal.loop-b-init
loop-b-init c = let e = c.in_ok-b-items.ensures.lookup.0.2 in let z : c.args.n - 0 ≡ c.args.n = omega arith in record { bound = omega arith; rest = rw (e, z) (digits_front 0 c.args.n c.args.s.now) }

pub returns-then-not-is_hex : goal.returns-then-not-is_hex
returns-then-not-is_hex c =
    let l = c.in_ok-b-items.ensures.lookup.0.3 in
    sym (digits_not _ _ c.loop-b.v _ c.loop-b-test.true (omega arith) (sym c.is_hex.ensures ∙ c.if-not-is_hex.true)) ∙ c.loop-b.invariant.rest

pub overflow_add-v : goal.overflow_add-v
overflow_add-v c =
    let l = c.in_ok-b-items.ensures.lookup.0.3 in
    let room = digits_room c.loop-b.v c.loop-b.b-index c.hex_value.result c.loop-b.invariant.bound (omega arith) (rw c.hex_value.ensures (value_below _)) in
    omega arith

pub loop-b-preserved : goal.loop-b-preserved
loop-b-preserved c =
    let l = c.in_ok-b-items.ensures.lookup.0.3 in
    let m : c.args.n - (c.loop-b.b-index + 1) ≡ c.args.n - c.loop-b.b-index - 1 = omega arith in
    record {
      bound = (digits_room c.loop-b.v c.loop-b.b-index c.hex_value.result c.loop-b.invariant.bound (omega arith) (rw c.hex_value.ensures (value_below _))).0;
      rest = rw m (digits_turn _ _ c.loop-b.v _ c.loop-b-test.true (omega arith) (sym c.is_hex.ensures ∙ c.if-not-is_hex.false) c.hex_value.ensures c.loop-b.invariant.rest);
    }

pub returns : goal.returns
returns c =
    let l = c.in_ok-b-items.ensures.lookup.0.3 in
    sym (digits_done c.in_ok-b-items.b-items.now c.loop-b.b-index c.loop-b.v (c.args.n - c.loop-b.b-index) (omega arith)) ∙ c.loop-b.invariant.rest
