-- `records::write::write_u16` meets its contract: two bytes, where they fit.
use Prim.Native.Nat.{◌%◌, ◌/◌}
use Rattle.records.proofs.Laws.{there}
use Rattle.records.proofs.Writing.{fits_sets, stays}
use Rattle.records.specs.Bytes.{to_be}
use lib.ListN.{length-set}
use mathlib.Core.Path.{◌≡◌, sym}
use native.Mathlib.Numerals.{add-one}
use native.Mathlib.Omega.{arith}
use Rattle.records.proofs.write.write_u16.Goals as goal

pub bounds-d-at : goal.bounds-d-at
bounds-d-at c =
    let room = there c.args.d.now c.args.at 2 c.has_bytes.ensures c.if-has_bytes.true in
    let h = room in omega arith

pub overflow_add-d : goal.overflow_add-d
overflow_add-d c =
    let room = there c.args.d.now c.args.at 2 c.has_bytes.ensures c.if-has_bytes.true in
    let h = room in omega arith

pub bounds-d-at-then-has_bytes : goal.bounds-d-at-then-has_bytes
bounds-d-at-then-has_bytes c =
    let room = there c.args.d.now c.args.at 2 c.has_bytes.ensures c.if-has_bytes.true in
    let h = room in simp length-set (omega arith)

pub returns-then-has_bytes : goal.returns-then-has_bytes
unfolding to_be
returns-then-has_bytes c =
    let room = there c.args.d.now c.args.at 2 c.has_bytes.ensures c.if-has_bytes.true in
    let e : c.args.v / 1 % 256 ≡ c.args.v % 256 = omega arith in
    simp (add-one, ← e) (sym (fits_sets c.args.d.now c.args.at (to_be 2 c.args.v) room))

pub returns-else-has_bytes : goal.returns-else-has_bytes
unfolding to_be
returns-else-has_bytes c = stays c.args.d.now c.args.at (to_be 2 c.args.v) c.has_bytes.ensures c.if-has_bytes.false
