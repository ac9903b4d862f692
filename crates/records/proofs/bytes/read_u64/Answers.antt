-- `records::bytes::read_u64` meets its contract: the two halves of eight bytes make the number.
use Rattle.records.proofs.Laws.{eight_halves, number_short, number_there, there}
use native.Mathlib.Omega.{arith}
use Rattle.records.proofs.bytes.read_u64.Goals as goal

pub four-high-requires : goal.four-high-requires
four-high-requires c =
    let inside = there c.args.s.now c.args.at 8 c.has_bytes.ensures c.if-has_bytes.true in
    let h = inside in omega arith

pub overflow_add-at : goal.overflow_add-at
overflow_add-at c =
    let inside = there c.args.s.now c.args.at 8 c.has_bytes.ensures c.if-has_bytes.true in
    let h = inside in omega arith

pub four-low-requires : goal.four-low-requires
four-low-requires c =
    let inside = there c.args.s.now c.args.at 8 c.has_bytes.ensures c.if-has_bytes.true in
    let h = inside in omega arith

pub overflow_add-result-then-has_bytes : goal.overflow_add-result-then-has_bytes
overflow_add-result-then-has_bytes c =
    let inside = there c.args.s.now c.args.at 8 c.has_bytes.ensures c.if-has_bytes.true in
    let h = inside in omega arith

pub returns-then-has_bytes : goal.returns-then-has_bytes
returns-then-has_bytes c =
    let inside = there c.args.s.now c.args.at 8 c.has_bytes.ensures c.if-has_bytes.true in
    number_there c.args.s.now c.args.at 8 c.has_bytes.ensures c.if-has_bytes.true (let h = inside in let e = eight_halves c.args.s.now c.args.at h in rw e (cc))

pub returns : goal.returns
returns c = number_short c.args.s.now c.args.at 8 c.has_bytes.ensures c.if-has_bytes.false
