-- `records::bytes::read_u16` meets its contract.
use Rattle.records.proofs.Laws.{number_short, number_there, there}
use native.Mathlib.Omega.{arith}
use Rattle.records.proofs.bytes.read_u16.Goals as goal

pub two-requires : goal.two-requires
two-requires c =
    let inside = there c.args.s.now c.args.at 2 c.has_bytes.ensures c.if-has_bytes.true in
    inside

pub overflow_add-result : goal.overflow_add-result
overflow_add-result c =
    let inside = there c.args.s.now c.args.at 2 c.has_bytes.ensures c.if-has_bytes.true in
    let h = inside in omega arith

pub returns-then-has_bytes : goal.returns-then-has_bytes
returns-then-has_bytes c = number_there c.args.s.now c.args.at 2 c.has_bytes.ensures c.if-has_bytes.true c.two.ensures.0

pub returns : goal.returns
returns c = number_short c.args.s.now c.args.at 2 c.has_bytes.ensures c.if-has_bytes.false
