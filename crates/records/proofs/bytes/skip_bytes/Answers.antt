-- `records::bytes::skip_bytes` meets its contract.
use Rattle.records.proofs.Laws.{bytes_short, bytes_there, there}
use native.Mathlib.Omega.{arith}
use Rattle.records.proofs.bytes.skip_bytes.Goals as goal

pub overflow_add-result : goal.overflow_add-result
overflow_add-result c = let h = there c.args.s.now c.args.at c.args.n c.has_bytes.ensures c.if-has_bytes.true in omega arith

pub returns-then-has_bytes : goal.returns-then-has_bytes
returns-then-has_bytes c = bytes_there c.args.s.now c.args.at c.args.n c.has_bytes.ensures c.if-has_bytes.true

pub returns : goal.returns
returns c = bytes_short c.args.s.now c.args.at c.args.n c.has_bytes.ensures c.if-has_bytes.false
