-- `records::write::write_u32` meets its contract: its upper and its lower half, where all four bytes fit.
use Rattle.records.proofs.Laws.{there}
use Rattle.records.proofs.Writing.{four_written, stays}
use Rattle.records.specs.Bytes.{to_be}
use native.Mathlib.Omega.{arith}
use Rattle.records.proofs.write.write_u32.Goals as goal

pub overflow_add-at : goal.overflow_add-at
overflow_add-at c = let h = there c.args.d.now c.args.at 4 c.has_bytes.ensures c.if-has_bytes.true in omega arith

pub returns-then-has_bytes : goal.returns-then-has_bytes
returns-then-has_bytes c = four_written c.args.d.now c.args.at c.args.v (there c.args.d.now c.args.at 4 c.has_bytes.ensures c.if-has_bytes.true) c.write_u16.ensures c.write_u16-then-has_bytes.ensures

pub returns-else-has_bytes : goal.returns-else-has_bytes
unfolding to_be
returns-else-has_bytes c = stays c.args.d.now c.args.at (to_be 4 c.args.v) c.has_bytes.ensures c.if-has_bytes.false
