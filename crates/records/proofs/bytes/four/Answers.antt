-- The two halves of four bytes make the number.
use Rattle.records.proofs.Laws.{four_halves}
use native.Mathlib.Omega.{arith}
use Rattle.records.proofs.bytes.four.Goals as goal

pub returns : goal.returns
returns c = let e = four_halves c.args.s.now c.args.at (omega arith) in (rw e (omega arith), omega arith)
