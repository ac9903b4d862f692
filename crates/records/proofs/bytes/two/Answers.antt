-- Two bytes, the higher first.
use Rattle.records.proofs.Laws.{part2}
use native.Mathlib.Omega.{arith}
use Rattle.records.proofs.bytes.two.Goals as goal

pub returns : goal.returns
returns c = let e = part2 c.args.s.now c.args.at (omega arith) in (rw e (omega arith), omega arith)
