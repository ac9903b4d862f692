-- `records::bytes::has_bytes` meets its contract: the length is taken off first, so no sum is too large.
use Prim.Native.Nat.{◌+◌}
use Rattle.records.proofs.Laws.{less_leb}
use borrow.Author.Tests.{lt-leb}
use mathlib.Core.Path.{sym}
use native.Mathlib.Omega.{arith}
use Rattle.records.proofs.bytes.has_bytes.Goals as goal

pub returns-then-size-n : goal.returns-then-size-n
returns-then-size-n c = sym (lt-leb (c.args.at + c.args.n) c.args.size (omega arith))

pub returns : goal.returns
returns c = less_leb c.args.size c.args.at c.args.n (omega arith)
