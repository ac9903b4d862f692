-- `records::read_byte` meets its contract.
use Rattle.records.specs.Bytes.{byte_at}
use Rattle.records.specs.Relations.Answer.{num_of}
use Rattle.records.specs.Got.{test}
use borrow.Author.Tests.{le-ltb, lt-ltb}
use Rattle.records.proofs.bytes.read_byte.Goals as goal

pub returns-then-at-s : goal.returns-then-at-s
unfolding byte_at test num_of
returns-then-at-s c = simp (lt-ltb _ _ c.if-at-s.true) (cc)

pub returns-else-at-s : goal.returns-else-at-s
unfolding byte_at test num_of
returns-else-at-s c = simp (le-ltb _ _ c.if-at-s.false)
