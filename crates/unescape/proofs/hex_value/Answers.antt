-- `unescape::hex_value` meets its contract: on each of the three ranges of digits the low half of a byte and the 64s in it are linear in the byte. What
-- `scalars` promises of any byte is then the same.
use Rattle.scalars.proofs.Scalars.{digit_value}
use native.Mathlib.Omega.{arith}
use mathlib.Core.Path.{◌∙◌, sym}
use Rattle.unescape.proofs.hex_value.Goals as goal

pub returns : goal.returns
returns c = digit_value _ (λ l m. omega arith) (λ l m. omega arith) (λ l m. omega arith) c.requires

pub prove-unreachable-requires : goal.prove-unreachable-requires
prove-unreachable-requires c = c.if-prove.true (digit_value _ (λ l m. omega arith) (λ l m. omega arith) (λ l m. omega arith) c.requires ∙ sym c.hex_value.ensures)
