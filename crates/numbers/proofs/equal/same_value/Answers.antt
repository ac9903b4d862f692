-- `numbers::equal::same_value` meets its contract: shortest decimals are equal where their values are.
use Rattle.numbers.proofs.Tests.{flag_same, value_same}
use Rattle.decimals.specs.Relations.Shown.{told}
use borrow.Author.Tests.{eq-eqb, ne_eqb}
use Rattle.numbers.proofs.equal.same_value.Goals as goal

pub returns-then-a-eq0 : goal.returns-then-a-eq0
returns-then-a-eq0 c = simp (value_same (told c.args.a) (told c.args.b) c.shortest.ensures c.shortest-2.ensures c.eq.ensures, c.if-eq.true, eq-eqb _ _ c.if-a-eq0.true)

pub returns-else-a-eq0 : goal.returns-else-a-eq0
returns-else-a-eq0 c = simp (value_same (told c.args.a) (told c.args.b) c.shortest.ensures c.shortest-2.ensures c.eq.ensures, c.if-eq.true, ne_eqb _ _ c.if-a-eq0.false, flag_same)

pub returns-else-eq : goal.returns-else-eq
returns-else-eq c = simp (value_same (told c.args.a) (told c.args.b) c.shortest.ensures c.shortest-2.ensures c.eq.ensures, c.if-eq.false)
