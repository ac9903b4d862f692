-- `vectors::compare::begins` meets its contract: the front is compared, then what follows it.
use Rattle.std.proofs.Common.{arith}
use Rattle.vectors.proofs.Same.{begins_some, begins_none}
use Rattle.vectors.proofs.compare.begins.Goals as goal

pub returns-in-Some : goal.returns-in-Some
returns-in-Some c =
    let front = c.in-Some.ensures.cases in
    begins_some c.args.s.now c.args.front.now (omega (arith, front.2)) front.0 front.1 c.all_are.ensures

pub returns-in-None : goal.returns-in-None
returns-in-None c = begins_none c.args.s.now c.args.front.now c.in-None.ensures.cases
