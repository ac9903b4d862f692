-- Whether a name is given twice among those left is whether one is given twice at all.
use Rattle.records.proofs.Named.{Rest}
use Rattle.records.specs.Names.{distinct}
use Rattle.records.proofs.call_arguments.names_distinct.Given as goal

abbrev pub invariant-loop-left : goal.invariant-loop-left
invariant-loop-left l = Rest distinct l.s l.count l.from l.left l.at
