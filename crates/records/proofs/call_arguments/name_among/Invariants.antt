-- Whether the name is among those left is whether it is among all.
use Prim.Native.Nat.{◌-◌}
use Rattle.records.proofs.Named.{Rest}
use Rattle.records.specs.Bytes.{part}
use Rattle.records.specs.Names.{among}
use Rattle.records.proofs.call_arguments.name_among.Given as goal

abbrev pub invariant-loop : goal.invariant-loop
invariant-loop l = Rest (among (part l.s l.p (l.e - l.p))) l.s l.count l.from (l.count - l.counter) l.at
