-- `sheet_format::run_messages` meets its contract: the messages that were passed led to a machine at rest, from which those that are left give what the whole sheet gives.
use Prim.Native.Nat.{◌-◌}
use Rattle.sheet_format.specs.Relations.Sheets.{Passed}
use Rattle.sheet_format.proofs.run_messages.Given as goal

abbrev pub invariant-loop : goal.invariant-loop
invariant-loop l = Passed l.store l.sheet l.initial.text l.initial.list l.initial.work l.text l.list l.work l.st l.at (l.count - l.counter) l.begun
