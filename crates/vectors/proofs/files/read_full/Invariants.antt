-- `vectors::files::read_full`: what was read lies in the buffer, and the file has lost it.
use Rattle.std.proofs.Common.{length, ◌-◌, ◌≤◌}
use Rattle.vectors.specs.Rests.{LosesFront}
use Rattle.vectors.proofs.files.read_full.Given as goal

abbrev pub invariant-loop-done : goal.invariant-loop-done
invariant-loop-done g l = record { bound : l.done ≤ length l.buffer; rest : LosesFront (g.R.Read.remaining l.initial.file) (g.R.Read.remaining l.file) }

abbrev pub decreases-loop-done : goal.decreases-loop-done
decreases-loop-done g l = length l.buffer - l.done
