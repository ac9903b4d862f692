-- `vectors::files::read_full` meets its contract: each read goes on where the last one ended.
use Rattle.std.proofs.Common.{rules}
use Rattle.vectors.proofs.Rests.{loses_read}
use Rattle.vectors.proofs.files.read_full.Goals as goal

pub loop-done-preserved : goal.loop-done-preserved
loop-done-preserved g c = record { bound = search rules; rest = loses_read _ _ _ c.read.result c.read.new.buf c.loop-done.invariant.rest c.read.ensures.bytes }
