-- `unescape::Piece::write` meets its contract: a byte, or a scalar.
use Rattle.buffers.proofs.Place.{set_over}
use Rattle.unescape.proofs.Reading.{byte_reads, byte_room, scalar_reads, scalar_room}
use Rattle.buffers.specs.Relations.Append.{over}
use mathlib.Core.Path.{◌∙◌, ap}
use native.Mathlib.Omega.{arith}
use Rattle.unescape.proofs.Piece.write.Goals as goal

pub bounds-d-at : goal.bounds-d-at
bounds-d-at c = let f = byte_room c.args.at _ c.in-Byte.is c.requires in omega arith

pub write_scalar-requires : goal.write_scalar-requires
write_scalar-requires c = (scalar_room _ _ c.in-Scalar.is c.scalar_or.ensures.0 c.requires, c.scalar_or.ensures.1)

pub returns-in-Byte : goal.returns-in-Byte
returns-in-Byte c = set_over _ _ _ (byte_room _ _ c.in-Byte.is c.requires) ∙ ap (over _ _) (byte_reads c.in-Byte.is)

pub returns-in-Scalar : goal.returns-in-Scalar
returns-in-Scalar c = c.write_scalar.ensures ∙ ap (over _ _) (scalar_reads c.in-Scalar.is c.scalar_or.ensures.0)
