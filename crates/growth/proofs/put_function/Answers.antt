-- `growth::put_function` meets its contract: the pieces of the record, one behind the other.
use Prim.Native.Nat.{◌+◌}
use Rattle.growth.proofs.Items.{function_put_length, function_written, written_length}
use Rattle.records.specs.Bytes.{to_be}
use lib.ListN.{length, length-set}
use mathlib.Core.Path.{refl}
use native.Mathlib.Omega.{arith}
use Rattle.growth.proofs.put_function.Goals as goal

pub bounds-slice-at-2 : goal.bounds-slice-at-2
bounds-slice-at-2 c = let h = c.requires in let l = written_length c.args.slice.now c.args.at 3 (c.args.at + 1) (to_be 4 (8 + length c.args.id.now)) c.write_u32.ensures in omega arith

pub bounds-slice-at-3 : goal.bounds-slice-at-3
bounds-slice-at-3 c = let h = c.requires in let l = written_length c.args.slice.now c.args.at 3 (c.args.at + 1) (to_be 4 (8 + length c.args.id.now)) c.write_u32.ensures in simp length-set (omega arith)

pub shape_of-slice : goal.shape_of-slice
shape_of-slice c =
    let bytes = function_written c.args.slice.now c.args.at c.args.id.now c.requires.0 refl c.write_u32.ensures refl refl c.write_u16.ensures c.write_bytes.ensures in
    function_put_length c.args.slice.now c.args.at c.args.id.now c.requires.0 bytes

pub returns : goal.returns
returns c =
    let bytes = function_written c.args.slice.now c.args.at c.args.id.now c.requires.0 refl c.write_u32.ensures refl refl c.write_u16.ensures c.write_bytes.ensures in
    bytes
