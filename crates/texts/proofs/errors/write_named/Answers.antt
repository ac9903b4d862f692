-- `texts::errors::write_named` meets its contract.
use Rattle.buffers.proofs.Place.{length_over}
use Rattle.texts.proofs.Recording.{length_named, named_written}
use lib.ListN.{length, length-set}
use mathlib.Core.Path.{◌∙◌, ap}
use native.Mathlib.Omega.{arith}
use Rattle.texts.proofs.errors.write_named.Goals as goal

pub write_str-requires : goal.write_str-requires
write_str-requires c = simp length-set (omega (arith, c.requires.0, c.requires.2))

pub shape_of-d : goal.shape_of-d
shape_of-d c =
    let bytes = named_written _ _ _ _ _ _ c.requires.0 c.write_head.ensures c.write_str.ensures in
    ap length bytes ∙ length_over _ _ _ (omega (arith, c.requires.0, length_named c.args.n c.args.tag c.args.kind c.args.s.now))

pub returns : goal.returns
returns c =
    let bytes = named_written _ _ _ _ _ _ c.requires.0 c.write_head.ensures c.write_str.ensures in
    bytes
