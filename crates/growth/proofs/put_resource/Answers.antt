-- `growth::put_resource` meets its contract: the mode, and the image behind it.
use Rattle.growth.proofs.Items.{resource_length, resource_written}
use mathlib.Core.Path.{refl}
use Rattle.growth.proofs.put_resource.Goals as goal

pub shape_of-slice : goal.shape_of-slice
shape_of-slice c =
    let bytes = resource_written c.args.slice.now c.args.at c.args.mode c.args.image.now c.requires refl c.write_bytes.ensures in
    resource_length c.args.slice.now c.args.at c.args.mode c.args.image.now c.requires bytes

pub returns : goal.returns
returns c =
    let bytes = resource_written c.args.slice.now c.args.at c.args.mode c.args.image.now c.requires refl c.write_bytes.ensures in
    bytes
