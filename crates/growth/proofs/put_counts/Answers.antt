-- `growth::put_counts` meets its contract: two numbers, each over the bytes that stood there.
use Rattle.growth.proofs.Items.{counts_over}
use Rattle.growth.proofs.put_counts.Goals as goal

pub returns : goal.returns
returns c = counts_over _ _ _ c.requires.0 c.write_u32.ensures c.write_u16.ensures
