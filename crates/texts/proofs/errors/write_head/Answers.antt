-- `texts::errors::write_head` meets its contract.
use Rattle.texts.proofs.Recording.{head_written}
use Rattle.texts.proofs.errors.write_head.Goals as goal

pub returns : goal.returns
returns c = head_written _ _ _ _ c.requires.0 c.write_u16.ensures
