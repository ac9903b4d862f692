-- `texts::errors::write_str` meets its contract.
use Rattle.texts.proofs.Recording.{str_written}
use Rattle.texts.proofs.errors.write_str.Goals as goal

pub returns : goal.returns
returns c = str_written _ _ _ c.requires.0 c.write_u16.ensures c.write_bytes.ensures
