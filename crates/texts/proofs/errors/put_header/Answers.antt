-- `texts::errors::put_header` meets its contract.
use Rattle.texts.proofs.Recording.{headed_done, headed_long, headed_short, header_written}
use mathlib.Core.Path.{◌∙◌, sym}
use Rattle.texts.proofs.errors.put_header.Goals.{then-list-lt5-via-then-list-lt5, then-list-lt5-via-else-list-lt5+then-whole-ge4294967296}
use Rattle.texts.proofs.errors.put_header.Goals as goal

pub returns-then-list-lt5 : goal.returns-then-list-lt5
returns-then-list-lt5 c = elim c.then-list-lt5.branch [
  | then-list-lt5-via-then-list-lt5 w ↦ sym (headed_short _ _ w.if-list-lt5.true)
  | then-list-lt5-via-else-list-lt5+then-whole-ge4294967296 w ↦ sym (headed_long _ _ w.if-list-lt5.false w.if-whole-ge4294967296.true)
]

pub returns : goal.returns
returns c = header_written _ _ c.if-list-lt5.false c.write_u32.ensures ∙ sym (headed_done _ _ c.if-list-lt5.false c.if-whole-ge4294967296.false)
