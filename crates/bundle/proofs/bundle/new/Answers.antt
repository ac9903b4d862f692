-- `bundle::bundle::new` meets its contract: each refusal by its test, and the nine bytes of an empty store.
use Rattle.bundle.proofs.Founding.{new_1, new_2, new_3, new_done}
use Rattle.bundle.proofs.bundle.new.Goals as goal

pub returns-then-slice-lt9 : goal.returns-then-slice-lt9
returns-then-slice-lt9 c = new_1 _ _ _ c.if-slice-lt9.true

pub returns-then-locale-gt3 : goal.returns-then-locale-gt3
returns-then-locale-gt3 c = new_2 _ _ _ c.if-slice-lt9.false c.if-locale-gt3.true

pub returns-then-isolating-gt1 : goal.returns-then-isolating-gt1
returns-then-isolating-gt1 c = new_3 _ _ _ c.if-slice-lt9.false c.if-locale-gt3.false c.if-isolating-gt1.true

pub returns : goal.returns
returns c = rw c.copy_from_slice.ensures.after (new_done _ _ _ c.if-slice-lt9.false c.if-locale-gt3.false c.if-isolating-gt1.false)
