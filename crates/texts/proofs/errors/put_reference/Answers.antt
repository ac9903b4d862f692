-- `texts::errors::put_reference` meets its contract: the lengths first, then the name, then the attribute.
use Rattle.texts.proofs.Recording.{recorded_long, reference_fits, reference_full, reference_long}
use Rattle.records.specs.Optional.{lent}
use Rattle.texts.proofs.errors.put_reference.Goals as goal

pub returns-then-n-gt65535 : goal.returns-then-n-gt65535
returns-then-n-gt65535 c = recorded_long _ _ _ (reference_long _ _ _ c.if-n-gt65535.true)

pub returns-then-room_for : goal.returns-then-room_for
returns-then-room_for c = reference_fits _ _ _ _ (lent c.args.attribute) c.room_for.ensures c.attribute_len-m.ensures c.if-room_for.true c.byte.ensures c.write_named.ensures c.write_attribute.ensures

pub returns : goal.returns
returns c = reference_full _ _ _ _ (lent c.args.attribute) c.room_for.ensures c.attribute_len-m.ensures c.if-room_for.false
