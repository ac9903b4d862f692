-- `texts::errors::write_attribute` meets its contract.
use Rattle.texts.proofs.Recording.{absent_written, attribute_absent, attribute_room, attribute_written}
use lib.ListN.{length-set}
use native.Mathlib.Omega.{arith}
use Rattle.texts.proofs.errors.write_attribute.Goals as goal

pub bounds-d-at : goal.bounds-d-at
bounds-d-at c = let r = rw c.in-Some.is at c.requires in let r' = attribute_room c.args.d.now c.args.at c.in-Some.s.now r.0 r.1 in omega arith

pub write_str-requires : goal.write_str-requires
write_str-requires c = let r = rw c.in-Some.is at c.requires in let r' = attribute_room c.args.d.now c.args.at c.in-Some.s.now r.0 r.1 in simp length-set (omega arith)

pub bounds-d-at-in_default : goal.bounds-d-at-in_default
bounds-d-at-in_default c = let r = rw c.in_default.is at c.requires in let l = attribute_absent c.args.d.now c.args.at r.0 in omega arith

pub returns-in-Some : goal.returns-in-Some
returns-in-Some c = let r = rw c.in-Some.is at c.requires in rw c.in-Some.is (attribute_written _ _ _ r.0 r.1 c.write_str.ensures)

pub returns-in_default : goal.returns-in_default
returns-in_default c = let r = rw c.in_default.is at c.requires in rw c.in_default.is (absent_written c.args.d.now c.args.at r.0)
