-- `listing::tally_marked` meets its contract. The loop's invariant: the tally so far, with the records of the entries that are left, is that of all; and it is small.
use Rattle.listing.proofs.Tallying.{few, short, tally_bad, tally_next, tally_no_count, tally_none, tally_start, tally_stuck}
use Rattle.records.proofs.Views.{num_is, num_none}
use native.Mathlib.Omega.{arith}
use Rattle.listing.proofs.tally_marked.Goals as goal

pub returns-in_default : goal.returns-in_default
returns-in_default c = (tally_no_count _ _ (num_none c.read_u16.ensures c.in_default.is), omega arith)

pub loop-k-init : goal.loop-k-init
loop-k-init c = ((λ r h. h), omega arith, omega arith, omega arith)

pub returns-in_default-read_str_behind : goal.returns-in_default-read_str_behind
returns-in_default-read_str_behind c =
    let n = few c.args.image.now c.type_inv.image 5 c.read_u16.ensures c.in-Some.is in
    (tally_start _ _ (num_is c.read_u16.ensures c.in-Some.is) (c.loop-k.invariant.0 _ (tally_bad _ _ (omega arith) (num_none c.read_str_behind.ensures c.in_default-read_str_behind.is))), omega arith)

pub with_entry-tally-requires : goal.with_entry-tally-requires
with_entry-tally-requires c =
    let n = few c.args.image.now c.type_inv.image 5 c.read_u16.ensures c.in-Some.is in
    let d = short c.args.image.now c.type_inv.image c.loop-k.at c.read_str_behind.ensures c.in-Some-read_str_behind.is in
    omega arith

pub returns-in_default-skip_entry : goal.returns-in_default-skip_entry
returns-in_default-skip_entry c =
    let n = few c.args.image.now c.type_inv.image 5 c.read_u16.ensures c.in-Some.is in
    let d = short c.args.image.now c.type_inv.image c.loop-k.at c.read_str_behind.ensures c.in-Some-read_str_behind.is in
    let f = c.with_entry-tally.ensures.small in
    (tally_start _ _ (num_is c.read_u16.ensures c.in-Some.is) (c.loop-k.invariant.0 _ (tally_stuck _ _ (omega arith) c.skip_entry.ensures c.in_default-skip_entry.is)), omega arith)

pub loop-k-preserved : goal.loop-k-preserved
loop-k-preserved c =
    let d = short c.args.image.now c.type_inv.image c.loop-k.at c.read_str_behind.ensures c.in-Some-read_str_behind.is in
    let f = c.with_entry-tally.ensures in
    ((λ r h. c.loop-k.invariant.0 r (tally_next _ _ _ c.loop-k-test.true (num_is c.read_str_behind.ensures c.in-Some-read_str_behind.is) c.mark_of.ensures c.with_entry-tally.ensures c.skip_entry.ensures c.in-Some-skip_entry.is h)), omega arith, omega arith, omega arith)

pub returns : goal.returns
returns c =
    let n = few c.args.image.now c.type_inv.image 5 c.read_u16.ensures c.in-Some.is in
    (tally_start _ _ (num_is c.read_u16.ensures c.in-Some.is) (c.loop-k.invariant.0 _ (tally_none _ _ (omega arith))), omega arith)
