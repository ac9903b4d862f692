-- `listing::list_marked` meets its contract. The loop's invariant: a list to which the records of the entries that are left are appended has those of all.
use Rattle.listing.proofs.Records.{list_next, list_no_count, list_none, list_start, list_stuck}
use Rattle.records.proofs.Views.{num_is, num_none}
use native.Mathlib.Omega.{arith}
use Rattle.listing.proofs.list_marked.Goals as goal

pub returns-in_default : goal.returns-in_default
returns-in_default c = list_no_count _ _ _ _ (num_none c.read_u16.ensures c.in_default.is)

pub loop-k-init : goal.loop-k-init
loop-k-init c = λ out h. h

pub returns-in_default-skip_entry : goal.returns-in_default-skip_entry
returns-in_default-skip_entry c =
    let count = num_is c.read_u16.ensures c.in-Some.is in
    list_start _ _ _ _ count (c.loop-k.invariant _ (list_stuck _ _ (omega arith) c.skip_entry.ensures c.in_default-skip_entry.is))

pub loop-k-preserved : goal.loop-k-preserved
loop-k-preserved c = λ out h. c.loop-k.invariant out (list_next _ _ _ c.loop-k-test.true c.mark_of.ensures c.list_entry-to.ensures c.skip_entry.ensures c.in-Some-skip_entry.is h)

pub returns : goal.returns
returns c =
    let count = num_is c.read_u16.ensures c.in-Some.is in
    list_start _ _ _ _ count (c.loop-k.invariant _ (list_none _ _ (omega arith)))
