-- `listing::list_entry` meets its contract: a marked entry's record is written.
use Rattle.listing.proofs.Records.{lists_bad, lists_no_id, lists_none, lists_put}
use Rattle.records.proofs.Views.{num_is, num_none}
use Rattle.listing.proofs.list_entry.Goals as goal

pub returns-then-mark-ne1 : goal.returns-then-mark-ne1
returns-then-mark-ne1 c = lists_none _ _ _ _ _ c.if-mark-ne1.true

pub returns-in_default : goal.returns-in_default
returns-in_default c = lists_bad _ _ _ _ _ (num_none c.read_byte.ensures c.in_default.is)

pub returns-in_default-read_str_behind : goal.returns-in_default-read_str_behind
returns-in_default-read_str_behind c = lists_no_id _ _ _ _ _ (num_none c.read_str_behind.ensures c.in_default-read_str_behind.is)

pub returns : goal.returns
returns c =
    let byte = num_is c.read_byte.ensures c.in-Some.is in
    let span = num_is c.read_str_behind.ensures c.in-Some-read_str_behind.is in
    lists_put _ _ _ _ _ _ _ _ _ byte span c.if-mark-ne1.false c.kind_of.ensures c.put_overriding.ensures c.unwrap_or.ensures
