-- `repeats::slots::place_entries` meets its contract. The loop's invariant: a table in which the entries that are left are placed has them all.
use Rattle.records.proofs.Views.{num_is, num_none}
use Rattle.repeats.proofs.Places.{place_all, place_bad, place_next, place_none, place_stuck, place_unread}
use native.Mathlib.Omega.{arith}
use Rattle.repeats.proofs.slots.place_entries.Goals as goal

pub returns-in_default : goal.returns-in_default
returns-in_default c = λ es f hr cl. place_unread (num_none c.read_u16.ensures c.in_default.is)

pub loop-init : goal.loop-init
loop-init c = λ out h. h

pub returns-in_default-read_str_behind : goal.returns-in_default-read_str_behind
returns-in_default-read_str_behind c =
    let count = num_is c.read_u16.ensures c.in-Some.is in
    λ es f hr cl. place_all count (c.loop.invariant _ (place_bad _ _ (omega arith) (num_none c.read_str_behind.ensures c.in_default-read_str_behind.is))) es f hr cl

pub returns-in_default-skip_entry : goal.returns-in_default-skip_entry
returns-in_default-skip_entry c =
    let count = num_is c.read_u16.ensures c.in-Some.is in
    λ es f hr cl. place_all count (c.loop.invariant _ (place_stuck _ _ (omega arith) c.skip_entry.ensures c.in_default-skip_entry.is)) es f hr cl

pub loop-preserved : goal.loop-preserved
loop-preserved c =
    let span = num_is c.read_str_behind.ensures c.in-Some-read_str_behind.is in
    λ out h. c.loop.invariant out (place_next _ _ _ c.loop-test.true span c.place.ensures c.skip_entry.ensures c.in-Some-skip_entry.is h)

pub returns : goal.returns
returns c =
    let count = num_is c.read_u16.ensures c.in-Some.is in
    λ es f hr cl. place_all count (c.loop.invariant _ (place_none _ _ (omega arith))) es f hr cl
