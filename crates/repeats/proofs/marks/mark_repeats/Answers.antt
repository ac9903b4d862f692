-- `repeats::marks::mark_repeats` meets its contract. The loop's invariant: marks that are right for the entries that are left are right for all.
use Rattle.records.proofs.Views.{num_is, num_none}
use Rattle.repeats.proofs.Marking.{marks_bad, marks_many, marks_next, marks_no_count, marks_none, marks_start, marks_stuck}
use lib.ListN.{set}
use mathlib.Core.Path.{refl}
use native.Mathlib.Omega.{arith}
use Rattle.repeats.proofs.marks.mark_repeats.Goals as goal

pub returns-in_default : goal.returns-in_default
returns-in_default c = marks_no_count _ _ _ _ (num_none c.read_u16.ensures c.in_default.is)

pub returns-then-count-gt10921 : goal.returns-then-count-gt10921
returns-then-count-gt10921 c = marks_many _ _ _ _ (num_is c.read_u16.ensures c.in-Some.is) c.if-count-gt10921.true

pub loop-k-init : goal.loop-k-init
loop-k-init c = λ out h. h

pub returns-in_default-read_str_behind : goal.returns-in_default-read_str_behind
returns-in_default-read_str_behind c =
    let count = num_is c.read_u16.ensures c.in-Some.is in
    marks_start _ _ _ c.args.marks.now c.loop-k.marks count (c.loop-k.invariant c.loop-k.marks (marks_bad _ _ _ _ _ _ _ c.loop-k.marks c.loop-k.marks (omega arith) (num_none c.read_str_behind.ensures c.in_default-read_str_behind.is)))

pub returns-in_default-skip_entry : goal.returns-in_default-skip_entry
returns-in_default-skip_entry c =
    let count = num_is c.read_u16.ensures c.in-Some.is in
    let marks = set c.loop-k.marks c.loop-k.k c.mark_at.result in
    marks_start _ _ _ c.args.marks.now marks count (c.loop-k.invariant marks (marks_stuck _ _ _ _ _ _ _ c.loop-k.marks marks (omega arith) c.skip_entry.ensures c.in_default-skip_entry.is))

pub loop-k-preserved : goal.loop-k-preserved
loop-k-preserved c =
    let count = num_is c.read_u16.ensures c.in-Some.is in
    let span = num_is c.read_str_behind.ensures c.in-Some-read_str_behind.is in
    let marks = set c.loop-k.marks c.loop-k.k c.mark_at.result in
    λ out h. c.loop-k.invariant out (marks_next _ _ _ _ _ _ _ c.loop-k.marks c.mark_at.result marks out c.loop-k-test.true (omega arith) span (λ st f pre hs r hp. c.mark_at.ensures st f _ pre hs r count (omega arith) hp span) refl c.skip_entry.ensures c.in-Some-skip_entry.is h)

pub returns : goal.returns
returns c =
    let count = num_is c.read_u16.ensures c.in-Some.is in
    marks_start _ _ _ c.args.marks.now c.loop-k.marks count (c.loop-k.invariant c.loop-k.marks (marks_none _ _ _ _ _ _ _ c.loop-k.marks (omega arith)))
