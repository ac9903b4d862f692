-- The first among the attributes that are left is the first among all.
use Prim.Native.Nat.{◌+◌, ◌-◌}
use Rattle.entries.proofs.Walk.{attribute_head_law, attribute_no_head, attribute_past, first_bad, first_here, first_stuck, first_next, first_none}
use Rattle.entries.specs.Outline.{attribute_head, attribute_outline}
use Rattle.entries.specs.Relations.Meets.{at_position}
use Rattle.records.proofs.Laws.{str_in}
use Rattle.records.proofs.Views.{str_bad, str_is}
use mathlib.Core.Path.{◌∙◌, ◌≡◌, ap, sym}
use native.Mathlib.Omega.{arith}
use Rattle.entries.proofs.message.find_named.Goals as goal

pub returns-in_err-a : goal.returns-in_err-a
unfolding at_position
returns-in_err-a c = c.from_residual.ensures ∙ ap at_position (sym (c.loop.invariant ∙ first_bad attribute_head attribute_outline _ _ _ _ (attribute_no_head _ _ (str_bad _ _ c.read_str.ensures c.in_err-a.was))))

pub slice_bounds-same_bytes-count : goal.slice_bounds-same_bytes-count
slice_bounds-same_bytes-count c = let h = str_in _ _ c.read_str.ensures c.in_ok-a.was in omega arith

pub slice_bounds-same_bytes-start : goal.slice_bounds-same_bytes-start
slice_bounds-same_bytes-start c = let h = str_in _ _ c.read_str.ensures c.in_ok-a.was in omega arith

pub slice_bounds-same_bytes-end : goal.slice_bounds-same_bytes-end
slice_bounds-same_bytes-end c = let h = str_in _ _ c.read_str.ensures c.in_ok-a.was in omega arith

pub returns-then-same_bytes : goal.returns-then-same_bytes
unfolding at_position
returns-then-same_bytes c = ap at_position (sym (c.loop.invariant ∙ first_here attribute_head attribute_outline _ _ _ _ (omega arith) (attribute_head_law _ _ (str_is _ _ c.read_str.ensures c.in_ok-a.was)) (sym c.same_bytes.ensures ∙ c.if-same_bytes.true)))

pub returns-in_err-at : goal.returns-in_err-at
unfolding at_position
returns-in_err-at c = c.from_residual-in_err-at.ensures ∙ ap at_position (sym (c.loop.invariant ∙ first_stuck attribute_head attribute_outline _ _ _ _ (omega arith) (attribute_head_law _ _ (str_is _ _ c.read_str.ensures c.in_ok-a.was)) (sym c.same_bytes.ensures ∙ c.if-same_bytes.false) (attribute_past _ _ (str_is _ _ c.read_str.ensures c.in_ok-a.was) c.skip_pattern.ensures) c.in_err-at.was))

pub loop-preserved : goal.loop-preserved
loop-preserved c =
    let m : c.args.count - (c.loop.counter + 1) ≡ c.args.count - c.loop.counter - 1 = omega arith in
    rw m (c.loop.invariant ∙ first_next attribute_head attribute_outline _ _ _ _ (omega arith) (attribute_head_law _ _ (str_is _ _ c.read_str.ensures c.in_ok-a.was)) (sym c.same_bytes.ensures ∙ c.if-same_bytes.false) (attribute_past _ _ (str_is _ _ c.read_str.ensures c.in_ok-a.was) c.skip_pattern.ensures) c.in_ok-at.was)

pub returns : goal.returns
unfolding at_position
returns c = ap at_position (sym (c.loop.invariant ∙ first_none attribute_head attribute_outline _ _ _ _ (omega arith)))
