-- What the entries that are left make of the last one so far is what all make of none.
use Prim.Native.Nat.{◌+◌, ◌-◌}
use Rattle.entries.proofs.Headers.{entry_rest}
use Rattle.entries.proofs.Held.{last_found, later_held}
use Rattle.entries.proofs.Walk.{LastOf, behind_in, entry_head_law, entry_no_head, last_bad, last_next, last_none, last_stuck}
use Rattle.entries.specs.Outline.{entry_head, entry_outline}
use mathlib.Core.Path.{◌∙◌, ◌≡◌, ap}
use native.Mathlib.Omega.{arith}
use Rattle.entries.proofs.resource.find_last.Goals as goal

pub returns-in_default : goal.returns-in_default
returns-in_default c = last_found _ (c.loop.invariant ∙ last_bad entry_head entry_outline _ _ _ _ _ (entry_no_head _ _ c.read_str_behind.ensures c.in_default.is))

pub slice_bounds-same_id-count : goal.slice_bounds-same_id-count
slice_bounds-same_id-count c = let h = behind_in _ _ _ c.read_str_behind.ensures c.in-Some.is in omega arith

pub slice_bounds-same_id-start : goal.slice_bounds-same_id-start
slice_bounds-same_id-start c = let h = behind_in _ _ _ c.read_str_behind.ensures c.in-Some.is in omega arith

pub slice_bounds-same_id-end : goal.slice_bounds-same_id-end
slice_bounds-same_id-end c = let h = behind_in _ _ _ c.read_str_behind.ensures c.in-Some.is in omega arith

pub returns-in_default-skip_rest : goal.returns-in_default-skip_rest
returns-in_default-skip_rest c = last_found _ (c.loop.invariant ∙ last_stuck entry_head entry_outline _ _ _ _ _ (omega arith) (entry_head_law _ _ c.read_str_behind.ensures c.in-Some.is) (entry_rest _ _ c.read_str_behind.ensures _ _ c.in-Some.is c.skip_rest.ensures) c.in_default-skip_rest.is ∙ later_held _ _ _ _ c.same_id.ensures c.later-last.ensures)

pub loop-preserved : goal.loop-preserved
loop-preserved c =
    let m : c.args.count - (c.loop.counter + 1) ≡ c.args.count - c.loop.counter - 1 = omega arith in
    rw m (c.loop.invariant ∙ last_next entry_head entry_outline _ _ _ _ _ (omega arith) (entry_head_law _ _ c.read_str_behind.ensures c.in-Some.is) (entry_rest _ _ c.read_str_behind.ensures _ _ c.in-Some.is c.skip_rest.ensures) c.in-Some-skip_rest.is ∙ ap (LastOf entry_head entry_outline _ _ _ _) (later_held _ _ _ _ c.same_id.ensures c.later-last.ensures))

pub returns : goal.returns
returns c = last_found _ (c.loop.invariant ∙ last_none entry_head entry_outline _ _ _ _ _ (omega arith))
