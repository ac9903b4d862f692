-- The first among the entries that are left is the first among all.
use Prim.Native.Nat.{◌+◌, ◌-◌}
use Rattle.entries.proofs.Headers.{entry_rest}
use Rattle.entries.proofs.Held.{none_found}
use Rattle.entries.proofs.Walk.{behind_in, entry_head_law, entry_no_head, first_bad, first_here, first_next, first_none, first_stuck}
use Rattle.entries.specs.Outline.{entry_head, entry_outline}
use Rattle.entries.specs.Relations.Meets.{found_of}
use mathlib.Core.Path.{◌∙◌, ◌≡◌, ap, sym}
use native.Mathlib.Omega.{arith}
use Rattle.entries.proofs.resource.find_first.Goals as goal

pub returns-in_err-a : goal.returns-in_err-a
returns-in_err-a c = c.from_residual.ensures ∙ none_found (c.loop.invariant ∙ first_bad entry_head entry_outline _ _ _ _ (entry_no_head _ _ c.read_str_behind.ensures c.in_err-a.was))

pub slice_bounds-same_id-count : goal.slice_bounds-same_id-count
slice_bounds-same_id-count c = let h = behind_in _ _ _ c.read_str_behind.ensures c.in_ok-a.was in omega arith

pub slice_bounds-same_id-start : goal.slice_bounds-same_id-start
slice_bounds-same_id-start c = let h = behind_in _ _ _ c.read_str_behind.ensures c.in_ok-a.was in omega arith

pub slice_bounds-same_id-end : goal.slice_bounds-same_id-end
slice_bounds-same_id-end c = let h = behind_in _ _ _ c.read_str_behind.ensures c.in_ok-a.was in omega arith

pub returns-then-same_id : goal.returns-then-same_id
returns-then-same_id c = c.holder_at.ensures ∙ ap found_of (sym (c.loop.invariant ∙ first_here entry_head entry_outline _ _ _ _ (omega arith) (entry_head_law _ _ c.read_str_behind.ensures c.in_ok-a.was) (sym c.same_id.ensures ∙ c.if-same_id.true)))

pub returns-in_err-at : goal.returns-in_err-at
returns-in_err-at c = c.from_residual-in_err-at.ensures ∙ none_found (c.loop.invariant ∙ first_stuck entry_head entry_outline _ _ _ _ (omega arith) (entry_head_law _ _ c.read_str_behind.ensures c.in_ok-a.was) (sym c.same_id.ensures ∙ c.if-same_id.false) (entry_rest _ _ c.read_str_behind.ensures _ _ c.in_ok-a.was c.skip_rest.ensures) c.in_err-at.was)

pub loop-preserved : goal.loop-preserved
loop-preserved c =
    let m : c.args.count - (c.loop.counter + 1) ≡ c.args.count - c.loop.counter - 1 = omega arith in
    rw m (c.loop.invariant ∙ first_next entry_head entry_outline _ _ _ _ (omega arith) (entry_head_law _ _ c.read_str_behind.ensures c.in_ok-a.was) (sym c.same_id.ensures ∙ c.if-same_id.false) (entry_rest _ _ c.read_str_behind.ensures _ _ c.in_ok-a.was c.skip_rest.ensures) c.in_ok-at.was)

pub returns : goal.returns
returns c = none_found (c.loop.invariant ∙ first_none entry_head entry_outline _ _ _ _ (omega arith))
