-- `arguments::image::in_order` meets its contract: the scale, and then the names.
use Rattle.arguments.proofs.Running.{stands_behind, stands_first, stands_longer, stands_nowhere}
use Rattle.records.proofs.Laws.{str_in}
use native.Mathlib.Omega.{arith}
use Rattle.arguments.proofs.image.in_order.Goals as goal

pub returns-in_default : goal.returns-in_default
returns-in_default c = stands_nowhere _ _ _ c.read_str.ensures c.in_default.is

pub returns-then-not-has_least_scale : goal.returns-then-not-has_least_scale
returns-then-not-has_least_scale c = stands_longer _ _ _ c.read_str.ensures c.in-Some.is c.has_least_scale.ensures (c.if-not-has_least_scale.true)

pub returns-in_default-read_str : goal.returns-in_default-read_str
returns-in_default-read_str c = stands_first _ _ _ c.read_str.ensures c.in-Some.is c.has_least_scale.ensures (c.if-not-has_least_scale.false) c.read_str-2.ensures c.in_default-read_str.is

pub slice_bounds-is_before-count : goal.slice_bounds-is_before-count
slice_bounds-is_before-count c = let h = str_in c.args.s.now c.args.last c.read_str-2.ensures c.in-Some-read_str.is in omega arith

pub slice_bounds-is_before-start : goal.slice_bounds-is_before-start
slice_bounds-is_before-start c = let h = str_in c.args.s.now c.args.last c.read_str-2.ensures c.in-Some-read_str.is in omega arith

pub slice_bounds-is_before-end : goal.slice_bounds-is_before-end
slice_bounds-is_before-end c = let h = str_in c.args.s.now c.args.last c.read_str-2.ensures c.in-Some-read_str.is in omega arith

pub slice_bounds-is_before-count-2 : goal.slice_bounds-is_before-count-2
slice_bounds-is_before-count-2 c = let h = str_in c.args.s.now c.args.at c.read_str.ensures c.in-Some.is in omega arith

pub slice_bounds-is_before-start-2 : goal.slice_bounds-is_before-start-2
slice_bounds-is_before-start-2 c = let h = str_in c.args.s.now c.args.at c.read_str.ensures c.in-Some.is in omega arith

pub slice_bounds-is_before-end-2 : goal.slice_bounds-is_before-end-2
slice_bounds-is_before-end-2 c = let h = str_in c.args.s.now c.args.at c.read_str.ensures c.in-Some.is in omega arith

pub returns : goal.returns
returns c = stands_behind _ _ _ c.read_str.ensures c.in-Some.is c.has_least_scale.ensures (c.if-not-has_least_scale.false) c.read_str-2.ensures c.in-Some-read_str.is c.is_before.ensures
