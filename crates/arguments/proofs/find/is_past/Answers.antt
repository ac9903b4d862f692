-- `arguments::find::is_past` meets its contract: a Str, and its bytes against the name.
use Rattle.arguments.proofs.Placed.{past_name, past_none}
use Rattle.records.proofs.Laws.{str_in}
use native.Mathlib.Omega.{arith}
use Rattle.arguments.proofs.find.is_past.Goals as goal

pub returns-in_default : goal.returns-in_default
returns-in_default c = past_none _ _ _ c.read_str.ensures c.in_default.is

pub slice_bounds-is_before-count : goal.slice_bounds-is_before-count
slice_bounds-is_before-count c = let h = str_in c.args.s.now c.args.at c.read_str.ensures c.in-Some.is in omega arith

pub slice_bounds-is_before-start : goal.slice_bounds-is_before-start
slice_bounds-is_before-start c = let h = str_in c.args.s.now c.args.at c.read_str.ensures c.in-Some.is in omega arith

pub slice_bounds-is_before-end : goal.slice_bounds-is_before-end
slice_bounds-is_before-end c = let h = str_in c.args.s.now c.args.at c.read_str.ensures c.in-Some.is in omega arith

pub returns : goal.returns
returns c = past_name _ _ _ c.read_str.ensures c.in-Some.is c.is_before.ensures
