-- `arguments::find::scan` meets its contract: what is left of the arguments gives what all of them give.
use Rattle.arguments.proofs.Sought.{scan_end, scan_greater, scan_name, scan_same, scan_turn, scan_value}
use Rattle.records.proofs.Laws.{str_in}
use Prim.Native.Nat.{◌+◌, ◌-◌}
use mathlib.Core.Path.{◌∙◌, ◌≡◌}
use native.Mathlib.Omega.{arith}
use Rattle.arguments.proofs.find.scan.Goals as goal

pub returns-in_err-p : goal.returns-in_err-p
returns-in_err-p c = c.from_residual.ensures ∙ scan_name c.args.s.now _ _ c.loop.at c.loop.invariant c.read_str.ensures c.in_err-p.was

pub slice_bounds-compare-count : goal.slice_bounds-compare-count
slice_bounds-compare-count c = let h = str_in c.args.s.now c.loop.at c.read_str.ensures c.in_ok-p.was in omega arith

pub slice_bounds-compare-start : goal.slice_bounds-compare-start
slice_bounds-compare-start c = let h = str_in c.args.s.now c.loop.at c.read_str.ensures c.in_ok-p.was in omega arith

pub slice_bounds-compare-end : goal.slice_bounds-compare-end
slice_bounds-compare-end c = let h = str_in c.args.s.now c.loop.at c.read_str.ensures c.in_ok-p.was in omega arith

pub returns-in-Equal : goal.returns-in-Equal
returns-in-Equal c = scan_same c.args.s.now _ _ c.loop.at c.loop.invariant c.read_str.ensures c.in_ok-p.was c.compare.ensures (omega arith) c.in-Equal.is c.read_argument_value.ensures

pub returns-in-Greater : goal.returns-in-Greater
returns-in-Greater c = scan_greater c.args.s.now _ _ c.loop.at c.loop.invariant c.read_str.ensures c.in_ok-p.was c.compare.ensures (omega arith) c.in-Greater.is

pub returns-in_err-at-in-Less : goal.returns-in_err-at-in-Less
returns-in_err-at-in-Less c = c.from_residual-in_err-at-in-Less.ensures ∙ scan_value c.args.s.now _ _ c.loop.at c.loop.invariant c.read_str.ensures c.in_ok-p.was c.compare.ensures (omega arith) c.in-Less.is c.skip_argument_value.ensures c.in_err-at-in-Less.was

pub loop-preserved : goal.loop-preserved
loop-preserved c =
    let m : c.args.count - (c.loop.counter + 1) ≡ c.args.count - c.loop.counter - 1 = omega arith in
    rw m (scan_turn c.args.s.now _ _ c.loop.at c.loop.invariant c.read_str.ensures c.in_ok-p.was c.compare.ensures (omega arith) c.in-Less.is c.skip_argument_value.ensures c.in_ok-at-in-Less.was)

pub returns : goal.returns
returns c = scan_end c.args.s.now _ _ c.loop.at c.loop.invariant (omega arith)
