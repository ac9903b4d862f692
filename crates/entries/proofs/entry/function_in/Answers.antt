-- `entries::entry::function_in` meets its contract: the record's Id stands behind its length, version and code.
use Rattle.entries.proofs.Headers.{function_bad, function_here, function_other}
use Rattle.entries.proofs.Held.{none_found}
use Rattle.entries.proofs.Walk.{behind_in}
use Rattle.entries.specs.Relations.Meets.{found_of}
use mathlib.Core.Path.{◌∙◌, ap, sym}
use native.Mathlib.Omega.{arith}
use Rattle.entries.proofs.entry.function_in.Goals as goal

pub returns-in_err-a : goal.returns-in_err-a
returns-in_err-a c = c.from_residual.ensures ∙ none_found (function_bad _ _ _ c.read_str_behind.ensures c.in_err-a.was)

pub slice_bounds-same_bytes-count : goal.slice_bounds-same_bytes-count
slice_bounds-same_bytes-count c = let h = behind_in _ _ _ c.read_str_behind.ensures c.in_ok-a.was in omega arith

pub slice_bounds-same_bytes-start : goal.slice_bounds-same_bytes-start
slice_bounds-same_bytes-start c = let h = behind_in _ _ _ c.read_str_behind.ensures c.in_ok-a.was in omega arith

pub slice_bounds-same_bytes-end : goal.slice_bounds-same_bytes-end
slice_bounds-same_bytes-end c = let h = behind_in _ _ _ c.read_str_behind.ensures c.in_ok-a.was in omega arith

pub returns-then-same_bytes : goal.returns-then-same_bytes
unfolding found_of
returns-then-same_bytes c = ap found_of (sym (function_here _ _ _ c.read_str_behind.ensures _ _ c.in_ok-a.was (sym c.same_bytes.ensures ∙ c.if-same_bytes.true)))

pub returns-else-same_bytes : goal.returns-else-same_bytes
returns-else-same_bytes c = none_found (function_other _ _ _ c.read_str_behind.ensures _ _ c.in_ok-a.was (sym c.same_bytes.ensures ∙ c.if-same_bytes.false))
