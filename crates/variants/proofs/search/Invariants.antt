-- `variants::search` meets its contract: what was passed does not match in any kind, and what is left is searched as all is.
use Rattle.std.specs.Prelude.{None}
use Prim.Native.Nat.{◌-◌, ◌<◌, ◌≤◌, ℕ}
use Rattle.variants.specs.Choice.{first_of}
use Rattle.variants.specs.Outline.{outlines, variants_at}
use Rattle.variants.specs.Relations.Sought.{answers, outline_in, tried}
use mathlib.Core.Bool.{false}
use mathlib.Core.Path.{◌≡◌}
use Rattle.variants.proofs.search.Given as goal

abbrev pub invariant-loop-kind : goal.invariant-loop-kind
invariant-loop-kind l = (l.found ≡ None) × (1 ≤ l.kind) × ((j : ℕ) → 1 ≤ j → j < l.kind → tried j l.text l.x (outline_in l.s l.p l.v) ≡ false)

abbrev pub invariant-search : goal.invariant-search
invariant-search l = (l.found ≡ None) × (first_of (answers l.text l.x) (variants_at l.s l.at) ≡ first_of (answers l.text l.x) (outlines (l.count - l.counter) l.s l.p))
