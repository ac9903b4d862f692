-- A position's bytes are compared with the pattern's, whichever it is of those listed.
use Prim.Native.Nat.{ℕ, ◌≤◌}
use lib.ListN.{length, take}
use mathlib.Core.Path.{◌∙◌}
use native.Mathlib.Omega.{arith}
use Rattle.std.proofs.Common.{rules, tests}
use Rattle.std.proofs.lemmas.Iterator.Adapters.{YieldsList-from_rev_slice}
use Rattle.std.proofs.lemmas.Iterator.Search.{any_from_yields_List}
use Rattle.decimals.specs.Bytes.{same_bytes}
use Rattle.decimals.proofs.Same.{pointwise_same}
use Rattle.trail.specs.Relations.Trail.{pattern_bytes}
use Rattle.trail.proofs.Trail.{any_on_trail, any_reversed}
use Rattle.trail.proofs.on_trail.Goals as goal

pub returns : goal.returns
returns c =
    let s = c.args.s.now in
    let pattern = c.pattern_of-pattern.result.now in
    let listed = take c.min.result c.args.trail.now in
    let few : c.min.result ≤ length c.args.trail.now = omega arith in
    rw (← c.pattern_of-pattern.ensures, ← c.min.ensures)
    (any_from_yields_List (λ (p : ℕ). same_bytes (pattern_bytes s p) pattern) _ _ c.any.result c.any.ensures.ran (YieldsList-from_rev_slice listed cc) (λ x b q k. search (rules, tests, pointwise_same))
    ∙ any_reversed (λ (p : ℕ). same_bytes (pattern_bytes s p) pattern) listed
    ∙ any_on_trail s c.args.trail.now pattern c.min.result few)
