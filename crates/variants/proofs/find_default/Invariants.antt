-- `variants::find_default` meets its contract: the first default among those that are left is the first among all.
use Prim.Native.Nat.{◌-◌}
use Rattle.variants.specs.Choice.{first_of, is_default}
use Rattle.variants.specs.Outline.{outlines, variants_at}
use mathlib.Core.Path.{◌≡◌}
use Rattle.variants.proofs.find_default.Given as goal

abbrev pub invariant-loop : goal.invariant-loop
invariant-loop l = first_of is_default (variants_at l.s l.at) ≡ first_of is_default (outlines (l.count - l.counter) l.s l.p)
