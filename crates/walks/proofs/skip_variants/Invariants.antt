-- Past what is left of the variants is past all of them.
use Prim.Native.Nat.{◌-◌}
use Rattle.records.specs.Relations.Answer.{next_of}
use Rattle.walks.specs.Outline.{many_outline, variant_outline}
use mathlib.Core.Path.{◌≡◌}
use Rattle.walks.proofs.skip_variants.Given as goal

abbrev pub invariant-loop : goal.invariant-loop
invariant-loop l = next_of (many_outline (l.count - l.counter) variant_outline l.s l.at) ≡ next_of (many_outline l.count variant_outline l.s l.from)
