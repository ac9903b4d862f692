-- How often an effect of a kind is in a trace.
use mathlib.Core.Path.{◌≡◌}
use mathlib.Core.List.{[], ◌∷◌, ◌++◌}
use Prim.Native.Nat.{ℕ, ◌+◌}
use native.Mathlib.Omega.{arith}
use Rattle.resolution.specs.Effect.{Effect, put, report, begin, expand, unfound, open_text, keep_text, free, merged, Trace}
use Rattle.theorems.specs.Finished.{is_too_many}

abbrev pub is_begin : Effect → ℕ
is_begin (put b) = 0
is_begin (report e) = 0
is_begin begin = 1
is_begin expand = 0
is_begin unfound = 0
is_begin open_text = 0
is_begin keep_text = 0
is_begin (free n) = 0
is_begin (merged n) = 0

abbrev pub is_expand : Effect → ℕ
is_expand (put b) = 0
is_expand (report e) = 0
is_expand begin = 0
is_expand expand = 1
is_expand unfound = 0
is_expand open_text = 0
is_expand keep_text = 0
is_expand (free n) = 0
is_expand (merged n) = 0

abbrev pub is_unfound : Effect → ℕ
is_unfound (put b) = 0
is_unfound (report e) = 0
is_unfound begin = 0
is_unfound expand = 0
is_unfound unfound = 1
is_unfound open_text = 0
is_unfound keep_text = 0
is_unfound (free n) = 0
is_unfound (merged n) = 0

-- reports of TooManyPlaceables
abbrev pub is_over : Effect → ℕ
is_over (put b) = 0
is_over (report e) = is_too_many e
is_over begin = 0
is_over expand = 0
is_over unfound = 0
is_over open_text = 0
is_over keep_text = 0
is_over (free n) = 0
is_over (merged n) = 0

abbrev pub tally : (Effect → ℕ) → Trace → ℕ
tally w [] = 0
tally w (e ∷ t) = w e + tally w t

-- a tally of two traces is the sum of theirs
pub tally_append : (w : Effect → ℕ) (a b : Trace) → tally w (a ++ b) ≡ tally w a + tally w b
tally_append w [] b = omega arith
tally_append w (e ∷ a) b = omega (arith, tally_append w a b)
