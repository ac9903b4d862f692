-- The attribute of a reference, as the code has it and as the definitions read it.
use mathlib.Core.Path.{◌≡◌, refl, ap, sym, ◌∙◌}
use mathlib.Core.List.{List}
use mathlib.Core.Bool.{Bool, true, false}
use mathlib.Core.Option.{Option, some, none}
use Prim.Native.Nat.{ℕ, ◌-◌, ◌≤◌}
use native.Mathlib.Omega.{arith}
use lib.ListN.{length}
use Rattle.records.specs.Bytes.{part}
use Rattle.records.specs.Optional.{option_of}
use Rattle.records.proofs.Local.{length_part}
use Rattle.arguments.specs.Relations.Given.{between}
use Rattle.arguments.proofs.Laws.{between_in}
use Rattle.resolver.specs.Relations.Leaves.{span_if, attribute_in}

-- bytes that are there are at most 255
abbrev pub Short : Option (List ℕ) → Type 0
Short o = (b : List ℕ) → o ≡ some b → length b ≤ 255

pub short_none : Short none
short_none b e = let z : ◌≡◌ {A = ℕ} 0 1 = cc in absurd (omega arith)

module _ (s : List ℕ) (start end : ℕ) (ordered : start ≤ end) (inside : end ≤ length s) where
  pub span_attribute : (has : Bool) → attribute_in s (span_if has start end) ≡ option_of has (part s start (end - start))
  unfolding option_of
  span_attribute true = ap some (between_in s start end ordered inside)
  span_attribute false = refl

  pub span_short : (has : Bool) → end - start ≤ 255 → Short (attribute_in s (span_if has start end))
  span_short true h b e =
      let eb : between s start end ≡ b = (cc) in
      let l = length_part s start (end - start) (omega arith) in
      let z : length b ≡ end - start = ap length (sym eb ∙ between_in s start end ordered inside) ∙ l in
      omega arith
  span_short false h b e = short_none b e
