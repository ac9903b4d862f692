-- Laws of parts of a list.
use mathlib.Core.Path.{◌≡◌, refl, ap, sym, ◌∙◌}
use mathlib.Core.List.{List, []}
use mathlib.Core.Bool.{Bool, true, false, ◌&&◌}
use Prim.Native.Nat.{ℕ, ◌-◌, ◌≤◌, ◌<◌}
use lib.ListN.{length}
use lib.Dec.{leb}
use borrow.Author.Tests.{le-leb, lt-leb}
use Rattle.std.specs.Prelude.{Option, Some, None, ◌⊎◌}
use mathlib.Core.Logic.{inl, inr}
use Rattle.std.specs.Option.{unwrap_or}
use Rattle.std.proofs.Common.{Bor}
use Rattle.std.specs.Slice.{IsGetRangeResult}
use Rattle.records.specs.Bytes.{part}
use Rattle.arguments.specs.Relations.Given.{between, between_if}

-- a part of a list
module _ (s : List ℕ) (a e : ℕ) where
  pub between_in : a ≤ e → e ≤ length s → between s a e ≡ part s a (e - a)
  unfolding between between_if
  between_in h k = rw (le-leb a e h, le-leb e (length s) k)

  pub between_after : e < a → between s a e ≡ []
  unfolding between between_if
  between_after h = rw (lt-leb a e h)

  pub between_past : length s < e → between s a e ≡ []
  unfolding between between_if
  between_past h = go (leb a e)
    where
      go : (t : Bool) → between_if (t && leb e (length s)) s a e ≡ []
      go true = rw (lt-leb e (length s) h)
      go false = refl

  -- the part that the library gives, and nothing where it gives none
  pub part_or_none : (r : Option (Bor (List ℕ))) → IsGetRangeResult s a e r → {b : Bor (List ℕ)} (d : Bor (List ℕ)) → b ≡ unwrap_or r d → d.now ≡ [] → b.now ≡ between s a e
  part_or_none None h {b} d w z = ap (λ (x : Bor (List ℕ)). x.now) w ∙ z ∙ none h.0
    where
      none : (e < a) ⊎ (length s < e) → [] ≡ between s a e
      none (inl k) = sym (between_after k)
      none (inr k) = sym (between_past k)
  part_or_none (Some p) h {b} d w z = ap (λ (x : Bor (List ℕ)). x.now) w ∙ h.0.2 ∙ sym (between_in h.0.0 h.0.1)
