-- Bytes of a buffer copied to another place of it, and the part of a buffer between two positions.
use mathlib.Core.Path.{◌≡◌, refl, ap, sym, ◌∙◌}
use mathlib.Core.List.{List, []}
use mathlib.Core.Bool.{Bool, true, false}
use Prim.Native.Nat.{ℕ, ◌+◌, ◌-◌, ◌≤◌, ◌<◌}
use native.Mathlib.Omega.{arith}
use lib.ListN.{length, drop}
use lib.Dec.{leb}
use lib.Seq.{paste}
use borrow.Author.Tests.{leb-true, leb-false}
use Rattle.records.specs.Bytes.{part}
use Rattle.records.proofs.Local.{length_part}
use Rattle.arguments.specs.Relations.Given.{between}
use Rattle.arguments.proofs.Laws.{between_in, between_after, between_past}
use Rattle.buffers.specs.Relations.Append.{over, appended, Wrote}
use Rattle.std.specs.Prelude.{Ok, Err}
use Rattle.buffers.proofs.Place.{over_none, appended_at, appended_no}

-- n bytes copied by the library; of none, nothing changes
module _ (d : List ℕ) (from to n : ℕ) where
  pub copied : from + n ≤ length d → paste d to (drop from d) (from + n - from) ≡ over d to (part d from n)
  unfolding over
  copied h =
      let k : from + n - from ≡ n = omega arith in
      let l : length (part d from n) ≡ n = length_part d from n h in
      let e : to + n ≡ to + length (part d from n) = omega arith in
      rw (k, e)

  pub not_copied : n ≤ 0 → d ≡ over d to (part d from n)
  not_copied h = let z : n ≡ 0 = omega arith in sym (ap (λ (k : ℕ). over d to (part d from k)) z ∙ over_none d to)

-- bytes that fit are there
pub appended_in : (d : List ℕ) (at : ℕ) (b : List ℕ) {d' : List ℕ} {a : Wrote} → (a, d') ≡ appended d at b → at + length b ≤ length d → d' ≡ over d at b
appended_in d at b {a = Ok e} is h = (appended_at d at b is refl).2
appended_in d at b {a = Err x} is h = let f = appended_no d at b is refl in absurd (omega (arith, f.0))

-- as many bytes as lie between two positions
module _ (w : List ℕ) (a e : ℕ) where
  pub record Span (n : ℕ) : Type 0 where
    pub reads : part w a n ≡ between w a e
    pub within : 0 < n → a + n ≤ length w

  none : between w a e ≡ [] → Span (length (between w a e))
  none h =
      let z : length (between w a e) ≡ 0 = ap length h in
      record { reads = ap (λ (k : ℕ). part w a k) z ∙ sym h; within = λ k. absurd (omega arith) }

  pub span : Span (length (between w a e))
  span = go (leb a e) refl (leb e (length w)) refl
    where
      go : (p : Bool) → leb a e ≡ p → (q : Bool) → leb e (length w) ≡ q → Span (length (between w a e))
      go true f true g =
          let h = leb-true a e f in
          let k = leb-true e (length w) g in
          let b : between w a e ≡ part w a (e - a) = between_in w a e h k in
          let l : length (between w a e) ≡ e - a = ap length b ∙ length_part w a (e - a) (omega arith) in
          record { reads = ap (λ (j : ℕ). part w a j) l ∙ sym b; within = λ _. omega arith }
      go false f q g = none (between_after w a e (leb-false a e f))
      go true f false g = none (between_past w a e (leb-false e (length w) g))
