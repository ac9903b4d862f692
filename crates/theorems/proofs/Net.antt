-- What a run that ends has written and holds: the text that the action says, the bytes that it says are kept.
use mathlib.Core.Path.{◌≡◌, refl, sym, ap, subst, ◌∙◌}
use mathlib.Core.List.{List, [], ◌∷◌, ◌++◌}
use Prim.Native.Nat.{ℕ, zero, suc, ◌+◌}
use native.Mathlib.Omega.{arith}
use lib.ListN.{length, replicate, length-replicate}
use Rattle.records.specs.Tree.{Pattern}
use Rattle.entries.specs.Lookup.{Find}
use Rattle.resolution.specs.Effect.{Bytes, State, Out, Done}
use Rattle.resolution.specs.Resolve.{Setting, Trail, resolve}
use Rattle.resolution.specs.Exec.{Machine, Limits, ran, exec}
use Rattle.theorems.specs.HighestUse.{Workspace, total, use_of, longer, highest}
use Rattle.theorems.proofs.Spaces.{space_after, out_to, text_out, grown, Spaced, spaced}
use Rattle.theorems.proofs.Highest.{Holds, Follows, exec_held}

-- the part of a text that goes to the text buffer (`out_to`, by how many workspace texts are open), and the bytes of it that go to the workspace
abbrev pub outward : ℕ → Bytes → Bytes
outward zero t = t
outward (suc n) t = []

abbrev pub inward : ℕ → Bytes → ℕ
inward zero t = 0
inward (suc n) t = length t

-- from one machine to another a text was written, and so many bytes were kept
pub record Netted (m m' : Machine) (text : Bytes) (kept : ℕ) : Type 0 where
  pub level : m'.nest ≡ m.nest
  pub made : m'.written ≡ m.written ++ outward m.nest text
  pub used : m'.used ≡ m.used + inward m.nest text + kept

-- a workspace of n texts without bytes, and what is in use at its back
abbrev bare : ℕ → ℕ → Workspace
bare n u = record { front = replicate n 0; back = u }

no_bytes : (n : ℕ) → total (replicate n 0) ≡ 0
unfolding total
no_bytes zero = refl
no_bytes (suc n) = omega (arith, no_bytes n)

out_bare : (n : ℕ) (t : Bytes) → out_to (replicate n 0) t ≡ outward n t
out_bare zero t = refl
out_bare (suc n) t = refl

open_grown : (k : ℕ) (l : List ℕ) → length (longer k l) ≡ length l
unfolding longer
open_grown k [] = refl
open_grown k (x ∷ l) = refl

use_grown : (n k u : ℕ) (t : Bytes) → use_of (grown (length t) k (bare n u)) ≡ u + inward n t + k
unfolding use_of total longer
use_grown zero k u t = omega arith
use_grown (suc n) k u t = omega (arith, no_bytes n)

-- a run of a resolution that ends has written its text and kept its bytes
pub netted : (st : Setting) (find : Find) (n : ℕ) (p : Pattern) (t : Trail) (s : State) (L : Limits) (m m' : Machine)
    → exec L (resolve st find n p t s).trace m ≡ ran m' → Netted m m' (resolve st find n p t s).text (resolve st find n p t s).kept
unfolding use_of
netted st find n p t s L m m' q =
    let o : Out Done = resolve st find n p t s in
    let w : Workspace = bare m.nest m.used in
    let a : Spaced o.trace w o.text o.kept = spaced st find n p t s w in
    let h : Follows m m' (space_after o.trace w) (text_out o.trace w) (highest o.trace w) = exec_held L o.trace m m' w a.frees (record { nest = sym (length-replicate m.nest 0); used = omega (arith, no_bytes m.nest) }) q in
    let z : Holds m' (grown (length o.text) o.kept w) = subst (λ (x : Workspace). Holds m' x) a.leaves h.holds in
    record {
      level = z.nest ∙ open_grown (length o.text) (replicate m.nest 0) ∙ length-replicate m.nest 0;
      made = h.made ∙ ap (λ (x : Bytes). m.written ++ x) (a.writes ∙ out_bare m.nest o.text);
      used = z.used ∙ use_grown m.nest o.kept m.used o.text;
    }
