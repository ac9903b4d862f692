-- A term's arguments stay readable: what lies at the workspace's back is not written over.
use mathlib.Core.Path.{◌≡◌, ap, ◌∙◌}
use mathlib.Core.List.{List}
use Prim.Native.Nat.{ℕ, ◌-◌, ◌≤◌}
use native.Mathlib.Omega.{arith}
use lib.ListN.{length, take, drop}
use Rattle.records.specs.Tree.{Literal, Named}
use Rattle.resolution.specs.Effect.{Locals}
use Rattle.resolver.specs.Relations.Meets.{World, takes, TextIn, NamedIn, named_none, named_more, LocalsAt, no_locals, some_locals}
use Rattle.resolver.proofs.Single.Laws.{drop_more}

-- the texts lie between `low` and `base`
pub named_low : {w : List ℕ} {low base : ℕ} {ns : Named} → NamedIn w low base ns → low ≤ base
named_low (named_none a b) = a
named_low (named_more t b x r) = let a = named_low r in omega arith

pub named_high : {w : List ℕ} {low base : ℕ} {ns : Named} → NamedIn w low base ns → base ≤ length w
named_high (named_none a b) = b
named_high (named_more t b x r) = b

pub text_stays : (w w' : List ℕ) (low base : ℕ) (l : Literal) → drop low w' ≡ drop low w → low ≤ base - takes l → TextIn w base l → TextIn w' base l
unfolding TextIn
text_stays w w' low base (Literal.string s) e h t = λ b.
    let n : ℕ = takes (Literal.string s) in
    ap (take n) (drop_more w' w low (base - n) h e) ∙ t b
text_stays w w' low base (Literal.number s) e h t = t

pub named_stays : {w w' : List ℕ} {low base : ℕ} {ns : Named} → length w' ≡ length w → drop low w' ≡ drop low w → NamedIn w low base ns → NamedIn w' low base ns
named_stays n e (named_none a b) = named_none a (omega arith)
named_stays {w} {w'} {low} {base} n e (named_more {a = a} t b x r) = named_more t (omega arith) (text_stays w w' low base a.1 e (named_low r) x) (named_stays n e r)

-- the arguments stay, where the state's record of them does, and the workspace from the back on
module _ {w v : World} {l : Locals} (i : v.store ≡ w.store) (n : length v.work ≡ length w.work) (b : v.st.back ≤ w.st.back) (r : drop w.st.back v.work ≡ drop w.st.back w.work) where
  pub locals_stay : v.st.local ≡ w.st.local → v.st.local_at ≡ w.st.local_at → v.st.local_count ≡ w.st.local_count → v.st.local_base ≡ w.st.local_base
      → LocalsAt w l → LocalsAt v l
  locals_stay e₀ e₁ e₂ e₃ (no_locals f o) = no_locals (e₀ ∙ f) o
  locals_stay e₀ e₁ e₂ e₃ (some_locals ns f low t h o k x) =
      some_locals ns f low (e₀ ∙ t) (rw (e₂, i, e₁) h) o (omega arith)
      (rw e₃ (named_stays n (drop_more v.work w.work w.st.back low k r) x))

-- the same, where nothing of the workspace or of the store changed
pub locals_alike : {w v : World} {l : Locals} → v.store ≡ w.store → v.work ≡ w.work → v.st.back ≡ w.st.back → v.st.local ≡ w.st.local → v.st.local_at ≡ w.st.local_at
    → v.st.local_count ≡ w.st.local_count → v.st.local_base ≡ w.st.local_base → LocalsAt w l → LocalsAt v l
locals_alike {w} i q b e₀ e₁ e₂ e₃ h = locals_stay i (ap length q) (omega arith) (ap (drop w.st.back) q) e₀ e₁ e₂ e₃ h
