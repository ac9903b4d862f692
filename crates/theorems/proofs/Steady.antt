-- A resolution that leaves no id unfound does the same in a bundle that has more.
use mathlib.Core.Path.{◌≡◌, refl}
use mathlib.Core.List.{[], ◌∷◌}
use mathlib.Core.Bool.{Bool, true, false}
use mathlib.Core.Option.{Option, none, some}
use Prim.Native.Nat.{ℕ}
use native.Mathlib.Omega.{arith}
use Rattle.records.specs.Tree.{Pattern}
use Rattle.entries.specs.Lookup.{Holder, Find}
use Rattle.entries.proofs.Holders.{Extends}
use Rattle.resolution.specs.Effect.{Bytes, keep_text, free, State, M, Done, ◌>>=◌, ◌>>◌, only_if, entered, capture, release}
use Rattle.resolution.specs.Resolve.{Setting, Trail, look_for, look_up, resolve}
use Rattle.theorems.proofs.Walk.{Rel, Closed, r_resolve}
use Rattle.theorems.proofs.Tally.{is_unfound, tally, tally_append}

-- the second does what the first does, where that leaves no id unfound
abbrev pub Steady : Rel
Steady A m m' = (s : State) → tally is_unfound (m s).trace ≡ 0 → m' s ≡ m s

steady_bind : {A B : Type 0} {m m' : M A} {f f' : A → M B} → Steady A m m' → ((a : A) → Steady B (f a) (f' a)) → Steady B (m >>= f) (m' >>= f')
unfolding ◌>>=◌
steady_bind {m = m} {m' = m'} {f = f} {f' = f'} h k s cl =
    let both = tally_append is_unfound (m s).trace (f (m s).value (m s).state).trace in
    rw (h s (omega (arith, both))) (rw (k (m s).value (m s).state (omega (arith, both))))

steady_then : {A B : Type 0} {m m' : M A} {n n' : M B} → Steady A m m' → Steady B n n' → Steady B (m >> n) (m' >> n')
unfolding ◌>>◌
steady_then h k = steady_bind h (λ a. k)

steady_capture : {m m' : M Done} → Steady Done m m' → Steady Bytes (capture m) (capture m')
unfolding capture
steady_capture {m = m} h s cl = rw (h s (omega (arith, tally_append is_unfound (m s).trace (keep_text ∷ []))))

steady_release : {A : Type 0} {m m' : M A} → Steady A m m' → Steady A (release m) (release m')
unfolding release
steady_release {A} {m} h s cl = rw (h s (omega (arith, tally_append is_unfound (m s).trace (free (m s).kept ∷ []))))

steady_only : {m m' : M Done} → Steady Done m m' → (b : Bool) → Steady Done (only_if b m) (only_if b m')
unfolding only_if
steady_only h true = h
steady_only h false = λ s cl. refl

steady_entered : {b b' m m' : M Done} → Steady Done b b' → Steady Done m m' → Steady Done (entered b m) (entered b' m')
unfolding entered
steady_entered h k = steady_bind (λ s cl. refl) (λ go. steady_only (steady_then h (steady_then (λ s cl. refl) k)) go)

steady_closed : Closed (λ k. Steady)
steady_closed = record {
  r_ret = λ {k} {A} a s cl. refl;
  r_bind = λ {k} {A} {B} {m} {m'} {f} {f'} h l. steady_bind h l;
  r_report = λ {k} e pl s cl. refl;
  r_merged = λ {k} n s cl. refl;
  r_write = λ {k} b s cl. refl;
  r_dirty = λ {k} s cl. refl;
  r_get = λ {k} s cl. refl;
  r_set = λ {k} l s cl. refl;
  r_entered = λ {k} {b} {b'} {m} {m'} h l. steady_entered h l;
  r_capture = λ {k} {m} {m'} h. steady_capture h;
  r_release = λ {k} {A} {m} {m'} h. steady_release h;
}

steady_look : (find find' : Find) → Extends find find' → (i : Bytes) → Steady (Option Holder) (look_up find i) (look_up find' i)
unfolding look_up look_for
steady_look find find' ext i s = go (find i) refl
  where
    go : (o : Option Holder) → find i ≡ o → tally is_unfound (look_for o s).trace ≡ 0 → look_for (find' i) s ≡ look_for o s
    go none e cl = absurd (omega arith)
    go (some x) e cl = rw (ext i x e)

-- lookups enter a resolution only where they are unfound or give what was found
pub steady : (st : Setting) (find find' : Find) → Extends find find' → (n : ℕ) (p : Pattern) (t : Trail) (s : State)
    → tally is_unfound (resolve st find n p t s).trace ≡ 0 → resolve st find' n p t s ≡ resolve st find n p t s
steady st find find' ext n p t = r_resolve Steady steady_closed find find' (steady_look find find' ext) st n p t
