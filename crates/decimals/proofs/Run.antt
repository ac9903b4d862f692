-- Laws of an automaton that goes through a list by its index.
use mathlib.Core.Path.{◌≡◌, refl, ap, sym, ◌∙◌}
use mathlib.Core.List.{List, [], ◌∷◌, ◌++◌}
use Prim.Native.Nat.{ℕ, ◌+◌, ◌≤◌, ◌<◌}
use native.Mathlib.Numerals.{add-one}
use lib.ListN.{length, drop, get_or, drop_of_length-le}
use lib.Seq.{drop-cons}
use Rattle.decimals.specs.Bytes.{run}

module _ (f : ℕ → ℕ → ℕ) (s : List ℕ) where
  pub run_more : (q i : ℕ) → i < length s → run f q (drop i s) ≡ run f (f q (get_or s i 0)) (drop (i + 1) s)
  unfolding run
  run_more q i h = rw (drop-cons s i 0, add-one)

  pub run_end : (q i : ℕ) → length s ≤ i → run f q (drop i s) ≡ q
  unfolding run
  run_end q i h = rw (drop_of_length-le s h)

  -- a turn of the loop, and its end
  pub run_turn : {q r i x : ℕ} → i < length s → run f q (drop i s) ≡ x → r ≡ f q (get_or s i 0) → run f r (drop (i + 1) s) ≡ x
  run_turn {q} {r} {i} h p e = rw (e, ← run_more q i h) p

  pub run_done : (q : ℕ) {i x : ℕ} → length s ≤ i → run f q (drop i s) ≡ x → x ≡ q
  run_done q {i} h p = sym p ∙ run_end q i h

-- over one list, and then over another
pub run_append : (f : ℕ → ℕ → ℕ) (q : ℕ) (a b : List ℕ) → run f q (a ++ b) ≡ run f (run f q a) b
unfolding run
run_append f q [] b = refl
run_append f q (x ∷ a) b = run_append f (f q x) a b

-- a state that no byte leaves
pub run_stays : (f : ℕ → ℕ → ℕ) (q : ℕ) → ((b : ℕ) → f q b ≡ q) → (t : List ℕ) → run f q t ≡ q
unfolding run
run_stays f q h [] = refl
run_stays f q h (b ∷ t) = ap (λ (j : ℕ). run f j t) (h b) ∙ run_stays f q h t
