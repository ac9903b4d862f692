-- An Id byte by byte: a letter, and behind it bytes that stay in the state of an Id.
use mathlib.Core.Path.{◌≡◌, refl, ap, ◌∙◌}
use mathlib.Core.Bool.{Bool, true, false, ◌&&◌, ◌||◌}
use mathlib.Core.List.{List, [], ◌∷◌}
use Prim.Native.Nat.{ℕ, ◌-◌, ◌≤◌, ◌<◌}
use native.Mathlib.Omega.{arith}
use lib.Dec.{eqb, leb}
use lib.ListN.{length, take, drop, get_or}
use lib.Seq.{take-length}
use Rattle.std.specs.List.{list_all}
use Rattle.decimals.specs.Bytes.{run, choose, digit}
use Rattle.decimals.proofs.Run.{run_stays}
use Rattle.rules.specs.Rules.{letter, id_step, is_id}

-- does a byte stay in an Id
abbrev pub stays : ℕ → Bool
stays b = eqb (id_step 1 b) 1

no_id : (t : List ℕ) → run id_step 2 t ≡ 2
unfolding id_step
no_id t = run_stays id_step 2 (λ b. refl) t

inner_all : (t : List ℕ) → eqb (run id_step 1 t) 1 ≡ list_all stays t
unfolding run id_step
inner_all [] = refl
inner_all (b ∷ t) = go (letter b || digit b || eqb b 45 || eqb b 95) (inner_all t)
  where
    go : (i : Bool) → eqb (run id_step 1 t) 1 ≡ list_all stays t → eqb (run id_step (choose i 1 2) t) 1 ≡ eqb (choose i 1 2) 1 && list_all stays t
    go true e = e
    go false e = ap (λ (q : ℕ). eqb q 1) (no_id t)

pub id_all : (s : List ℕ) → 1 ≤ length s → is_id s ≡ (letter (get_or s 0 0) && list_all stays (drop 1 s)) && leb (length s) 255
unfolding is_id run id_step
id_all [] h = absurd (omega arith)
id_all (b ∷ t) h = ap (λ (x : Bool). x && leb (length (b ∷ t)) 255) (go (letter b))
  where
    go : (i : Bool) → eqb (run id_step (choose i 1 2) t) 1 ≡ i && list_all stays t
    go true = inner_all t
    go false = ap (λ (q : ℕ). eqb q 1) (no_id t)

pub id_none : (s : List ℕ) → length s < 1 → is_id s ≡ false
unfolding is_id run
id_none [] h = refl
id_none (b ∷ t) h = absurd (omega arith)

-- the bytes behind the first, as a pattern has them
pub others : (s : List ℕ) → take (length s - 1) (drop 1 s) ≡ drop 1 s
others [] = refl
others (b ∷ t) = let n : length (b ∷ t) - 1 ≡ length t = omega arith in ap (λ (k : ℕ). take k t) n ∙ take-length t
