-- Laws of the Ids and literals of records.
use mathlib.Core.Path.{◌≡◌}
use mathlib.Core.List.{List}
use mathlib.Core.Bool.{Bool, true, false, ◌&&◌}
use Prim.Native.Nat.{ℕ, ◌≤◌}
use native.Mathlib.Omega.{arith}
use lib.ListN.{length}
use lib.Dec.{eqb}
use borrow.Author.Tests.{leb-true}
use Rattle.records.specs.Got.{got}
use Rattle.decimals.specs.Bytes.{run}
use Rattle.rules.specs.Rules.{id_step, is_id}
use Rattle.records.specs.Decode.{id_at}
use Rattle.records.proofs.Views.{id_elim}

-- an Id has at most 255 bytes
pub id_short : (s : List ℕ) (at : ℕ) {t : List ℕ} {e : ℕ} → id_at s at ≡ got t e → length t ≤ 255
unfolding is_id
id_short s at {t} h = id_elim s at h (λ p hs et ok. leb-true (length t) 255 (both_true (eqb (run id_step 0 t) 1) ok))
  where
    both_true : (x : Bool) {y : Bool} → x && y ≡ true → y ≡ true
    both_true true k = k
    both_true false k = let z : ◌≡◌ {A = ℕ} 0 1 = cc in absurd (omega arith)
