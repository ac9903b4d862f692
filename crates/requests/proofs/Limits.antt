-- The limits of an arguments image's length.
use mathlib.Core.Path.{◌≡◌, refl}
use mathlib.Core.Bool.{Bool, true, false, ◌&&◌}
use Prim.Native.Nat.{ℕ, ◌≤◌}
use native.Mathlib.Omega.{arith}
use lib.Dec.{leb}
use borrow.Author.Tests.{le-leb, leb-true}
use Rattle.records.specs.Images.{max_image}
use Rattle.requests.specs.Image.{min_arguments}

-- the test of the length
abbrev pub length_ok : ℕ → Bool
length_ok n = leb min_arguments n && leb n max_image

pub length_ok_law : (n : ℕ) → min_arguments ≤ n → n ≤ max_image → length_ok n ≡ true
length_ok_law n h k = rw (le-leb min_arguments n h, le-leb n max_image k)

-- and back
pub length_limits : (n : ℕ) → length_ok n ≡ true → (min_arguments ≤ n) × (n ≤ max_image)
length_limits n h = go (leb min_arguments n) (leb n max_image) refl refl h
  where
    go : (t u : Bool) → leb min_arguments n ≡ t → leb n max_image ≡ u → t && u ≡ true → (min_arguments ≤ n) × (n ≤ max_image)
    go true true p q h = (leb-true min_arguments n p, leb-true n max_image q)
    go true false p q h = let z : ◌≡◌ {A = ℕ} 0 1 = cc in absurd (omega arith)
    go false u p q h = let z : ◌≡◌ {A = ℕ} 0 1 = cc in absurd (omega arith)
