-- Numbers and the bytes that write them.
use mathlib.Core.Path.{◌≡◌, refl, ap, sym, ◌∙◌}
use mathlib.Core.List.{List, [], ◌∷◌}
use Prim.Native.Nat.{ℕ, zero, suc, ◌+◌, ◌*◌, ◌/◌, ◌%◌, ◌^◌, ◌≤◌, ◌<◌}
use native.Mathlib.Omega.{arith}
use native.Mathlib.Nat.{mod-eq_of_lt, mod-lt, div-add-mod', mul-add-mod_self_left, mul-add-div_right, div-eq_of_lt}
use lib.ListN.{length}
use Rattle.records.specs.Bytes.{be, to_be}
use Rattle.layout.specs.Exact.{Octets}

pub length_to_be : (n x : ℕ) → length (to_be n x) ≡ n
unfolding to_be
length_to_be zero x = refl
length_to_be (suc n) x = ap suc (length_to_be n x)

power_suc : (n : ℕ) → 256 ^ suc n ≡ 256 * 256 ^ n
power_suc n = omega arith

power_positive : (n : ℕ) → 0 < 256 ^ n
power_positive zero = omega arith
power_positive (suc n) = let p = power_positive n in omega arith

-- x / m = q, x mod m = r: what is left of x above 256 m
mod_step : (x m : ℕ) → 0 < m → x / m % 256 * m + x % m ≡ x % (256 * m)
mod_step x m h =
    let q : ℕ = x / m in
    let a : q / 256 * 256 + q % 256 ≡ q = div-add-mod' q 256 in
    let b : q * m + x % m ≡ x = div-add-mod' x m in
    let c : x % m < m = mod-lt x h in
    let d : q % 256 < 256 = mod-lt q (omega arith) in
    let e : (q / 256 * 256 + q % 256) * m ≡ q * m = ap (λ (j : ℕ). j * m) a in
    let f : x ≡ 256 * m * (q / 256) + (q % 256 * m + x % m) = omega arith in
    let g : suc (q % 256) * m ≤ 256 * m = native.Mathlib.Nat.mul-le-mul_right m d in
    let k : q % 256 * m + x % m < 256 * m = omega arith in
    sym (ap (λ (j : ℕ). j % (256 * m)) f ∙ mul-add-mod_self_left (256 * m) (q / 256) (q % 256 * m + x % m) ∙ mod-eq_of_lt k)

be_mod : (n x : ℕ) → be (to_be n x) ≡ x % 256 ^ n
unfolding to_be
be_mod zero x = omega arith
be_mod (suc n) x =
    rw (length_to_be n x, be_mod n x, power_suc n) (mod_step x (256 ^ n) (power_positive n))

-- a number that fits is the one that its bytes write
pub be_to_be : (n x : ℕ) → x < 256 ^ n → be (to_be n x) ≡ x
be_to_be n x h = be_mod n x ∙ mod-eq_of_lt h

-- what is above n bytes isn't in them
to_be_above : (n k y : ℕ) → to_be n (k * 256 ^ n + y) ≡ to_be n y
unfolding to_be
to_be_above zero k y = refl
to_be_above (suc n) k y =
    let p : k * 256 ^ suc n + y ≡ k * 256 * 256 ^ n + y = rw (power_suc n) (omega arith) in
    let q : (k * 256 * 256 ^ n + y) / 256 ^ n ≡ k * 256 + y / 256 ^ n = mul-add-div_right (power_positive n) (k * 256) y in
    let r : (k * 256 + y / 256 ^ n) % 256 ≡ y / 256 ^ n % 256 = omega arith in
    rw (p, q, r, to_be_above n (k * 256) y)

pub be_small : (bs : List ℕ) → Octets bs → be bs < 256 ^ length bs
be_small [] h = omega arith
be_small (b ∷ bs) h =
    let i = be_small bs h.1 in
    let g : suc b * 256 ^ length bs ≤ 256 * 256 ^ length bs = native.Mathlib.Nat.mul-le-mul_right (256 ^ length bs) h.0 in
    rw (power_suc (length bs)) (omega arith)

-- bytes are those that write their number
pub to_be_be : (bs : List ℕ) → Octets bs → to_be (length bs) (be bs) ≡ bs
unfolding to_be
to_be_be [] h = refl
to_be_be (b ∷ bs) h =
    let m : ℕ = 256 ^ length bs in
    let q : (b * m + be bs) / m ≡ b + be bs / m = mul-add-div_right (power_positive (length bs)) b (be bs) in
    let z : be bs / m ≡ 0 = div-eq_of_lt (be_small bs h.1) in
    let o = h.0 in
    let r : (b + 0) % 256 ≡ b = omega arith in
    rw (q, z, r, to_be_above (length bs) b (be bs), to_be_be bs h.1)
