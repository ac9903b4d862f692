-- Laws of the shortest decimal.
use mathlib.Core.Path.{◌≡◌, refl, ap, sym, ◌∙◌}
use mathlib.Core.Bool.{Bool, true, false, ◌&&◌}
use Prim.Native.Nat.{ℕ, zero, suc, ◌-◌, ◌*◌, ◌/◌, ◌%◌, ◌^◌, ◌≤◌, ◌<◌}
use native.Mathlib.Omega.{arith}
use native.Mathlib.Nat.{pow-succ', div-div-eq-div-mul, div-one, mul-one, mul_assoc, mul_left_comm, mul_comm, mul-mul-mul_comm, eq_of_mul-eq-mul_right, one-le-pow, one-le-mul}
use lib.Dec.{eqb}
use borrow.Author.Tests.{eqb-true, eqb-false, eq-eqb, ne_eqb}
use Rattle.decimals.specs.Decimal.{shortest}

pub shortest_stop : (d s : ℕ) → (d % 10 ≡ 0 → ⊥) → shortest d s ≡ (d, s)
unfolding shortest
shortest_stop d zero h = refl
shortest_stop d (suc s) h = rw (ne_eqb (d % 10) 0 h, shortest)

pub shortest_more : (d s : ℕ) → 0 < s → d % 10 ≡ 0 → shortest (d / 10) (s - 1) ≡ shortest d s
unfolding shortest
shortest_more d zero h e = absurd (omega arith)
shortest_more d (suc s) h e =
    let p : suc s - 1 ≡ s = omega arith in
    rw (eq-eqb (d % 10) 0 e, shortest, p)

pub shortest_end : (d s : ℕ) → s ≤ 0 → shortest d s ≡ (d, 0)
unfolding shortest
shortest_end d zero h = refl
shortest_end d (suc s) h = absurd (omega arith)

-- the whole part, a place at a time
pub whole_more : (d s : ℕ) → 0 < s → d / 10 / 10 ^ (s - 1) ≡ d / 10 ^ s
whole_more d zero h = absurd (omega arith)
whole_more d (suc s) h =
    let e : suc s - 1 ≡ s = omega arith in
    ap (λ (n : ℕ). d / 10 / 10 ^ n) e ∙ div-div-eq-div-mul d 10 (10 ^ s) ∙ ap (λ (n : ℕ). d / n) (sym (pow-succ' 10 s))

pub whole_end : (d s : ℕ) → s ≤ 0 → d ≡ d / 10 ^ s
whole_end d zero h = sym (div-one d)
whole_end d (suc s) h = absurd (omega arith)

-- its digits are no more, its scale is no larger
pub shortest_le : (d s : ℕ) → ((shortest d s).0 ≤ d) × ((shortest d s).1 ≤ s)
unfolding shortest
shortest_le d zero = (omega arith, omega arith)
shortest_le d (suc s) = go (eqb (d % 10) 0) refl (shortest_le (d / 10) s)
  where
    go : (t : Bool) → eqb (d % 10) 0 ≡ t → ((shortest (d / 10) s).0 ≤ d / 10) × ((shortest (d / 10) s).1 ≤ s) → ((shortest d (suc s)).0 ≤ d) × ((shortest d (suc s)).1 ≤ suc s)
    go true e h = rw (e, shortest) (omega arith, omega arith)
    go false e h = rw (e, shortest) (omega arith, omega arith)

-- it has the same value
pub shortest_value : (d s : ℕ) → d * 10 ^ (shortest d s).1 ≡ (shortest d s).0 * 10 ^ s
unfolding shortest
shortest_value d zero = refl
shortest_value d (suc s) = go (eqb (d % 10) 0) refl (shortest_value (d / 10) s)
  where
    go : (t : Bool) → eqb (d % 10) 0 ≡ t → d / 10 * 10 ^ (shortest (d / 10) s).1 ≡ (shortest (d / 10) s).0 * 10 ^ s → d * 10 ^ (shortest d (suc s)).1 ≡ (shortest d (suc s)).0 * 10 ^ suc s
    go true e h =
        let p : ℕ = (shortest (d / 10) s).0 in
        let x : ℕ = 10 ^ (shortest (d / 10) s).1 in
        let z : d % 10 ≡ 0 = eqb-true (d % 10) 0 e in
        let w : d ≡ 10 * (d / 10) = omega arith in
        let k : d * x ≡ p * 10 ^ suc s = ap (λ (n : ℕ). n * x) w ∙ mul_assoc 10 (d / 10) x ∙ ap (λ (n : ℕ). 10 * n) h ∙ mul_left_comm 10 p (10 ^ s) ∙ ap (λ (n : ℕ). p * n) (sym (pow-succ' 10 s)) in
        rw (e, shortest) k
    go false e h = rw (e, shortest)

-- it ends in no zero, where it has a fraction
pub shortest_trim : (d s : ℕ) → 0 < (shortest d s).1 → (shortest d s).0 % 10 ≡ 0 → ⊥
unfolding shortest
shortest_trim d zero = λ h e. omega arith
shortest_trim d (suc s) = go (eqb (d % 10) 0) refl (shortest_trim (d / 10) s)
  where
    go : (t : Bool) → eqb (d % 10) 0 ≡ t → (0 < (shortest (d / 10) s).1 → (shortest (d / 10) s).0 % 10 ≡ 0 → ⊥) → 0 < (shortest d (suc s)).1 → (shortest d (suc s)).0 % 10 ≡ 0 → ⊥
    go true e f = rw (e, shortest) f
    go false e f = rw (e, shortest) (λ h z. eqb-false (d % 10) 0 e z)

lifted : (p v : ℕ) → p * 10 ^ suc v ≡ 10 * (p * 10 ^ v)
lifted p v = ap (λ (n : ℕ). p * n) (pow-succ' 10 v) ∙ mul_left_comm p 10 (10 ^ v)

ends : (p q v : ℕ) → p * 10 ^ suc v ≡ q * 10 ^ zero → q % 10 ≡ 0
ends p q v e =
    let h : q ≡ 10 * (p * 10 ^ v) = sym (mul-one q) ∙ sym e ∙ lifted p v in
    omega (arith, h)

-- two decimals that end in no zero and have the same value are the same
reduced : (p u q v : ℕ) → (0 < u → p % 10 ≡ 0 → ⊥) → (0 < v → q % 10 ≡ 0 → ⊥) → p * 10 ^ v ≡ q * 10 ^ u → (p ≡ q) × (u ≡ v)
reduced p zero q zero f g e = (sym (mul-one p) ∙ e ∙ mul-one q, refl)
reduced p zero q (suc v) f g e = absurd (g (omega arith) (ends p q v e))
reduced p (suc u) q zero f g e = absurd (f (omega arith) (ends q p u (sym e)))
reduced p (suc u) q (suc v) f g e =
    let k : 10 * (p * 10 ^ v) ≡ 10 * (q * 10 ^ u) = sym (lifted p v) ∙ e ∙ lifted q u in
    let h = reduced p u q v (λ a. f (omega arith)) (λ a. g (omega arith)) (omega (arith, k)) in
    (h.0, ap suc h.1)

cross : (d s e t p u q v : ℕ) → d * 10 ^ u ≡ p * 10 ^ s → e * 10 ^ v ≡ q * 10 ^ t → d * 10 ^ t * (10 ^ u * 10 ^ v) ≡ p * 10 ^ v * (10 ^ s * 10 ^ t)
cross d s e t p u q v a b = mul-mul-mul_comm d (10 ^ t) (10 ^ u) (10 ^ v) ∙ ap (λ (n : ℕ). n * (10 ^ t * 10 ^ v)) a ∙ swap p (10 ^ s) (10 ^ t) (10 ^ v)
  where
    swap : (w x y z : ℕ) → w * x * (y * z) ≡ w * z * (x * y)
    swap w x y z = ap (λ (n : ℕ). w * x * n) (mul_comm y z) ∙ mul-mul-mul_comm w x z y

-- equal values are those whose shortest decimals are equal
pub shortest_same : (d s e t : ℕ) {p u q v : ℕ} → shortest d s ≡ (p, u) → shortest e t ≡ (q, v) → eqb (d * 10 ^ t) (e * 10 ^ s) ≡ eqb p q && eqb u v
shortest_same d s e t {p} {u} {q} {v} h k = go (eqb p q) refl (eqb u v) refl
  where
    left : d * 10 ^ u ≡ p * 10 ^ s
    left = rw h at (shortest_value d s)

    right : e * 10 ^ v ≡ q * 10 ^ t
    right = rw k at (shortest_value e t)

    up : d * 10 ^ t * (10 ^ u * 10 ^ v) ≡ p * 10 ^ v * (10 ^ s * 10 ^ t)
    up = cross d s e t p u q v left right

    down : e * 10 ^ s * (10 ^ u * 10 ^ v) ≡ q * 10 ^ u * (10 ^ s * 10 ^ t)
    down = ap (λ (n : ℕ). e * 10 ^ s * n) (mul_comm (10 ^ u) (10 ^ v)) ∙ cross e t d s q v p u right left ∙ ap (λ (n : ℕ). q * 10 ^ u * n) (mul_comm (10 ^ t) (10 ^ s))

    positive : (a b : ℕ) → 0 < 10 ^ a * 10 ^ b
    positive a b = one-le-mul (one-le-pow a 10 (omega arith)) (one-le-pow b 10 (omega arith))

    equal : d * 10 ^ t ≡ e * 10 ^ s → (p ≡ q) × (u ≡ v)
    equal x = reduced p u q v (rw h at (shortest_trim d s)) (rw k at (shortest_trim e t)) (eq_of_mul-eq-mul_right (10 ^ s * 10 ^ t) (positive s t) (p * 10 ^ v) (q * 10 ^ u) (sym up ∙ ap (λ (n : ℕ). n * (10 ^ u * 10 ^ v)) x ∙ down))

    back : p ≡ q → u ≡ v → d * 10 ^ t ≡ e * 10 ^ s
    back x y = eq_of_mul-eq-mul_right (10 ^ u * 10 ^ v) (positive u v) (d * 10 ^ t) (e * 10 ^ s) (up ∙ (cc) ∙ sym down)

    go : (a : Bool) → eqb p q ≡ a → (b : Bool) → eqb u v ≡ b → eqb (d * 10 ^ t) (e * 10 ^ s) ≡ a && b
    go true x true y = eq-eqb _ _ (back (eqb-true p q x) (eqb-true u v y))
    go true x false y = ne_eqb _ _ (λ z. eqb-false u v y (equal z).1)
    go false x b y = ne_eqb _ _ (λ z. eqb-false p q x (equal z).0)
