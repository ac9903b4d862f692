-- The number of a literal is in range: at most 15 digits, of which one at least stands before the dot.
use mathlib.Core.Path.{◌≡◌, refl, ap, subst}
use mathlib.Core.List.{List, [], ◌∷◌}
use mathlib.Core.Bool.{Bool, true, false, ◌||◌}
use mathlib.Core.Option.{Option, none}
use Prim.Native.Nat.{ℕ, ◌+◌, ◌≤◌, ◌<◌}
use native.Mathlib.Omega.{arith}
use lib.Dec.{eqb, ltb}
use borrow.Author.Tests.{eqb-true, ltb-true, ltb-false, le-leb, lt-ltb}
use Rattle.decimals.specs.Bytes.{run, choose, digit}
use Rattle.decimals.specs.Decimal.{or_zero, digits_limit, scale_limit, fraction_limit}
use Rattle.decimals.specs.Text.{in_range}
use Rattle.literals.specs.Literal.{number_step, digit_count, is_number, Read, one_more, read_sign, read_dot, read_digit, read_step, read_from, read_start, read_number, with_fraction, literal}
use Rattle.decimals.proofs.Tests.{digit_bounds}
use Rattle.literals.proofs.Reading.{more_places, number_shape, literal_digits}

-- what was read in a state of the shape, of so many digits: no fraction before the dot, and from the whole part on a digit more than the fraction has
record Placed (q c : ℕ) (r : Read) : Type 0 where
  before : q < 3 → r.fraction ≡ none
  after : 2 ≤ q → q < 5 → 1 + or_zero r.fraction ≤ c

more_none : (f : Option ℕ) → f ≡ none → one_more f ≡ none
unfolding one_more
more_none f e = ap one_more e

zero_none : (f : Option ℕ) → f ≡ none → or_zero f ≡ 0
unfolding or_zero
zero_none f e = ap or_zero e

module _ (q b c : ℕ) (r : Read) (h : Placed q c r) where
  sign_step : eqb b 45 ≡ true → digit b ≡ false → Placed (number_step q b) (choose (digit b) 1 0 + c) (read_step r b)
  unfolding number_step read_step read_sign
  sign_step e d = rw (e, d, read_step) (go (eqb q 0) refl)
    where
      go : (t : Bool) → eqb q 0 ≡ t → Placed (choose t 1 5) (0 + c) (read_sign r)
      go true z = let y = eqb-true q 0 z in record { before = λ _. h.before (omega arith); after = λ a _. absurd (omega arith) }
      go false z = record { before = λ a. absurd (omega arith); after = λ _ a. absurd (omega arith) }

  dot_step : eqb b 45 ≡ false → eqb b 46 ≡ true → digit b ≡ false → Placed (number_step q b) (choose (digit b) 1 0 + c) (read_step r b)
  unfolding number_step read_step read_dot or_zero
  dot_step e f d = rw (e, f, d, read_step) (go (eqb q 2) refl)
    where
      go : (t : Bool) → eqb q 2 ≡ t → Placed (choose t 3 5) (0 + c) (read_dot r)
      go true z = let y = eqb-true q 2 z in let p = h.after (omega arith) (omega arith) in record { before = λ a. absurd (omega arith); after = λ _ _. omega arith }
      go false z = record { before = λ a. absurd (omega arith); after = λ _ a. absurd (omega arith) }

  digit_step : eqb b 45 ≡ false → eqb b 46 ≡ false → digit b ≡ true → Placed (number_step q b) (choose (digit b) 1 0 + c) (read_step r b)
  unfolding number_step read_step read_digit
  digit_step e f d = rw (e, f, d, read_step) (go (ltb q 3) refl (ltb q 5) refl)
    where
      go : (t : Bool) → ltb q 3 ≡ t → (u : Bool) → ltb q 5 ≡ u → Placed (choose t 2 (choose u 4 5)) (1 + c) (read_digit r b)
      go true z u y =
          let n = h.before (ltb-true q 3 z) in
          let o = zero_none _ (more_none r.fraction n) in
          record { before = λ _. more_none r.fraction n; after = λ _ _. omega arith }
      go false z true y =
          let p = ltb-false q 3 z in
          let o = ltb-true q 5 y in
          let m = h.after (omega arith) o in
          let k = more_places r.fraction in
          record { before = λ a. absurd (omega arith); after = λ _ _. omega arith }
      go false z false y = record { before = λ a. absurd (omega arith); after = λ _ a. absurd (omega arith) }

  other_step : eqb b 45 ≡ false → eqb b 46 ≡ false → digit b ≡ false → Placed (number_step q b) (choose (digit b) 1 0 + c) (read_step r b)
  unfolding number_step
  other_step e f d = rw (e, f, d) (record { before = λ a. absurd (omega arith); after = λ _ a. absurd (omega arith) })

  place_step : Placed (number_step q b) (choose (digit b) 1 0 + c) (read_step r b)
  place_step = go (eqb b 45) refl (eqb b 46) refl (digit b) refl
    where
      go : (x : Bool) → eqb b 45 ≡ x → (y : Bool) → eqb b 46 ≡ y → (z : Bool) → digit b ≡ z → Placed (number_step q b) (choose (digit b) 1 0 + c) (read_step r b)
      go true e y f true d = let a = digit_bounds b d in let n = eqb-true b 45 e in absurd (omega arith)
      go true e y f false d = sign_step e d
      go false e true f true d = let a = digit_bounds b d in let n = eqb-true b 46 f in absurd (omega arith)
      go false e true f false d = dot_step e f d
      go false e false f true d = digit_step e f d
      go false e false f false d = other_step e f d

place_all : (l : List ℕ) (q c : ℕ) (r : Read) → Placed q c r → Placed (run number_step q l) (digit_count l + c) (read_from l r)
unfolding run digit_count read_from
place_all [] q c r h = let e : c ≡ 0 + c = omega arith in subst (λ (n : ℕ). Placed q n r) e h
place_all (b ∷ l) q c r h =
    let e : digit_count l + (choose (digit b) 1 0 + c) ≡ choose (digit b) 1 0 + digit_count l + c = omega arith in
    subst (λ (n : ℕ). Placed (run number_step (number_step q b) l) n (read_from l (read_step r b))) e (place_all l (number_step q b) (choose (digit b) 1 0 + c) (read_step r b) (place_step q b c r h))

ends : (n : ℕ) → (eqb n 2 || eqb n 4) ≡ true → (2 ≤ n) × (n < 5)
ends n h = go (eqb n 2) refl (eqb n 4) refl h
  where
    go : (x : Bool) → eqb n 2 ≡ x → (y : Bool) → eqb n 4 ≡ y → x || y ≡ true → (2 ≤ n) × (n < 5)
    go true e y f k = let p = eqb-true n 2 e in (omega arith, omega arith)
    go false e true f k = let p = eqb-true n 4 f in (omega arith, omega arith)
    go false e false f k = let z : ◌≡◌ {A = ℕ} 0 1 = cc in absurd (omega arith)

literal_scale : (s : List ℕ) → is_number s ≡ true → or_zero (read_from s read_start).fraction ≤ 14
unfolding read_start
literal_scale s h =
    let a = number_shape s h in
    let b = ends (run number_step 0 s) a.0 in
    let p = place_all s 0 0 read_start (record { before = λ _. refl; after = λ x _. absurd (omega arith) }) in
    let k = p.after b.0 b.1 in
    let c = a.1 in
    omega arith

-- the number that a literal stands for is in range: it has a text
pub literal_ranged : (s : List ℕ) → is_number s ≡ true → in_range (literal s) ≡ true
unfolding in_range literal read_number with_fraction
literal_ranged s h =
    let d = literal_digits s h in
    let k = literal_scale s h in
    rw (lt-ltb (read_from s read_start).digits digits_limit d, le-leb (or_zero (read_from s read_start).fraction) scale_limit k, le-leb (or_zero (read_from s read_start).fraction) fraction_limit (omega arith))
