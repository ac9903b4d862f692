-- Laws of number literals: what is read of an accepted text, and its bounds.
use mathlib.Core.Path.{◌≡◌, refl, ap, sym, ◌∙◌}
use mathlib.Core.Bool.{Bool, true, false, ◌&&◌, ◌||◌}
use mathlib.Core.Option.{Option, none, some}
use mathlib.Core.List.{List, [], ◌∷◌}
use Prim.Native.Nat.{ℕ, suc, ◌+◌, ◌-◌, ◌*◌, ◌^◌, ◌≤◌, ◌<◌}
use native.Mathlib.Numerals.{add-one}
use native.Mathlib.Omega.{arith}
use native.Mathlib.Nat.{pow-succ', pow-le-pow_right, mul-le-mul_right, mul-le-mul_left, mul_assoc, one-le-pow}
use lib.ListN.{length, drop, get_or, drop_of_length-le}
use lib.Seq.{drop-cons}
use lib.Dec.{eqb, ltb}
use borrow.Author.Tests.{eqb-true, leb-true, ltb-true, ltb-false}
use Rattle.decimals.specs.Bytes.{run, choose, digit}
use Rattle.decimals.specs.Decimal.{or_zero, digits_limit}
use Rattle.literals.specs.Literal.{number_step, digit_count, is_number, Read, one_more, read_sign, read_dot, read_digit, read_step, read_from, read_start, read_number, with_fraction, literal}
use Rattle.decimals.proofs.Tests.{and_true, digit_bounds}
use Rattle.decimals.proofs.Run.{run_stays}

-- a turn of the loop that reads, and its end
read_more : (s : List ℕ) (i : ℕ) (r : Read) → i < length s → read_from (drop i s) r ≡ read_from (drop (i + 1) s) (read_step r (get_or s i 0))
unfolding read_from
read_more s i r h = rw (drop-cons s i 0 h, add-one)

pub read_turn : (s : List ℕ) (i : ℕ) (r : Read) {x y : Read} → i < length s → read_from (drop i s) r ≡ y → x ≡ read_step r (get_or s i 0) → read_from (drop (i + 1) s) x ≡ y
read_turn s i r h p e = rw (e, ← read_more s i r h) p

pub read_end : (s : List ℕ) (i : ℕ) (r : Read) → length s ≤ i → read_from (drop i s) r ≡ r
unfolding read_from
read_end s i r h = rw (drop_of_length-le s h)

-- a byte that a literal may have
unfoldable pub good : ℕ → Bool
good b = digit b || (eqb b 45 || eqb b 46)

-- each byte may be one of a literal
unfoldable pub spelled : List ℕ → Bool
spelled [] = true
spelled (b ∷ bs) = good b && spelled bs

-- what was read and what is left have at most 15 digits in all
pub record Fine (r : Read) (l : List ℕ) : Type 0 where
  pub room : suc r.digits * 10 ^ digit_count l ≤ digits_limit
  pub places : or_zero r.fraction + digit_count l ≤ 15
  pub bytes : spelled l ≡ true

-- what is no literal stays none
pub stuck : (b : ℕ) → number_step 5 b ≡ 5
unfolding number_step
stuck b = go (digit b) (eqb b 45) (eqb b 46)
  where
    go : (x y z : Bool) → choose x (choose (ltb 5 3) 2 (choose (ltb 5 5) 4 5)) (choose y (choose (eqb 5 0) 1 5) (choose z (choose (eqb 5 2) 3 5) 5)) ≡ 5
    go true y z = refl
    go false true z = refl
    go false false true = refl
    go false false false = refl

pub stuck_all : (l : List ℕ) → run number_step 5 l ≡ 5
stuck_all l = run_stays number_step 5 stuck l

no_good : (q b : ℕ) → good b ≡ false → number_step q b ≡ 5
unfolding number_step good
no_good q b = go (digit b) (eqb b 45) (eqb b 46)
  where
    go : (x y z : Bool) → x || (y || z) ≡ false → choose x (choose (ltb q 3) 2 (choose (ltb q 5) 4 5)) (choose y (choose (eqb q 0) 1 5) (choose z (choose (eqb q 2) 3 5) 5)) ≡ 5
    go true y z h = cc
    go false true z h = cc
    go false false true h = cc
    go false false false h = refl

all_good : (q : ℕ) (l : List ℕ) → (run number_step q l ≡ 5 → ⊥) → spelled l ≡ true
unfolding run spelled
all_good q [] h = refl
all_good q (b ∷ l) h = go (good b) refl (all_good (number_step q b) l h)
  where
    go : (t : Bool) → good b ≡ t → spelled l ≡ true → t && spelled l ≡ true
    go true e k = k
    go false e k = absurd (h (rw (no_good q b e) (stuck_all l)))

pub number_shape : (s : List ℕ) → is_number s ≡ true → ((eqb (run number_step 0 s) 2 || eqb (run number_step 0 s) 4) ≡ true) × (digit_count s ≤ 15)
unfolding is_number
number_shape s h = let a = and_true _ _ h in (a.0, leb-true _ _ a.1)

pub fine_start : (s : List ℕ) → is_number s ≡ true → Fine read_start s
unfolding read_start or_zero
fine_start s h =
    let a = number_shape s h in
    let p : 10 ^ digit_count s ≤ 10 ^ 15 = pow-le-pow_right (omega arith) a.1 in
    record { room = omega (arith, p); places = omega (arith, a.1); bytes = all_good 0 s (λ e. never (rw e at a.0)) }
  where
    never : (eqb 5 2 || eqb 5 4) ≡ true → ⊥
    never e = let z : ◌≡◌ {A = Bool} false true = e in let y : ◌≡◌ {A = ℕ} 0 1 = cc in omega arith

pub more_places : (f : Option ℕ) → or_zero (one_more f) ≤ or_zero f + 1
unfolding or_zero one_more
more_places none = omega arith
more_places (some k) = omega arith

digit_room : (d x k : ℕ) → x ≤ 9 → suc d * 10 ^ (1 + k) ≤ digits_limit → suc (d * 10 + x) * 10 ^ k ≤ digits_limit
digit_room d x k h e =
    let a : suc (d * 10 + x) * 10 ^ k ≤ suc d * 10 * 10 ^ k = mul-le-mul_right (10 ^ k) (omega arith) in
    let b : suc d * 10 * 10 ^ k ≡ suc d * 10 ^ suc k = mul_assoc (suc d) 10 (10 ^ k) ∙ ap (λ (n : ℕ). suc d * n) (sym (pow-succ' 10 k)) in
    let c : 1 + k ≡ suc k = omega arith in
    omega (arith, a, b, rw c at e)

fine_step : (r : Read) (b : ℕ) (l : List ℕ) → Fine r (b ∷ l) → Fine (read_step r b) l
unfolding read_step read_sign read_dot read_digit digit_count spelled good or_zero
fine_step r b l h = go (eqb b 45) refl (eqb b 46) refl (digit b) refl
  where
    bound : (t : Bool) → digit b ≡ t → (suc r.digits * 10 ^ (choose t 1 0 + digit_count l) ≤ digits_limit) × (or_zero r.fraction + (choose t 1 0 + digit_count l) ≤ 15)
    bound t e = (rw e at h.room, rw e at h.places)

    same : digit b ≡ false → (suc r.digits * 10 ^ digit_count l ≤ digits_limit) × (or_zero r.fraction + digit_count l ≤ 15)
    same e = let z : 0 + digit_count l ≡ digit_count l = omega arith in rw z at (bound false e)

    all : (good b ≡ true) × (spelled l ≡ true)
    all = and_true _ _ h.bytes

    none_left : eqb b 45 ≡ false → eqb b 46 ≡ false → digit b ≡ false → good b ≡ true → ⊥
    none_left e f g k = let z : false ≡ true = rw (g, e, f) at k in let y : ◌≡◌ {A = ℕ} 0 1 = cc in omega arith

    go : (x : Bool) → eqb b 45 ≡ x → (y : Bool) → eqb b 46 ≡ y → (z : Bool) → digit b ≡ z → Fine (read_step r b) l
    go true e y f true g = let d = digit_bounds b g in let n : b ≡ 45 = eqb-true b 45 e in absurd (omega arith)
    go true e y f false g = rw (e, read_step) (record { room = (same g).0; places = (same g).1; bytes = all.1 })
    go false e true f true g = let d = digit_bounds b g in let n : b ≡ 46 = eqb-true b 46 f in absurd (omega arith)
    go false e true f false g = rw (e, f, read_step) (record { room = (same g).0; places = omega (arith, (same g).1); bytes = all.1 })
    go false e false f true g =
        let d = digit_bounds b g in
        rw (e, f, read_step) (record { room = digit_room r.digits (b - 48) (digit_count l) (omega arith) (bound true g).0; places = omega (arith, (bound true g).1, more_places r.fraction); bytes = all.1 })
    go false e false f false g = absurd (none_left e f g all.0)

pub fine_turn : (s : List ℕ) {i : ℕ} {r x : Read} → i < length s → Fine r (drop i s) → x ≡ read_step r (get_or s i 0) → Fine x (drop (i + 1) s)
fine_turn s {i} {r} h f e = rw (e, add-one) (fine_step r (get_or s i 0) (drop (suc i) s) (rw (drop-cons s i 0 h) at f))

fine_below : {r : Read} {l : List ℕ} → Fine r l → r.digits < digits_limit
fine_below {r} {l} f =
    let a : 1 ≤ 10 ^ digit_count l = one-le-pow (digit_count l) 10 (omega arith) in
    let b : suc r.digits * 1 ≤ suc r.digits * 10 ^ digit_count l = mul-le-mul_left (suc r.digits) a in
    omega (arith, b, f.room)

pub fine_digits : {r : Read} {l : List ℕ} → Fine r l → r.digits ≤ digits_limit
fine_digits f = omega (arith, fine_below f)

pub fine_scale : {r : Read} {l : List ℕ} → Fine r l → or_zero r.fraction ≤ 15
fine_scale f = omega (arith, f.places)

pub fine_fraction : {r : Read} {l : List ℕ} → Fine r l → or_zero r.fraction < 2 ^ 63
fine_fraction f = omega (arith, f.places)

fine_all : (l : List ℕ) (r : Read) → Fine r l → Fine (read_from l r) []
unfolding read_from
fine_all [] r f = f
fine_all (b ∷ l) r f = fine_all l (read_step r b) (fine_step r b l f)

-- a literal's digits are in range
pub literal_digits : (s : List ℕ) → is_number s ≡ true → (literal s).digits < digits_limit
unfolding literal read_number
literal_digits s h = fine_below (fine_all s read_start (fine_start s h))

-- the places after the dot, by the state: none before it, and fewer than the digits
record Placed (q n : ℕ) (r : Read) : Type 0 where
  before : q < 3 → r.fraction ≡ none
  fewer : 2 ≤ q → q < 5 → or_zero r.fraction + 1 ≤ n

placed_none : (n : ℕ) (r : Read) → Placed 5 n r
placed_none n r = record { before = λ h. absurd (omega arith); fewer = λ h k. absurd (omega arith) }

placed_digit : (q n : ℕ) (r : Read) (c : ℕ) → Placed q n r → Placed (choose (ltb q 3) 2 (choose (ltb q 5) 4 5)) (n + 1) (read_digit r c)
unfolding read_digit one_more or_zero
placed_digit q n r c p = go (ltb q 3) refl (ltb q 5) refl
  where
    go : (t : Bool) → ltb q 3 ≡ t → (u : Bool) → ltb q 5 ≡ u → Placed (choose t 2 (choose u 4 5)) (n + 1) (read_digit r c)
    go true e u f =
        let z : r.fraction ≡ none = p.before (ltb-true q 3 e) in
        record { before = λ h. rw z; fewer = λ h k. rw z (omega arith) }
    go false e true f =
        let a : or_zero r.fraction + 1 ≤ n = p.fewer (omega (arith, ltb-false q 3 e)) (ltb-true q 5 f) in
        record { before = λ h. absurd (omega arith); fewer = λ h k. omega (arith, a, more_places r.fraction) }
    go false e false f = placed_none (n + 1) (read_digit r c)

placed_step : (q n : ℕ) (r : Read) (b : ℕ) → Placed q n r → Placed (number_step q b) (n + choose (digit b) 1 0) (read_step r b)
unfolding number_step read_step read_sign read_dot or_zero
placed_step q n r b p = go (digit b) refl (eqb b 45) refl (eqb b 46) refl
  where
    same : n + 0 ≡ n
    same = omega arith

    sign : (t : Bool) → eqb q 0 ≡ t → Placed (choose t 1 5) (n + 0) (read_sign r)
    sign true e = let z : q ≡ 0 = eqb-true q 0 e in record { before = λ h. p.before (omega arith); fewer = λ h k. absurd (omega arith) }
    sign false e = placed_none (n + 0) (read_sign r)

    dot : (t : Bool) → eqb q 2 ≡ t → Placed (choose t 3 5) (n + 0) (read_dot r)
    dot true e =
        let z : q ≡ 2 = eqb-true q 2 e in
        let a : or_zero r.fraction + 1 ≤ n = p.fewer (omega arith) (omega arith) in
        record { before = λ h. absurd (omega arith); fewer = λ h k. omega arith }
    dot false e = placed_none (n + 0) (read_dot r)

    go : (x : Bool) → digit b ≡ x → (y : Bool) → eqb b 45 ≡ y → (z : Bool) → eqb b 46 ≡ z → Placed (number_step q b) (n + choose (digit b) 1 0) (read_step r b)
    go true g true e z f = let d = digit_bounds b g in let w : b ≡ 45 = eqb-true b 45 e in absurd (omega arith)
    go true g false e true f = let d = digit_bounds b g in let w : b ≡ 46 = eqb-true b 46 f in absurd (omega arith)
    go true g false e false f = rw (g, e, f, read_step) (placed_digit q n r b p)
    go false g true e z f = rw (g, e, read_step) (sign (eqb q 0) refl)
    go false g false e true f = rw (g, e, f, read_step) (dot (eqb q 2) refl)
    go false g false e false f = rw (g, e, f, read_step) (placed_none (n + 0) (read_digit r b))

placed_all : (l : List ℕ) (q n : ℕ) (r : Read) → Placed q n r → Placed (run number_step q l) (n + digit_count l) (read_from l r)
unfolding run read_from digit_count
placed_all [] q n r p = let e : n + 0 ≡ n = omega arith in rw e p
placed_all (b ∷ l) q n r p =
    let e : n + choose (digit b) 1 0 + digit_count l ≡ n + (choose (digit b) 1 0 + digit_count l) = omega arith in
    rw e at (placed_all l (number_step q b) (n + choose (digit b) 1 0) (read_step r b) (placed_step q n r b p))

placed_start : Placed 0 0 read_start
unfolding read_start
placed_start = record { before = λ h. refl; fewer = λ h k. absurd (omega arith) }

ended : (q : ℕ) → (eqb q 2 || eqb q 4) ≡ true → (2 ≤ q) × (q < 5)
ended q = go (eqb q 2) refl (eqb q 4) refl
  where
    go : (x : Bool) → eqb q 2 ≡ x → (y : Bool) → eqb q 4 ≡ y → (x || y) ≡ true → (2 ≤ q) × (q < 5)
    go true e y f h = let z : q ≡ 2 = eqb-true q 2 e in (omega arith, omega arith)
    go false e true f h = let z : q ≡ 4 = eqb-true q 4 f in (omega arith, omega arith)
    go false e false f h = let y : ◌≡◌ {A = ℕ} 0 1 = cc in absurd (omega arith)

-- a literal has at least one digit before its dot: its scale, and its minimum, are at most 14
pub literal_scale : (s : List ℕ) → is_number s ≡ true → ((literal s).scale ≤ 14) × (or_zero (literal s).options.minimum_fraction_digits ≤ 14)
unfolding literal read_number with_fraction
literal_scale s h =
    let a = number_shape s h in
    let p : Placed (run number_step 0 s) (0 + digit_count s) (read_from s read_start) = placed_all s 0 0 read_start placed_start in
    let b = ended (run number_step 0 s) a.0 in
    let m : or_zero (read_from s read_start).fraction + 1 ≤ 0 + digit_count s = p.fewer b.0 b.1 in
    (omega arith, omega arith)
