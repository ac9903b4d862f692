-- `is_number` tells the number literals of document 01's words (specs/Spelling.antt), and no other text: `spelt` and `is_spelt`.
use mathlib.Core.Path.{◌≡◌, refl, ap, ◌∙◌}
use mathlib.Core.Bool.{Bool, true, false, ◌&&◌, ◌||◌}
use mathlib.Core.Option.{Option, none, some}
use mathlib.Core.List.{List, [], ◌∷◌, ◌++◌}
use Prim.Native.Nat.{ℕ, ◌+◌, ◌≤◌}
use native.Mathlib.Omega.{arith}
use lib.ListN.{length}
use lib.Dec.{eqb, ltb}
use borrow.Author.Tests.{eqb-true, le-leb}
use Rattle.decimals.specs.Bytes.{run, choose, digit}
use Rattle.literals.specs.Literal.{number_step, digit_count, is_number}
use Rattle.literals.specs.Spelling.{all_digits, Digits, minus, dotted, Dotted, places, Spelt}
use Rattle.decimals.proofs.Tests.{and_true}
use Rattle.decimals.proofs.Run.{run_append}
use Rattle.literals.proofs.Reading.{number_shape, stuck_all}

-- the states in which a literal may end
abbrev ended : ℕ → Bool
ended q = eqb q 2 || eqb q 4

never : ◌≡◌ {A = Bool} false true → ⊥
never e = let y : ◌≡◌ {A = ℕ} 0 1 = cc in omega arith

-- the state past a digit
abbrev on_digit : ℕ → ℕ
on_digit q = choose (ltb q 3) 2 (choose (ltb q 5) 4 5)

step_digit : (q b : ℕ) → digit b ≡ true → number_step q b ≡ on_digit q
unfolding number_step
step_digit q b h = rw h

count_append : (a b : List ℕ) → digit_count (a ++ b) ≡ digit_count a + digit_count b
unfolding digit_count
count_append [] b = omega arith
count_append (x ∷ a) b = omega (arith, count_append a b)

count_digits : (l : List ℕ) → all_digits l ≡ true → digit_count l ≡ length l
unfolding digit_count all_digits
count_digits [] h = refl
count_digits (b ∷ l) h = let a = and_true (digit b) (all_digits l) h in rw a.0 (omega (arith, count_digits l a.1))

-- digits keep the state, and at least one brings to it
stays : (q : ℕ) → on_digit q ≡ q → (l : List ℕ) → all_digits l ≡ true → run number_step q l ≡ q
unfolding run all_digits
stays q e [] h = refl
stays q e (b ∷ l) h = let a = and_true (digit b) (all_digits l) h in rw (step_digit q b a.0, e) (stays q e l a.1)

brings : (q r : ℕ) → on_digit q ≡ r → on_digit r ≡ r → (l : List ℕ) → Digits l → run number_step q l ≡ r
unfolding run all_digits
brings q r e f [] h = absurd (omega (arith, h.one))
brings q r e f (b ∷ l) h = let a = and_true (digit b) (all_digits l) h.each in rw (step_digit q b a.0, e) (stays r f l a.1)

zeroed : (k : ℕ) → 0 + k ≡ k
zeroed k = omega arith

count_sign : (n : Bool) → digit_count (minus n) ≡ 0
unfolding digit_count minus digit
count_sign true = refl
count_sign false = refl

count_dotted : (f : Option (List ℕ)) → Dotted f → digit_count (dotted f) ≡ places f
unfolding digit_count dotted Dotted places digit
count_dotted none d = refl
count_dotted (some l) d = zeroed (digit_count l) ∙ count_digits l d.each

-- the digits of a literal's parts
count_parts : (n : Bool) (w : List ℕ) (f : Option (List ℕ)) → all_digits w ≡ true → Dotted f → digit_count (minus n ++ (w ++ dotted f)) ≡ length w + places f
count_parts n w f h d = omega (arith, count_append (minus n) (w ++ dotted f), count_sign n, count_append w (dotted f), count_digits w h, count_dotted f d)

from_sign : (n : Bool) (w : List ℕ) → Digits w → run number_step (run number_step 0 (minus n)) w ≡ 2
unfolding run minus number_step digit
from_sign true w h = brings 1 2 refl refl w h
from_sign false w h = brings 0 2 refl refl w h

from_dot : (f : Option (List ℕ)) → Dotted f → ended (run number_step 2 (dotted f)) ≡ true
unfolding run dotted Dotted number_step digit
from_dot none d = refl
from_dot (some l) d = ap ended (brings 3 4 refl refl l d)

both : (a b : Bool) → a ≡ true → b ≡ true → a && b ≡ true
both a b e f = rw (e, f)

parts : (n : Bool) (w : List ℕ) (f : Option (List ℕ)) → Digits w → Dotted f → length w + places f ≤ 15 → is_number (minus n ++ (w ++ dotted f)) ≡ true
unfolding is_number
parts n w f h d k =
    let shape : run number_step 0 (minus n ++ (w ++ dotted f)) ≡ run number_step 2 (dotted f) =
    run_append number_step 0 (minus n) (w ++ dotted f)
    ∙ run_append number_step (run number_step 0 (minus n)) w (dotted f)
    ∙ ap (λ (q : ℕ). run number_step q (dotted f)) (from_sign n w h) in
    let few : digit_count (minus n ++ (w ++ dotted f)) ≤ 15 = omega (arith, count_parts n w f h.each d, k) in
    both _ _ (ap ended shape ∙ from_dot f d) (le-leb _ 15 few)

-- each text that document 01 calls a number literal is told
pub is_spelt : {t : List ℕ} → Spelt t → is_number t ≡ true
is_spelt s = ap is_number s.text ∙ parts s.negative s.whole s.fraction s.before s.after s.few

step_other : (q b : ℕ) → digit b ≡ false → number_step q b ≡ choose (eqb b 45) (choose (eqb q 0) 1 5) (choose (eqb b 46) (choose (eqb q 2) 3 5) 5)
unfolding number_step
step_other q b h = rw h

fives : (x y : Bool) → choose x 5 (choose y 5 5) ≡ 5
fives true y = refl
fives false true = refl
fives false false = refl

refused : (l : List ℕ) → ended (run number_step 5 l) ≡ true → ⊥
refused l h = never (rw (stuck_all l) at h)

in_fraction : (l : List ℕ) → ended (run number_step 4 l) ≡ true → all_digits l ≡ true
unfolding run all_digits
in_fraction [] h = refl
in_fraction (b ∷ l) h = go (λ k. in_fraction l k) (digit b) refl
  where
    go : (ended (run number_step 4 l) ≡ true → all_digits l ≡ true) → (x : Bool) → digit b ≡ x → x && all_digits l ≡ true
    go rest true e = rest (rw (step_digit 4 b e) at h)
    go rest false e = absurd (refused l (rw (step_other 4 b e ∙ fives (eqb b 45) (eqb b 46)) at h))

after_dot : (l : List ℕ) → ended (run number_step 3 l) ≡ true → Digits l
unfolding run all_digits
after_dot [] h = absurd (never h)
after_dot (b ∷ l) h = go (digit b) refl
  where
    go : (x : Bool) → digit b ≡ x → Digits (b ∷ l)
    go true e = record { each = both _ _ e (in_fraction l (rw (step_digit 3 b e) at h)); one = omega arith }
    go false e = absurd (refused l (rw (step_other 3 b e ∙ fives (eqb b 45) (eqb b 46)) at h))

-- a literal past its sign: from its first digit on, or from a later byte of the whole part
record Unsigned (l : List ℕ) : Type 0 where
  whole : List ℕ
  fraction : Option (List ℕ)
  text : l ≡ whole ++ dotted fraction
  before : all_digits whole ≡ true
  after : Dotted fraction

longer : (b : ℕ) (l : List ℕ) → digit b ≡ true → Unsigned l → Unsigned (b ∷ l)
unfolding all_digits
longer b l e u = record { whole = b ∷ u.whole; fraction = u.fraction; text = ap (λ (k : List ℕ). b ∷ k) u.text; before = both _ _ e u.before; after = u.after }

in_whole : (l : List ℕ) → ended (run number_step 2 l) ≡ true → Unsigned l
unfolding run all_digits dotted Dotted
in_whole [] h = record { whole = []; fraction = none; text = refl; before = refl; after = tt }
in_whole (b ∷ l) h = go (λ k. in_whole l k) (digit b) refl (eqb b 45) refl (eqb b 46) refl
  where
    go : (ended (run number_step 2 l) ≡ true → Unsigned l) → (x : Bool) → digit b ≡ x → (y : Bool) → eqb b 45 ≡ y → (z : Bool) → eqb b 46 ≡ z → Unsigned (b ∷ l)
    go rest true e y f z g = longer b l e (rest (rw (step_digit 2 b e) at h))
    go rest false e true f z g = absurd (refused l (rw (step_other 2 b e, f) at h))
    go rest false e false f true g = record { whole = []; fraction = some l; text = ap (λ (k : ℕ). k ∷ l) (eqb-true b 46 g); before = refl; after = after_dot l (rw (step_other 2 b e, f, g) at h) }
    go rest false e false f false g = absurd (refused l (rw (step_other 2 b e, f, g) at h))

-- a sign, and a literal that begins with a digit
finish : (n : Bool) (b : ℕ) (l : List ℕ) → digit b ≡ true → ended (run number_step 2 l) ≡ true → digit_count (minus n ++ (b ∷ l)) ≤ 15 → Spelt (minus n ++ (b ∷ l))
unfolding longer
finish n b l e h k =
    let u = longer b l e (in_whole l h) in
    let c = ap (λ (r : List ℕ). digit_count (minus n ++ r)) u.text ∙ count_parts n u.whole u.fraction u.before u.after in
    record { negative = n; whole = u.whole; fraction = u.fraction; text = ap (λ (r : List ℕ). minus n ++ r) u.text; before = record { each = u.before; one = omega arith }; after = u.after; few = omega (arith, c, k) }

after_sign : (l : List ℕ) → ended (run number_step 1 l) ≡ true → digit_count (45 ∷ l) ≤ 15 → Spelt (45 ∷ l)
unfolding run minus
after_sign [] h k = absurd (never h)
after_sign (b ∷ l) h k = go (digit b) refl
  where
    go : (x : Bool) → digit b ≡ x → Spelt (45 ∷ b ∷ l)
    go true e = finish true b l e (rw (step_digit 1 b e) at h) k
    go false e = absurd (refused l (rw (step_other 1 b e ∙ fives (eqb b 45) (eqb b 46)) at h))

from_start : (t : List ℕ) → ended (run number_step 0 t) ≡ true → digit_count t ≤ 15 → Spelt t
unfolding run minus
from_start [] h k = absurd (never h)
from_start (b ∷ l) h k = go (digit b) refl (eqb b 45) refl (eqb b 46) refl
  where
    go : (x : Bool) → digit b ≡ x → (y : Bool) → eqb b 45 ≡ y → (z : Bool) → eqb b 46 ≡ z → Spelt (b ∷ l)
    go true e y f z g = finish false b l e (rw (step_digit 0 b e) at h) k
    go false e true f z g =
        let m : b ≡ 45 = eqb-true b 45 f in
        rw m (after_sign l (rw (step_other 0 b e, f) at h) (rw m at k))
    go false e false f true g = absurd (refused l (rw (step_other 0 b e, f, g) at h))
    go false e false f false g = absurd (refused l (rw (step_other 0 b e, f, g) at h))

-- and no other text is
pub spelt : (t : List ℕ) → is_number t ≡ true → Spelt t
spelt t h = let a = number_shape t h in from_start t a.0 a.1
