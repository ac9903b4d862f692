-- Laws of well-formed UTF-8: table 3-7, row by row.
use mathlib.Core.Path.{◌≡◌, refl, ap, ◌∙◌}
use mathlib.Core.Bool.{Bool, true, false}
use mathlib.Core.List.{List, ◌∷◌}
use Prim.Native.Nat.{ℕ, ◌≤◌, ◌<◌}
use native.Mathlib.Omega.{arith}
use lib.Dec.{ltb}
use borrow.Author.Tests.{lt-ltb, le-ltb, ne_eqb}
use Rattle.decimals.specs.Bytes.{run, choose}
use Rattle.rules.specs.Rules.{utf8_first, utf8_low, utf8_high, utf8_rest, utf8_step}

-- once ill-formed, always so
pub utf8_stays : (b : ℕ) → utf8_step 8 b ≡ 8
unfolding utf8_step utf8_low utf8_high utf8_rest
utf8_stays b = go (ltb b 0x80) (ltb 0xBF b)
  where
    go : (i j : Bool) → choose i 8 (choose j 8 8) ≡ 8
    go true j = refl
    go false true = refl
    go false false = refl

-- the first byte of a scalar
pub first_2 : (b : ℕ) → 0xC2 ≤ b → b < 0xE0 → utf8_first b ≡ 1
unfolding utf8_first
first_2 b h k = rw (le-ltb b 0x80 (omega arith), le-ltb b 0xC2 h, lt-ltb b 0xE0 k)

pub first_3 : (b : ℕ) → 0xE0 < b → b < 0xF0 → (b ≡ 0xED → ⊥) → utf8_first b ≡ 2
unfolding utf8_first
first_3 b h k n =
    let m : b ≡ 0xE0 → ⊥ = λ e. omega arith in
    rw (le-ltb b 0x80 (omega arith), le-ltb b 0xC2 (omega arith), le-ltb b 0xE0 (omega arith), ne_eqb b 0xE0 m, ne_eqb b 0xED n, lt-ltb b 0xF0 k)

pub first_4 : (b : ℕ) → 0xF0 < b → b < 0xF4 → utf8_first b ≡ 3
unfolding utf8_first
first_4 b h k =
    let m : b ≡ 0xE0 → ⊥ = λ e. omega arith in
    let n : b ≡ 0xED → ⊥ = λ e. omega arith in
    let o : b ≡ 0xF0 → ⊥ = λ e. omega arith in
    rw (le-ltb b 0x80 (omega arith), le-ltb b 0xC2 (omega arith), le-ltb b 0xE0 (omega arith), ne_eqb b 0xE0 m, ne_eqb b 0xED n, le-ltb b 0xF0 (omega arith), ne_eqb b 0xF0 o, lt-ltb b 0xF4 k)

-- no byte above F4 begins a scalar
pub first_above : (b : ℕ) → 0xF4 < b → utf8_first b ≡ 8
unfolding utf8_first
first_above b h =
    rw (
      le-ltb b 0x80 (omega arith),
      le-ltb b 0xC2 (omega arith),
      le-ltb b 0xE0 (omega arith),
      ne_eqb b 0xE0 (λ e. omega arith),
      ne_eqb b 0xED (λ e. omega arith),
      le-ltb b 0xF0 (omega arith),
      ne_eqb b 0xF0 (λ e. omega arith),
      le-ltb b 0xF4 (omega arith),
      ne_eqb b 0xF4 (λ e. omega arith),
    )

-- a later byte, and what it has to lie in
abbrev pub ranged : ℕ → ℕ → ℕ → ℕ → ℕ
ranged lo hi r b = choose (ltb b lo) 8 (choose (ltb hi b) 8 r)

pub in_range_law : (lo hi r b : ℕ) → lo ≤ b → b ≤ hi → ranged lo hi r b ≡ r
in_range_law lo hi r b h k = rw (le-ltb b lo h, le-ltb hi b k)

-- in state q a byte from lo to hi leads to r, and any other to the end
pub record Later (q lo hi r : ℕ) : Type 0 where
  pub goes : (b : ℕ) → utf8_step q b ≡ ranged lo hi r b

-- Table 3-7: the later bytes by state, and the first bytes that stand alone
pub record Table : Type 0 where
  pub one : Later 1 0x80 0xBF 0
  pub two : Later 2 0x80 0xBF 1
  pub three : Later 3 0x80 0xBF 2
  pub after_E0 : Later 4 0xA0 0xBF 1
  pub after_ED : Later 5 0x80 0x9F 1
  pub after_F0 : Later 6 0x90 0xBF 2
  pub after_F4 : Later 7 0x80 0x8F 2
  pub E0 : utf8_first 0xE0 ≡ 4
  pub ED : utf8_first 0xED ≡ 5
  pub F0 : utf8_first 0xF0 ≡ 6
  pub F4 : utf8_first 0xF4 ≡ 7

pub table : Table
unfolding utf8_first utf8_step utf8_low utf8_high utf8_rest
table = record {
  one = record { goes = λ b. refl };
  two = record { goes = λ b. refl };
  three = record { goes = λ b. refl };
  after_E0 = record { goes = λ b. refl };
  after_ED = record { goes = λ b. refl };
  after_F0 = record { goes = λ b. refl };
  after_F4 = record { goes = λ b. refl };
  E0 = refl;
  ED = refl;
  F0 = refl;
  F4 = refl;
}

pub at_first : (b : ℕ) → utf8_step 0 b ≡ utf8_first b
unfolding utf8_step
at_first b = refl

pub first_1 : (b : ℕ) → b < 0x80 → utf8_first b ≡ 0
unfolding utf8_first
first_1 b h = rw (lt-ltb b 0x80 h)

-- bytes that begin nothing
pub first_between : (b : ℕ) → 0x80 ≤ b → b < 0xC2 → utf8_first b ≡ 8
unfolding utf8_first
first_between b h k = rw (le-ltb b 0x80 h, lt-ltb b 0xC2 k)

-- Steps of the automaton
pub run_first : {q : ℕ} (b : ℕ) (t : List ℕ) → utf8_first b ≡ q → run utf8_step 0 (b ∷ t) ≡ run utf8_step q t
unfolding run
run_first b t h = ap (λ (j : ℕ). run utf8_step j t) (at_first b ∙ h)

pub run_later : {q lo hi r : ℕ} → Later q lo hi r → (b : ℕ) (t : List ℕ) → lo ≤ b → b ≤ hi → run utf8_step q (b ∷ t) ≡ run utf8_step r t
unfolding run
run_later {q} {lo} {hi} {r} l b t h k = ap (λ (j : ℕ). run utf8_step j t) (l.goes b ∙ in_range_law lo hi r b h k)
