-- Bytes as lists of numbers, and the tests on them.
use Rattle.std.specs.Prelude.{ℕ, List, [], ◌∷◌, Bool, true, false, ◌&&◌, leb, eqb}

-- "equal bytes"
unfoldable pub same_bytes : List ℕ → List ℕ → Bool
same_bytes [] [] = true
same_bytes [] (y ∷ ys) = false
same_bytes (x ∷ xs) [] = false
same_bytes (x ∷ xs) (y ∷ ys) = eqb x y && same_bytes xs ys

-- an automaton over bytes: its state after each byte, from a state on
unfoldable pub run : (ℕ → ℕ → ℕ) → ℕ → List ℕ → ℕ
run f q [] = q
run f q (b ∷ bs) = run f (f q b) bs

-- a choice by a test: of numbers, and of anything
abbrev pub choose : Bool → ℕ → ℕ → ℕ
choose true a b = a
choose false a b = b

abbrev pub given : {A : Type 0} → Bool → A → A → A
given true a b = a
given false a b = b

abbrev pub within : ℕ → ℕ → ℕ → Bool
within lo hi b = leb lo b && leb b hi

-- "digits": `0` (48) to `9` (57) in ASCII
unfoldable pub digit : ℕ → Bool
digit b = within 48 57 b
