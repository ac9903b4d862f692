-- A refusal's number is no 0, and a byte.
use mathlib.Core.Path.{◌≡◌, refl, subst}
use mathlib.Core.Bool.{Bool, true, false}
use mathlib.Core.List.{List, [], ◌∷◌}
use Prim.Native.Nat.{ℕ, ◌<◌}
use lib.Dec.{eqb, ltb}
use borrow.Author.Tests.{eqb-true, ltb-true}
use Rattle.std.specs.Prelude.{Option, Some, cond}
use Rattle.std.specs.List.{find}
use Rattle.refusals.specs.declared.Refusal.{Refusal}
use Rattle.refusals.specs.declared.Refusal.TheVariants as refusal
use Rattle.refusals.specs.Numbers.{number_of, refusals, numbered}

above : (r : Refusal) → ltb 0 (number_of r) ≡ true
unfolding number_of
above refusal.ShortSlice = refl
above refusal.NoLocale = refl
above refusal.NoFlag = refl
above refusal.MalformedStore = refl
above refusal.MalformedResource = refl
above refusal.FullStore = refl
above refusal.ShortList = refl
above refusal.NoId = refl
above refusal.NoCode = refl
above refusal.HeldId = refl
above refusal.NoMessage = refl
above refusal.NoPattern = refl
above refusal.MalformedArguments = refl
above refusal.ShortText = refl
above refusal.ShortWorkspace = refl
above refusal.ManyDigits = refl
above refusal.MalformedSheet = refl
above refusal.UnorderedArguments = refl

pub positive : (r : Refusal) → 0 < number_of r
positive r = ltb-true 0 (number_of r) (above r)

below : (r : Refusal) → ltb (number_of r) 256 ≡ true
unfolding number_of
below refusal.ShortSlice = refl
below refusal.NoLocale = refl
below refusal.NoFlag = refl
below refusal.MalformedStore = refl
below refusal.MalformedResource = refl
below refusal.FullStore = refl
below refusal.ShortList = refl
below refusal.NoId = refl
below refusal.NoCode = refl
below refusal.HeldId = refl
below refusal.NoMessage = refl
below refusal.NoPattern = refl
below refusal.MalformedArguments = refl
below refusal.ShortText = refl
below refusal.ShortWorkspace = refl
below refusal.ManyDigits = refl
below refusal.MalformedSheet = refl
below refusal.UnorderedArguments = refl

pub in_byte : (r : Refusal) → number_of r < 256
in_byte r = ltb-true (number_of r) 256 (below r)

found_first : (n : ℕ) (x : Refusal) {r : Refusal} (o : Option Refusal) (b : Bool) → eqb (number_of x) n ≡ b → (o ≡ Some r → number_of r ≡ n) → cond b (Some x) o ≡ Some r → number_of r ≡ n
found_first n x {r} o true t k h = let q : x ≡ r = cc in subst (λ (y : Refusal). number_of y ≡ n) q (eqb-true (number_of x) n t)
found_first n x o false t k h = k h

found : (n : ℕ) (l : List Refusal) {r : Refusal} → find (λ x. eqb (number_of x) n) l ≡ Some r → number_of r ≡ n
found n [] e = cc
found n (x ∷ l) e = found_first n x (find (λ y. eqb (number_of y) n) l) (eqb (number_of x) n) refl (found n l) e

-- the refusal of a number has it
pub numbered_some : (n : ℕ) {r : Refusal} → numbered n ≡ Some r → number_of r ≡ n
unfolding numbered
numbered_some n e = found n refusals e

-- and each refusal is found by its number
pub number_numbered : (r : Refusal) → numbered (number_of r) ≡ Some r
unfolding numbered refusals number_of
number_numbered refusal.ShortSlice = refl
number_numbered refusal.NoLocale = refl
number_numbered refusal.NoFlag = refl
number_numbered refusal.MalformedStore = refl
number_numbered refusal.MalformedResource = refl
number_numbered refusal.FullStore = refl
number_numbered refusal.ShortList = refl
number_numbered refusal.NoId = refl
number_numbered refusal.NoCode = refl
number_numbered refusal.HeldId = refl
number_numbered refusal.NoMessage = refl
number_numbered refusal.NoPattern = refl
number_numbered refusal.MalformedArguments = refl
number_numbered refusal.ShortText = refl
number_numbered refusal.ShortWorkspace = refl
number_numbered refusal.ManyDigits = refl
number_numbered refusal.MalformedSheet = refl
number_numbered refusal.UnorderedArguments = refl
