-- Laws of the first of a name, and of values that may be there.
use mathlib.Core.Path.{◌≡◌, refl}
use mathlib.Core.Bool.{true, false}
use mathlib.Core.List.{List, ◌∷◌}
use mathlib.Core.Option.{Option, some, none}
use Prim.Native.Nat.{ℕ}
use Rattle.decimals.specs.Bytes.{same_bytes}
use Rattle.records.specs.Optional.{option_of, or_else}
use Rattle.records.specs.Names.{first_named}

pub or_none : {A : Type 0} (o : Option A) → or_else o none ≡ o
unfolding or_else
or_none none = refl
or_none (some a) = refl

-- of things with a name
module _ {A : Type 0} (i : List ℕ) where
  pub named_here : (x : List ℕ × A) (l : List (List ℕ × A)) → same_bytes x.0 i ≡ true → first_named i (x ∷ l) ≡ some x.1
  unfolding first_named or_else option_of
  named_here x l h = rw h

  pub named_past : (x : List ℕ × A) (l : List (List ℕ × A)) → same_bytes x.0 i ≡ false → first_named i (x ∷ l) ≡ first_named i l
  unfolding first_named or_else option_of
  named_past x l h = rw h
