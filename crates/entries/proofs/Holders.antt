-- Plain resources and functions, added behind the others, take no id from what holds it.
use mathlib.Core.Path.{◌≡◌, refl, ◌∙◌}
use mathlib.Core.List.{List, [], ◌∷◌, ◌++◌}
use mathlib.Core.Option.{Option, none, some}
use Prim.Native.Nat.{ℕ}
use Rattle.records.specs.Images.{Item}
use Rattle.entries.specs.Lookup.{Holder, Find, holder_after, find_from, find_in}
use Rattle.records.specs.Optional.{or_else}

-- every id that something holds in the one, the same holds in the other
abbrev pub Extends : Find → Find → Type 0
Extends find find' = (i : List ℕ) (h : Holder) → find i ≡ some h → find' i ≡ some h

-- an item that is no overriding resource
abbrev pub FirstWins : Item → Type 0
FirstWins (Item.plain es) = Unit {0}
FirstWins (Item.overriding es) = ⊥
FirstWins (Item.function n) = Unit {0}

abbrev pub AllFirstWins : List Item → Type 0
AllFirstWins [] = Unit {0}
AllFirstWins (x ∷ xs) = FirstWins x × AllFirstWins xs

-- what holds an id in two lists: what holds it after the first, then after the second
pub find_append : (xs ys : List Item) (i : List ℕ) (o : Option Holder) → find_from (xs ++ ys) i o ≡ find_from ys i (find_from xs i o)
unfolding find_from
find_append [] ys i o = refl
find_append (x ∷ xs) ys i o = find_append xs ys i (holder_after x i o)

holder_stays : (x : Item) → FirstWins x → (i : List ℕ) (h : Holder) → holder_after x i (some h) ≡ some h
unfolding holder_after or_else
holder_stays (Item.plain es) p i h = refl
holder_stays (Item.overriding es) p i h = absurd p
holder_stays (Item.function n) p i h = refl

holder_stays_all : (ys : List Item) → AllFirstWins ys → (i : List ℕ) (h : Holder) → find_from ys i (some h) ≡ some h
unfolding find_from
holder_stays_all [] p i h = refl
holder_stays_all (y ∷ ys) p i h = rw (holder_stays y p.0 i h) (holder_stays_all ys p.1 i h)

-- more items behind, none overriding: each id that has a holder keeps it
pub extends : (xs ys : List Item) → AllFirstWins ys → Extends (find_in xs) (find_in (xs ++ ys))
unfolding find_in
extends xs ys p i h e = find_append xs ys i none ∙ rw e (holder_stays_all ys p i h)
