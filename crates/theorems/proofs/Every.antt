-- What holds of every member of a list, and of every pattern of a bundle's items, holds of what is found there.
use mathlib.Core.Path.{◌≡◌, subst}
use mathlib.Core.List.{List, [], ◌∷◌, ◌++◌}
use mathlib.Core.Bool.{Bool, true, false}
use mathlib.Core.Option.{Option, none, some}
use Prim.Native.Nat.{ℕ}
use Rattle.decimals.specs.Bytes.{same_bytes}
use Rattle.records.specs.Tree.{Pattern}
use Rattle.records.specs.Images.{Attribute, Entry, Item}
use Rattle.records.specs.Valid.{All, IfAny}
use Rattle.entries.specs.Lookup.{Holder, first_entry, last_entry, holder_after, find_from, find_in, part_of}
use Rattle.records.specs.Names.{first_named}
use Rattle.records.specs.Optional.{or_else, option_of}
use Rattle.theorems.specs.Leaves.{InEntry, InItem}

pub all_left : {A : Type 0} (Ok : A → Type 0) (a b : List A) → All Ok (a ++ b) → All Ok a
all_left Ok [] b h = tt
all_left Ok (x ∷ a) b h = (h.0, all_left Ok a b h.1)

pub all_right : {A : Type 0} (Ok : A → Type 0) (a b : List A) → All Ok (a ++ b) → All Ok b
all_right Ok [] b h = h
all_right Ok (x ∷ a) b h = all_right Ok a b h.1

pub all_append : {A : Type 0} (Ok : A → Type 0) (a b : List A) → All Ok a → All Ok b → All Ok (a ++ b)
all_append Ok [] b h k = k
all_append Ok (x ∷ a) b h k = (h.0, all_append Ok a b h.1 k)

pub all_map : {A : Type 0} (Ok Ok' : A → Type 0) → ((a : A) → Ok a → Ok' a) → (l : List A) → All Ok l → All Ok' l
all_map Ok Ok' f [] h = tt
all_map Ok Ok' f (x ∷ l) h = (f x h.0, all_map Ok Ok' f l h.1)

pub all_both : {A : Type 0} (Ok Ok' Both : A → Type 0) → ((a : A) → Ok a → Ok' a → Both a) → (l : List A) → All Ok l → All Ok' l → All Both l
all_both Ok Ok' Both f [] h k = tt
all_both Ok Ok' Both f (x ∷ l) h k = (f x h.0 k.0, all_both Ok Ok' Both f l h.1 k.1)

pub either_any : {A : Type 0} (Ok : A → Type 0) (o p : Option A) → IfAny Ok o → IfAny Ok p → IfAny Ok (or_else o p)
unfolding or_else
either_any Ok none p h k = k
either_any Ok (some a) p h k = h

only_any : {A : Type 0} (Ok : A → Type 0) (b : Bool) (a : A) → Ok a → IfAny Ok (option_of b a)
unfolding option_of
only_any Ok true a h = h
only_any Ok false a h = tt

module _ (G : Pattern → Type 0) where
  abbrev pub InHolder : Holder → Type 0
  InHolder (Holder.entry e) = InEntry G e
  InHolder Holder.function = Unit {0}

  in_first : (i : List ℕ) (es : List Entry) → All (InEntry G) es → IfAny InHolder (first_entry i es)
  unfolding first_entry
  in_first i [] h = tt
  in_first i (e ∷ es) h = either_any InHolder _ _ (only_any InHolder (same_bytes e.id i) (Holder.entry e) h.0) (in_first i es h.1)

  in_last : (i : List ℕ) (es : List Entry) → All (InEntry G) es → IfAny InHolder (last_entry i es)
  unfolding last_entry
  in_last i [] h = tt
  in_last i (e ∷ es) h = either_any InHolder _ _ (in_last i es h.1) (only_any InHolder (same_bytes e.id i) (Holder.entry e) h.0)

  in_after : (x : Item) → InItem G x → (i : List ℕ) (o : Option Holder) → IfAny InHolder o → IfAny InHolder (holder_after x i o)
  unfolding holder_after
  in_after (Item.plain es) h i o k = either_any InHolder o _ k (in_first i es h)
  in_after (Item.overriding es) h i o k = either_any InHolder _ o (in_last i es h) k
  in_after (Item.function n) h i o k = either_any InHolder o _ k (only_any InHolder (same_bytes n i) Holder.function tt)

  in_from : (xs : List Item) → All (InItem G) xs → (i : List ℕ) (o : Option Holder) → IfAny InHolder o → IfAny InHolder (find_from xs i o)
  unfolding find_from
  in_from [] h i o k = k
  in_from (x ∷ xs) h i o k = in_from xs h.1 i (holder_after x i o) (in_after x h.0 i o k)

  -- what holds of every pattern of the items holds of those of the entry that an id has
  pub in_found : (xs : List Item) → All (InItem G) xs → (i : List ℕ) (e : Entry) → find_in xs i ≡ some (Holder.entry e) → InEntry G e
  unfolding find_in
  in_found xs h i e q = subst (IfAny InHolder) q (in_from xs h i none tt)

  in_attribute : (a : List ℕ) (l : List Attribute) → All (λ (x : Attribute). G x.1) l → IfAny G (first_named a l)
  unfolding first_named
  in_attribute a [] h = tt
  in_attribute a (x ∷ l) h = either_any G _ _ (only_any G (same_bytes x.0 a) x.1 h.0) (in_attribute a l h.1)

  in_any : (a : Option (List ℕ)) (e : Entry) → InEntry G e → IfAny G (part_of a e)
  unfolding part_of
  in_any none e h = h.0
  in_any (some a) e h = in_attribute a e.attributes h.1

  -- and so of the part that a reference names
  pub in_part : (a : Option (List ℕ)) (e : Entry) (p : Pattern) → InEntry G e → part_of a e ≡ some p → G p
  in_part a e p h q = subst (IfAny G) q (in_any a e h)

-- what follows of each pattern follows of all patterns of the items
module _ (G H K : Pattern → Type 0) (f : (p : Pattern) → G p → H p → K p) where
  any_both : (o : Option Pattern) → IfAny G o → IfAny H o → IfAny K o
  any_both none h k = tt
  any_both (some p) h k = f p h k

  entry_both : (e : Entry) → InEntry G e → InEntry H e → InEntry K e
  entry_both e h k = (
    any_both e.value h.0 k.0,
    all_both (λ (a : Attribute). G a.1) (λ (a : Attribute). H a.1) (λ (a : Attribute). K a.1) (λ a x y. f a.1 x y) e.attributes h.1 k.1,
  )

  item_both : (x : Item) → InItem G x → InItem H x → InItem K x
  item_both (Item.plain es) h k = all_both (InEntry G) (InEntry H) (InEntry K) entry_both es h k
  item_both (Item.overriding es) h k = all_both (InEntry G) (InEntry H) (InEntry K) entry_both es h k
  item_both (Item.function i) h k = tt

  pub items_both : (xs : List Item) → All (InItem G) xs → All (InItem H) xs → All (InItem K) xs
  items_both xs h k = all_both (InItem G) (InItem H) (InItem K) item_both xs h k

pub items_map : (G K : Pattern → Type 0) → ((p : Pattern) → G p → K p) → (xs : List Item) → All (InItem G) xs → All (InItem K) xs
items_map G K f xs h = items_both G G K (λ p x y. f p x) xs h h
