-- What is found in a well-formed store is no longer than a resource image.
use mathlib.Core.Path.{◌≡◌, subst}
use mathlib.Core.List.{List, [], ◌∷◌, ◌++◌}
use mathlib.Core.Bool.{Bool, true, false}
use mathlib.Core.Option.{Option, none, some}
use Prim.Native.Nat.{ℕ, ◌+◌, ◌≤◌}
use native.Mathlib.Omega.{arith}
use lib.ListN.{length, length-append}
use Rattle.records.specs.Bytes.{to_be}
use Rattle.decimals.specs.Bytes.{same_bytes}
use Rattle.records.specs.Tree.{Pattern}
use Rattle.records.specs.Images.{Attribute, Entry, Item, max_image}
use Rattle.records.specs.Encode.{enc_str, enc_optional, enc_all, enc_counted, enc_whole, enc_pattern, enc_attribute, enc_entry, enc_resource}
use Rattle.records.specs.Valid.{All, ValidResource, ValidItem}
use Rattle.entries.specs.Lookup.{Holder, first_entry, last_entry, holder_after, find_from, find_in, part_of}
use Rattle.records.specs.Names.{first_named}
use Rattle.records.specs.Optional.{or_else, option_of}

-- what holds an id is no longer than an image
abbrev HolderFits : Option Holder → Type 0
HolderFits none = Unit {0}
HolderFits (some Holder.function) = Unit {0}
HolderFits (some (Holder.entry e)) = length (enc_entry e) ≤ max_image

or_fits : (a b : Option Holder) → HolderFits a → HolderFits b → HolderFits (or_else a b)
unfolding or_else
or_fits none b h k = k
or_fits (some x) b h k = h

named_fits : (c : Bool) (e : Entry) → length (enc_entry e) ≤ max_image → HolderFits (option_of c (Holder.entry e))
unfolding option_of
named_fits true e h = h
named_fits false e h = tt

first_fits : (i : List ℕ) (es : List Entry) → length (enc_all enc_entry es) ≤ max_image → HolderFits (first_entry i es)
unfolding first_entry enc_all
first_fits i [] h = tt
first_fits i (e ∷ es) h =
    let q = length-append (enc_entry e) (enc_all enc_entry es) in
    or_fits _ _ (named_fits _ e (omega (arith, q))) (first_fits i es (omega (arith, q)))

last_fits : (i : List ℕ) (es : List Entry) → length (enc_all enc_entry es) ≤ max_image → HolderFits (last_entry i es)
unfolding last_entry enc_all
last_fits i [] h = tt
last_fits i (e ∷ es) h =
    let q = length-append (enc_entry e) (enc_all enc_entry es) in
    or_fits _ _ (last_fits i es (omega (arith, q))) (named_fits _ e (omega (arith, q)))

entries_fit : (es : List Entry) → ValidResource es → length (enc_all enc_entry es) ≤ max_image
unfolding ValidResource enc_resource enc_whole enc_counted
entries_fit es h =
    let r : List ℕ = to_be 2 (length es) ++ enc_all enc_entry es in
    omega (arith, h.1, length-append (to_be 4 (4 + length (1 ∷ r))) (1 ∷ r), length-append (to_be 2 (length es)) (enc_all enc_entry es))

after_fits : (x : Item) → ValidItem x → (i : List ℕ) (o : Option Holder) → HolderFits o → HolderFits (holder_after x i o)
unfolding holder_after ValidItem option_of
after_fits (Item.plain es) v i o h = or_fits o _ h (first_fits i es (entries_fit es v))
after_fits (Item.overriding es) v i o h = or_fits _ o (last_fits i es (entries_fit es v)) h
after_fits (Item.function n) v i o h = or_fits o _ h (go (same_bytes n i))
  where
    go : (c : Bool) → HolderFits (option_of c Holder.function)
    go true = tt
    go false = tt

from_fits : (xs : List Item) → All ValidItem xs → (i : List ℕ) (o : Option Holder) → HolderFits o → HolderFits (find_from xs i o)
unfolding find_from
from_fits [] v i o h = h
from_fits (x ∷ xs) v i o h = from_fits xs v.1 i _ (after_fits x v.0 i o h)

-- an entry that is found is no longer than an image
pub entry_size : (xs : List Item) → All ValidItem xs → (i : List ℕ) (e : Entry) → find_in xs i ≡ some (Holder.entry e) → length (enc_entry e) ≤ max_image
unfolding find_in
entry_size xs v i e h = subst HolderFits h (from_fits xs v i none tt)

pub no_some : {A : Type 0} {a : A} → none ≡ some a → ⊥
no_some h = let z : ◌≡◌ {A = ℕ} 0 1 = cc in omega arith

attribute_size : (a : List ℕ) (l : List Attribute) (p : Pattern) → first_named a l ≡ some p → length (enc_pattern p) ≤ length (enc_all enc_attribute l)
unfolding first_named or_else option_of enc_all enc_attribute
attribute_size a [] p h = absurd (no_some h)
attribute_size a (x ∷ l) p h = go (same_bytes x.0 a) h (attribute_size a l p)
  where
    go : (c : Bool) → or_else (option_of c x.1) (first_named a l) ≡ some p
        → (first_named a l ≡ some p → length (enc_pattern p) ≤ length (enc_all enc_attribute l))
        → length (enc_pattern p) ≤ length (enc_all enc_attribute (x ∷ l))
    go true q ih =
        let e : x.1 ≡ p = cc in
        let n = length-append (enc_str x.0 ++ enc_pattern x.1) (enc_all enc_attribute l) in
        let o = length-append (enc_str x.0) (enc_pattern x.1) in
        subst (λ (y : Pattern). length (enc_pattern y) ≤ length (enc_all enc_attribute (x ∷ l))) e (omega (arith, n, o))
    go false q ih = omega (arith, ih q, length-append (enc_str x.0 ++ enc_pattern x.1) (enc_all enc_attribute l))

value_size : (o : Option Pattern) (p : Pattern) → o ≡ some p → length (enc_pattern p) ≤ length (enc_optional enc_pattern o)
unfolding enc_optional
value_size o p h = rw h (omega arith)

-- a part of an entry is no longer than the entry
pub part_size : (a : Option (List ℕ)) (e : Entry) (p : Pattern) → part_of a e ≡ some p → length (enc_pattern p) ≤ length (enc_entry e)
unfolding part_of enc_entry enc_counted
part_size none e p h =
    let v : List ℕ = enc_optional enc_pattern e.value in
    let l : List ℕ = to_be 2 (length e.attributes) ++ enc_all enc_attribute e.attributes in
    omega (arith, value_size e.value p h, length-append (enc_str e.id) (v ++ l), length-append v l)
part_size (some a) e p h =
    let v : List ℕ = enc_optional enc_pattern e.value in
    let l : List ℕ = enc_all enc_attribute e.attributes in
    let c : List ℕ = to_be 2 (length e.attributes) in
    omega (arith, attribute_size a e.attributes p h, length-append (enc_str e.id) (v ++ (c ++ l)), length-append v (c ++ l), length-append c l)
