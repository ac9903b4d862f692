-- The slice that an addition leaves is the store with one item more.
use mathlib.Core.Path.{◌≡◌, refl, ap, sym, subst, ◌∙◌}
use mathlib.Core.List.{List, [], ◌∷◌, ◌++◌, append_assoc, append-nil}
use mathlib.Core.Bool.{Bool, true, false}
use Prim.Native.Nat.{ℕ, ◌+◌, ◌-◌, ◌≤◌, ◌<◌}
use native.Mathlib.Omega.{arith}
use lib.ListN.{length, take, drop, length-append, length-drop, take-append-drop}
use lib.Seq.{length-take-le, take-length, take_at, drop_at}
use Rattle.records.specs.Got.{got}
use Rattle.records.specs.Bytes.{part, to_be}
use Rattle.records.specs.Images.{Item, Store, max_store, max_items, store_of}
use Rattle.records.specs.Encode.{enc_flag, enc_all, enc_counted, enc_whole, enc_item, enc_store}
use Rattle.records.specs.Valid.{All, ValidItem, ValidStore}
use Rattle.layout.specs.Exact.{Octets}
use Rattle.layout.proofs.Stands.{octets_part}
use Rattle.layout.proofs.Numbers.{length_to_be}
use Rattle.layout.proofs.Octets.{octets_append}
use Rattle.layout.proofs.Theorems.{store_sound, store_complete, store_octets}
use Rattle.growth.specs.Items.{at_front, with_item, has_room}
use Rattle.growth.proofs.Items.{room_is}
use Rattle.bundle.specs.Growth.{with_more, Grown}

all_append : {A : Type 0} (Ok : A → Type 0) (l k : List A) → All Ok l → All Ok k → All Ok (l ++ k)
all_append Ok [] k h g = g
all_append Ok (a ∷ l) k h g = (h.0, all_append Ok l k h.1 g)

enc_append : {A : Type 0} (f : A → List ℕ) (l k : List A) → enc_all f (l ++ k) ≡ enc_all f l ++ enc_all f k
unfolding enc_all
enc_append f [] k = refl
enc_append f (a ∷ l) k = rw (enc_append f l k) (sym (append_assoc (f a) (enc_all f l) (enc_all f k)))

enc_one : {A : Type 0} (f : A → List ℕ) (a : A) → enc_all f (a ∷ []) ≡ f a
unfolding enc_all
enc_one f a = append-nil (f a)

flag_length : (b : Bool) → length (enc_flag b) ≡ 1
unfolding enc_flag
flag_length true = refl
flag_length false = refl

-- version, locale and isolating Flag
abbrev front : Store → List ℕ
front v = 1 ∷ v.locale ∷ enc_flag v.isolating

front_length : (v : Store) → length (front v) ≡ 3
front_length v = omega (arith, flag_length v.isolating)

-- a store's bytes: used length, the three bytes that stay, item count, items
store_shape : (v : Store)
    → enc_store v ≡ to_be 4 (9 + length (enc_all enc_item v.items)) ++ (front v ++ (to_be 2 (length v.items) ++ enc_all enc_item v.items))
unfolding enc_store enc_whole enc_counted
store_shape v =
    let n : ℕ = length v.items in
    let e : List ℕ = enc_all enc_item v.items in
    let q : 4 + length (front v ++ (to_be 2 n ++ e)) ≡ 9 + length e = omega (arith, length-append (front v) (to_be 2 n ++ e), length-append (to_be 2 n) e, length_to_be 2 n, front_length v) in
    ap (λ (j : ℕ). to_be 4 j ++ (front v ++ (to_be 2 n ++ e))) q

pub store_length : (v : Store) → length (enc_store v) ≡ 9 + length (enc_all enc_item v.items)
store_length v =
    let n : ℕ = length v.items in
    let e : List ℕ = enc_all enc_item v.items in
    let r : List ℕ = to_be 2 n ++ e in
    let q : length (front v ++ r) ≡ 5 + length e = omega (arith, length-append (front v) r, length-append (to_be 2 n) e, length_to_be 2 n, front_length v) in
    ap length (store_shape v) ∙ omega (arith, length-append (to_be 4 (9 + length e)) (front v ++ r), length_to_be 4 (9 + length e), q)

pub octets_drop : (n : ℕ) (s : List ℕ) → Octets s → Octets (drop n s)
octets_drop n s h = subst Octets (take-length (drop n s)) (octets_part s n (length (drop n s)) h)

-- what "6" asks
record Room (s : List ℕ) (used n k : ℕ) : Type 0 where
  slice : used + k ≤ length s
  store : used + k ≤ max_store
  items : n < max_items

room_parts : (s : List ℕ) (used n k : ℕ) → has_room (length s) used n k ≡ true → Room s used n k
unfolding max_store max_items
room_parts s used n k h = let r = room_is (length s) used n k h in record { slice = r.0; store = r.1; items = r.2 }

module _ (s : List ℕ) (oct : Octets s) (v : Store) (used : ℕ) (h : store_of s ≡ got v used) where
  -- the parts of the slice
  used_is : used ≡ 9 + length (enc_all enc_item v.items)
  used_is =
      let y = store_sound s oct h in
      sym (length-take-le used s y.2) ∙ ap length y.1 ∙ store_length v

  slice_shape : s ≡ to_be 4 (9 + length (enc_all enc_item v.items)) ++ (front v ++ (to_be 2 (length v.items) ++ (enc_all enc_item v.items ++ drop used s)))
  slice_shape =
      let y = store_sound s oct h in
      let q : take used s ++ drop used s ≡ s = take-append-drop used s in
      sym q ∙ ap (λ (l : List ℕ). l ++ drop used s) (y.1 ∙ store_shape v) ∙ simp append_assoc

  front_is : part s 4 3 ≡ front v
  front_is =
      let a : List ℕ = to_be 4 (9 + length (enc_all enc_item v.items)) in
      let r : List ℕ = to_be 2 (length v.items) ++ (enc_all enc_item v.items ++ drop used s) in
      ap (λ (l : List ℕ). part l 4 3) slice_shape ∙ ap (take 3) (drop_at a (front v ++ r) 4 (length_to_be 4 _)) ∙ take_at (front v) r 3 (front_length v)

  items_are : part s 9 (used - 9) ≡ enc_all enc_item v.items
  items_are =
      let a : List ℕ = to_be 4 (9 + length (enc_all enc_item v.items)) in
      let n : List ℕ = to_be 2 (length v.items) in
      let e : List ℕ = enc_all enc_item v.items in
      let q : a ++ (front v ++ (n ++ (e ++ drop used s))) ≡ (a ++ (front v ++ n)) ++ (e ++ drop used s) = simp append_assoc in
      let k : length (front v ++ n) ≡ 5 = omega (arith, length-append (front v) n, length_to_be 2 (length v.items), front_length v) in
      let l : length (a ++ (front v ++ n)) ≡ 9 = omega (arith, length-append a (front v ++ n), length_to_be 4 (9 + length e), k) in
      let m : length e ≡ used - 9 = omega (arith, used_is) in
      ap (λ (l : List ℕ). part l 9 (used - 9)) (slice_shape ∙ q) ∙ ap (take (used - 9)) (drop_at (a ++ (front v ++ n)) (e ++ drop used s) 9 l) ∙ take_at e (drop used s) (used - 9) m

  module _ (x : Item) where
    more_items : enc_all enc_item (v.items ++ (x ∷ [])) ≡ enc_all enc_item v.items ++ enc_item x
    more_items = enc_append enc_item v.items (x ∷ []) ∙ ap (λ (l : List ℕ). enc_all enc_item v.items ++ l) (enc_one enc_item x)

    more_count : length (v.items ++ (x ∷ [])) ≡ length v.items + 1
    more_count = length-append v.items (x ∷ [])

    more_used : 9 + length (enc_all enc_item (v.items ++ (x ∷ []))) ≡ used + length (enc_item x)
    more_used = omega (arith, used_is, ap length more_items, length-append (enc_all enc_item v.items) (enc_item x))

    more_length : length (enc_store (with_more v x)) ≡ used + length (enc_item x)
    more_length = store_length (with_more v x) ∙ more_used

    -- the bytes at the front are those of the store with the item behind
    at_front_law : with_item s used (length v.items) (enc_item x) ≡ at_front (enc_store (with_more v x)) s
    unfolding with_item
    at_front_law = rw (front_is, items_are, store_shape (with_more v x), more_used, more_count, more_items)

    with_item_law : with_item s used (length v.items) (enc_item x) ≡ enc_store (with_more v x) ++ drop (used + length (enc_item x)) s
    unfolding at_front
    with_item_law = at_front_law ∙ ap (λ (j : ℕ). enc_store (with_more v x) ++ drop j s) more_length

    -- one item more
    pub grown : ValidItem x → has_room (length s) used (length v.items) (length (enc_item x)) ≡ true
        → Grown s (with_item s used (length v.items) (enc_item x)) v used x
    unfolding ValidStore
    grown valid room =
        let n : ℕ = length (enc_item x) in
        let y = store_sound s oct h in
        let r : Room s used (length v.items) n = room_parts s used (length v.items) n room in
        let ok : ValidStore (with_more v x) = (y.0.0, all_append ValidItem v.items (x ∷ []) y.0.1 (valid, tt), omega (arith, more_count, r.items), omega (arith, more_length, r.store)) in
        record {
          reads = rw with_item_law (store_complete (drop (used + n) s) ok ∙ ap (got (with_more v x)) more_length);
          size = rw with_item_law (omega (arith, length-append (enc_store (with_more v x)) (drop (used + n) s), length-drop (used + n) s, more_length, r.slice));
          octets = rw with_item_law (octets_append (enc_store (with_more v x)) (drop (used + n) s) (store_octets (with_more v x) ok) (octets_drop (used + n) s oct));
        }
