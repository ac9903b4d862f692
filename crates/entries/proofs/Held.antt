-- Steps of the lookup, on any bytes: the code's answers and what they say, the kind of an entry, what an id has after an item, and after all items.
use Rattle.records.specs.Relations.Answer.{Next, Num}
use Rattle.std.specs.Prelude.{Option, Some, None}
use Rattle.std.specs.Option.{option_or, is_some as has}
use mathlib.Core.Path.{◌≡◌, refl, ap, sym, ◌∙◌}
use mathlib.Core.Bool.{Bool, true, false, not, ◌||◌}
use mathlib.Core.List.{List, []}
use mathlib.Core.Option.{Option as Maybe, some, none}
use Prim.Native.Nat.{ℕ, ◌-◌, ◌≤◌, ◌<◌}
use native.Mathlib.Omega.{arith}
use lib.ListN.{length, get_or, get_or-eq_default}
use lib.Dec.{eqb}
use borrow.Author.Tests.{eq-eqb, ne_eqb}
use Rattle.records.specs.Got.{Got, got, bad, after}
use Rattle.records.specs.Relations.Answer.{next_of, num_of}
use Rattle.records.specs.Bytes.{byte_at, bytes_at, number_at}
use Rattle.records.specs.Images.{is_some}
use Rattle.decimals.specs.Bytes.{same_bytes}
use Rattle.records.proofs.Laws.{after_is, after_elim, bytes_inv, byte_inv}
use Rattle.records.proofs.Views.{num_is, num_none, next_is, next_none}
use Rattle.entries.specs.declared.Holder.{Holder}
use Rattle.entries.specs.declared.Holder.TheVariants as found
use Rattle.records.specs.Names.{first_named}
use Rattle.entries.specs.Lookup.{last_named}
use Rattle.records.specs.Optional.{or_else, option_of}
use Rattle.entries.specs.Outline.{list_after, readable, Location, kind_as, Ids, entries_in, function_in, ids_by, item_head, item_outline, items_in, located_after, locate_from, locate}
use Rattle.entries.specs.Relations.Meets.{found_of, held_by, after_ids}
use Rattle.entries.proofs.Walk.{list_none, list_bad, list_stuck, list_next}
use Rattle.records.proofs.First.{or_none}
use Rattle.entries.proofs.Open.{byte_in}

-- answers and what they say
pub found_held : (r : Option Holder) → found_of (held_by r) ≡ r
unfolding found_of held_by
found_held (Some (found.Message q)) = refl
found_held (Some (found.Term q)) = refl
found_held (Some found.Function) = refl
found_held None = refl

pub held_found : (o : Maybe Location) → held_by (found_of o) ≡ o
unfolding found_of held_by
held_found none = refl
held_found (some (Location.message q)) = refl
held_found (some (Location.term q)) = refl
held_found (some Location.function) = refl

pub none_found : {o : Maybe Location} → o ≡ none → None ≡ found_of o
unfolding found_of
none_found h = rw h

pub is_found : {o : Maybe Location} {r : Option Holder} → o ≡ held_by r → r ≡ found_of o
is_found {o} {r} h = sym (found_held r) ∙ ap found_of (sym h)

pub says_held : {o : Maybe Location} {r : Option Holder} → r ≡ found_of o → held_by r ≡ o
says_held {o} h = ap held_by h ∙ held_found o

-- the code's test, and the definition's
pub held_some : (h : Option Holder) → has h ≡ is_some (held_by h)
unfolding held_by is_some
held_some None = refl
held_some (Some (found.Message q)) = refl
held_some (Some (found.Term q)) = refl
held_some (Some found.Function) = refl

pub is_held : (o : Maybe Location) {r x : Option Holder} → r ≡ found_of o → r ≡ x → is_some (held_by x) ≡ is_some o
is_held o h e = ap is_some (ap held_by (sym e) ∙ says_held h)

-- the kind of an entry
module _ (s : List ℕ) (at : ℕ) where
  pub kind_one : get_or s at 0 ≡ 1 → Some (found.Message at) ≡ found_of (some (kind_as (eqb (get_or s at 0) 1) at))
  unfolding found_of kind_as
  kind_one h = rw (eq-eqb (get_or s at 0) 1 h)

  pub kind_other : (get_or s at 0 ≡ 1 → ⊥) → Some (found.Term at) ≡ found_of (some (kind_as (eqb (get_or s at 0) 1) at))
  unfolding found_of kind_as
  kind_other h = rw (ne_eqb (get_or s at 0) 1 h)

  pub kind_none : length s ≤ at → Some (found.Term at) ≡ found_of (some (kind_as (eqb (get_or s at 0) 1) at))
  kind_none h = kind_other (λ k. let z : get_or s at 0 ≡ 0 = get_or-eq_default s 0 h in omega arith)

-- one among the entries of an id, or the last one so far
pub last_found : (o : Maybe Location) {r : Option Holder} → or_else o (held_by None) ≡ held_by r → r ≡ found_of o
unfolding held_by
last_found o h = is_found (sym (or_none o) ∙ h)

pub later_held : (t i : List ℕ) (x : Location) (o : Maybe Location) {last : Option Holder} {b : Bool} → b ≡ same_bytes t i → last ≡ found_of (or_else (option_of b x) o) → or_else (option_of (same_bytes t i) x) o ≡ held_by last
later_held t i x o e h = ap (λ (c : Bool). or_else (option_of c x) o) (sym e) ∙ sym (says_held h)

-- of two holders the first
pub or_held : (x y : Option Holder) {r : Option Holder} → r ≡ option_or x y → r ≡ found_of (or_else (held_by x) (held_by y))
unfolding held_by or_else
or_held x y e = e ∙ go x
  where
    go : (x : Option Holder) → option_or x y ≡ found_of (or_else (held_by x) (held_by y))
    go None = sym (found_held y)
    go (Some (found.Message q)) = sym (found_held (Some (found.Message q)))
    go (Some (found.Term q)) = sym (found_held (Some (found.Term q)))
    go (Some found.Function) = sym (found_held (Some found.Function))

-- what an id has after an item
module _ (s : List ℕ) (at : ℕ) (id : List ℕ) {m : Num} (is : m ≡ num_of (byte_at s at)) (held : Option Holder) where
  abbrev after_item : Maybe Location
  after_item = after_ids (item_head s at) id (held_by held)

  pub after_bad : m ≡ None → held ≡ found_of after_item
  unfolding item_head after after_ids
  after_bad h = is_found (rw (num_none is h))

  module _ (b p : ℕ) (h : m ≡ Some (b, p)) where
    pub after_function : {l r : Option Holder} → b ≡ 3 → l ≡ found_of (first_named id (function_in s p)) → r ≡ found_of (or_else (held_by held) (held_by l)) → r ≡ found_of after_item
    unfolding item_head after after_ids ids_by located_after
    after_function e w q = rw (num_is is h, ne_eqb b 2 (λ k. omega arith), eq-eqb b 3 e) (q ∙ ap (λ (o : Maybe Location). found_of (or_else (held_by held) o)) (says_held w))

    -- a resource
    module _ (n3 : b ≡ 3 → ⊥) {l : List (List ℕ × Location)} (row : entries_in s p ≡ l) where
      pub after_last : {f r : Option Holder} → b ≡ 2 → f ≡ found_of (last_named id l) → r ≡ found_of (or_else (held_by f) (held_by held)) → r ≡ found_of after_item
      unfolding item_head after after_ids ids_by located_after
      after_last e w q = rw (num_is is h, eq-eqb b 2 e, row) (q ∙ ap (λ (o : Maybe Location). found_of (or_else o (held_by held))) (says_held w))

      pub after_first : {f r : Option Holder} → (b ≡ 2 → ⊥) → f ≡ found_of (first_named id l) → r ≡ found_of (or_else (held_by held) (held_by f)) → r ≡ found_of after_item
      unfolding item_head after after_ids ids_by located_after
      after_first n2 w q = rw (num_is is h, ne_eqb b 2 n2, ne_eqb b 3 n3, row) (q ∙ ap (λ (o : Maybe Location). found_of (or_else (held_by held) o)) (says_held w))

    pub after_empty : (b ≡ 3 → ⊥) → entries_in s p ≡ [] → held ≡ found_of after_item
    unfolding item_head after after_ids ids_by located_after last_named first_named or_else
    after_empty n3 row = is_found (rw (num_is is h, ne_eqb b 3 n3) (go (eqb b 2)))
      where
        go : (t : Bool) → located_after (ids_by t false s p) id (held_by held) ≡ held_by held
        go true = rw row refl
        go false = rw row (or_none (held_by held))

-- what is held stays, unless an overriding resource is at the position
module _ (s : List ℕ) (at : ℕ) (id : List ℕ) where
  only_last : (b c : Bool) (p : ℕ) (x : Location) → b ≡ false → located_after (ids_by b c s p) id (some x) ≡ some x
  unfolding ids_by located_after or_else
  only_last true c p x e = cc
  only_last false true p x e = refl
  only_last false false p x e = refl

  kept : (x : Location) → eqb (get_or s at 0) 2 ≡ false → after_ids (item_head s at) id (some x) ≡ some x
  unfolding item_head after after_ids
  kept x e = go (byte_at s at) refl
    where
      go : (g : Got ℕ) → byte_at s at ≡ g → after_ids (after g (λ m p. got (ids_by (eqb m 2) (eqb m 3) s p) p)) id (some x) ≡ some x
      go (got m p) h = only_last _ _ p x (ap (λ (k : ℕ). eqb k 2) (byte_inv s at h).1 ∙ e)
      go bad h = refl

  pub unchanged : (held : Option Holder) {r : Bool} → r ≡ not (is_some (held_by held)) || eqb (get_or s at 0) 2 → r ≡ false → held ≡ found_of (after_ids (item_head s at) id (held_by held))
  unfolding is_some
  unchanged held is h = is_found (go (held_by held) (eqb (get_or s at 0) 2) refl (sym is ∙ h))
    where
      go : (o : Maybe Location) (t : Bool) → eqb (get_or s at 0) 2 ≡ t → not (is_some o) || t ≡ false → after_ids (item_head s at) id o ≡ o
      go none t e w = cc
      go (some x) true e w = cc
      go (some x) false e w = kept x e

-- what an id has after the items from a position on
module _ (s id : List ℕ) where
  abbrev pub HeldFrom : ℕ → ℕ → Option Holder → Maybe Location
  HeldFrom n at held = locate_from (readable n item_head item_outline s at) id (held_by held)

  pub from_none : (n at : ℕ) (held : Option Holder) → n ≤ 0 → HeldFrom n at held ≡ held_by held
  unfolding locate_from
  from_none n at held z = ap (λ (l : List Ids). locate_from l id (held_by held)) (list_none item_head item_outline s n at z)

  module _ (n at : ℕ) (held : Option Holder) (z : 0 < n) {now : Option Holder} (a : now ≡ found_of (after_ids (item_head s at) id (held_by held))) {r : Next} (is : r ≡ next_of (item_outline s at)) where
    pub from_stuck : r ≡ None → HeldFrom n at held ≡ held_by now
    unfolding locate_from after_ids
    from_stuck b = go (item_head s at) refl
      where
        go : (g : Got Ids) → item_head s at ≡ g → HeldFrom n at held ≡ held_by now
        go (got x e) h = ap (λ (l : List Ids). locate_from l id (held_by held)) (list_stuck item_head item_outline s n at z h (next_none is b)) ∙ ap (λ (g : Got Ids). after_ids g id (held_by held)) (sym h) ∙ sym (says_held a)
        go bad h = ap (λ (l : List Ids). locate_from l id (held_by held)) (list_bad item_head item_outline s n at h) ∙ ap (λ (g : Got Ids). after_ids g id (held_by held)) (sym h) ∙ sym (says_held a)

    pub from_next : {i : ℕ} → r ≡ Some i → HeldFrom n at held ≡ HeldFrom (n - 1) i now
    unfolding locate_from after_ids item_head item_outline
    from_next {i} b =
        next_is is b (λ x w.
        after_elim (bytes_at 1 s at) _ w (λ bs p hb _.
        let k = bytes_inv s at 1 hb in
        let k0 = k.0 in
        let hd = after_is (byte_at s at) _ (byte_in s at (omega arith)) in
        ap (λ (l : List Ids). locate_from l id (held_by held)) (list_next item_head item_outline s n at z hd w)
        ∙ ap (locate_from (readable (n - 1) item_head item_outline s i) id) (ap (λ (g : Got Ids). after_ids g id (held_by held)) (sym hd) ∙ sym (says_held a))))

  pub from_start : (n at : ℕ) {r : Option Holder} → HeldFrom n at None ≡ held_by r → r ≡ found_of (locate_from (readable n item_head item_outline s at) id none)
  unfolding held_by
  from_start n at h = is_found h

  pub locate_bad : {r : Num} → r ≡ num_of (number_at 2 s 7) → r ≡ None → locate s id ≡ none
  unfolding locate items_in list_after locate_from
  locate_bad is h = rw (num_none is h)

  pub locate_start : {r : Num} {k p : ℕ} → r ≡ num_of (number_at 2 s 7) → r ≡ Some (k, p) → locate s id ≡ locate_from (readable k item_head item_outline s p) id none
  unfolding locate items_in list_after
  locate_start is h = rw (num_is is h)
