-- What holds an id in a store that decodes: what the outline locates is the holder, and stands at that position.
use mathlib.Core.Path.{◌≡◌, refl, ap, sym, ◌∙◌}
use mathlib.Core.Bool.{Bool, true, false}
use mathlib.Core.List.{List, [], ◌∷◌}
use mathlib.Core.Option.{Option as Maybe, some, none}
use Rattle.std.specs.Prelude.{Option, Some, None}
use Prim.Native.Nat.{ℕ, ◌-◌}
use lib.ListN.{get_or}
use lib.Dec.{eqb}
use borrow.Author.Tests.{eq-eqb, ne_eqb}
use native.Mathlib.Omega.{arith}
use Rattle.records.specs.Got.{got}
use Rattle.records.specs.Bytes.{part, byte_at, str_at}
use Rattle.decimals.specs.Bytes.{same_bytes}
use Rattle.records.specs.Decode.{many}
use Rattle.records.specs.Images.{Entry, Item, Store, is_some, entry_at, resource_at, function_at, item_at, store_of}
use Rattle.records.proofs.Laws.{after_is, byte_inv}
use Rattle.entries.specs.declared.Holder.{Holder as Held}
use Rattle.entries.specs.declared.Holder.TheVariants as found
use Rattle.entries.specs.Lookup.{Holder, first_entry, last_entry, holder_after, find_from, find_in}
use Rattle.records.specs.Names.{first_named}
use Rattle.entries.specs.Lookup.{last_named}
use Rattle.records.specs.Optional.{or_else, option_of}
use Rattle.entries.specs.Outline.{behind, list_after, readable, entry_outline, Location, kind_as, entry_head, entries_in, function_in, Ids, ids_by, item_head, item_outline, items_in, located_after, locate_from, locate}
use Rattle.entries.specs.Relations.Meets.{found_of, held_by, HolderAt, is_message_at, term_at, is_function_at, nothing_at}
use Rattle.entries.proofs.Open.{entry_parts, entry_kind, resource_parts, function_parts, item_cases, store_parts}
use Rattle.entries.proofs.Walk.{behind_str}
use Rattle.records.proofs.First.{or_none}
use Rattle.entries.proofs.Held.{held_found}
use Rattle.entries.proofs.Decoded.{Each, many_heads, entry_ends, item_ends}

-- of two holders the first
or_held : {s : List ℕ} {o : Maybe Holder} {x : Option Held} (p : Maybe Holder) → HolderAt s o x → (x ≡ None → ⊥) → HolderAt s (or_else o p) x
unfolding or_else
or_held p (is_message_at q e f h w k he) n = is_message_at q e f h (rw w) k he
or_held p (term_at q e f h w k he) n = term_at q e f h (rw w) k he
or_held p (is_function_at h w) n = is_function_at h (rw w)
or_held p (nothing_at h w) n = absurd (n h)

or_other : {s : List ℕ} {o p : Maybe Holder} {x y : Option Held} → HolderAt s o x → x ≡ None → HolderAt s p y → HolderAt s (or_else o p) y
unfolding or_else
or_other {s} {o} {p} {x} {y} (is_message_at q e f h w k he) n v = let z : ◌≡◌ {A = ℕ} 0 1 = cc in absurd (omega arith)
or_other {s} {o} {p} {x} {y} (term_at q e f h w k he) n v = let z : ◌≡◌ {A = ℕ} 0 1 = cc in absurd (omega arith)
or_other {s} {o} {p} {x} {y} (is_function_at h w) n v = let z : ◌≡◌ {A = ℕ} 0 1 = cc in absurd (omega arith)
or_other {s} {o} {p} {x} {y} (nothing_at h w) n v = rw w v

message_there : {q : ℕ} → Some (found.Message q) ≡ None → ⊥
message_there h = let z : ◌≡◌ {A = ℕ} 0 1 = cc in omega arith

term_there : {q : ℕ} → Some (found.Term q) ≡ None → ⊥
term_there h = let z : ◌≡◌ {A = ℕ} 0 1 = cc in omega arith

function_there : Some found.Function ≡ None → ⊥
function_there h = let z : ◌≡◌ {A = ℕ} 0 1 = cc in omega arith

module _ (s : List ℕ) where
  -- what the outline locates holds the id
  abbrev pub Holds : Maybe Holder → Maybe Location → Type 0
  Holds o p = HolderAt s o (found_of p)

  or_holds : (o o' : Maybe Holder) (p p' : Maybe Location) → Holds o p → Holds o' p' → Holds (or_else o o') (or_else p p')
  unfolding found_of or_else
  or_holds o o' none p' h k = or_other h refl k
  or_holds o o' (some (Location.message q)) p' h k = or_held o' h message_there
  or_holds o o' (some (Location.term q)) p' h k = or_held o' h term_there
  or_holds o o' (some Location.function) p' h k = or_held o' h function_there

  named_holds : (b : Bool) (x : Holder) (l : Location) → Holds (some x) (some l) → Holds (option_of b x) (option_of b l)
  unfolding option_of found_of
  named_holds true x l h = h
  named_holds false x l h = nothing_at refl refl

  -- an entry that is read, and its head
  abbrev EntryRow : Entry → List ℕ × Location → Type 0
  EntryRow e row = (row.0 ≡ e.id) × Holds (some (Holder.entry e)) (some row.1)

  entry_holds : (at : ℕ) (e : Entry) (f : ℕ) → entry_at s at ≡ got e f → Holds (some (Holder.entry e)) (some (kind_as (eqb (get_or s at 0) 1) at))
  unfolding kind_as found_of
  entry_holds at e f h =
      entry_kind s at h
      (λ p hb k. let b = (byte_inv s at hb).1 in rw (eq-eqb (get_or s at 0) 1 (sym b)) (is_message_at at e f refl refl k h))
      (λ p hb k. let b = (byte_inv s at hb).1 in rw (ne_eqb (get_or s at 0) 1 (λ z. omega arith)) (term_at at e f refl refl k h))

  entry_says : (at : ℕ) (e : Entry) (f : ℕ) → entry_at s at ≡ got e f → (row : List ℕ × Location) × (i : ℕ) × (entry_head s at ≡ got row i) × EntryRow e row
  unfolding entry_head
  entry_says at e f h =
      entry_parts s at h (λ a i r hi ei _ _.
      ((part s a (i - a), kind_as (eqb (get_or s at 0) 1) at), i, after_is (behind 1 str_at s at) _ (behind_str 1 s at hi), (sym ei, entry_holds at e f h)))

  -- the entries of an image: the first of an id, and the last
  row_holds : (i : List ℕ) (e : Entry) (row : List ℕ × Location) → EntryRow e row → Holds (option_of (same_bytes e.id i) (Holder.entry e)) (option_of (same_bytes row.0 i) row.1)
  row_holds i e row h = rw h.0 (named_holds (same_bytes e.id i) (Holder.entry e) row.1 h.1)

  pub first_holds : (i : List ℕ) (es : List Entry) (rows : List (List ℕ × Location)) → Each EntryRow es rows → Holds (first_entry i es) (first_named i rows)
  unfolding first_entry first_named found_of
  first_holds i [] [] h = nothing_at refl refl
  first_holds i [] (row ∷ rows) h = absurd h
  first_holds i (e ∷ es) [] h = absurd h
  first_holds i (e ∷ es) (row ∷ rows) h = or_holds _ (first_entry i es) _ (first_named i rows) (row_holds i e row h.0) (first_holds i es rows h.1)

  last_holds : (i : List ℕ) (es : List Entry) (rows : List (List ℕ × Location)) → Each EntryRow es rows → Holds (last_entry i es) (last_named i rows)
  unfolding last_entry last_named found_of
  last_holds i [] [] h = nothing_at refl refl
  last_holds i [] (row ∷ rows) h = absurd h
  last_holds i (e ∷ es) [] h = absurd h
  last_holds i (e ∷ es) (row ∷ rows) h = or_holds (last_entry i es) _ (last_named i rows) _ (last_holds i es rows h.1) (row_holds i e row h.0)

  pub entries_say : (n at : ℕ) (es : List Entry) (f : ℕ) → many [] ◌∷◌ n entry_at s at ≡ got es f → Each EntryRow es (readable n entry_head entry_outline s at)
  entries_say = many_heads EntryRow entry_at entry_head entry_outline s (entry_ends s) entry_says

  resource_says : (at : ℕ) (es : List Entry) (f : ℕ) → resource_at s at ≡ got es f → Each EntryRow es (entries_in s at)
  unfolding entries_in list_after
  resource_says at es f h = resource_parts s at h (λ n q k r _ _ _ hk _ hm _. rw hk (entries_say k r es f hm))

  -- an item: what it makes of what held the id before
  abbrev ItemRow : Item → Ids → Type 0
  ItemRow x ids = (i : List ℕ) (o : Maybe Holder) (p : Maybe Location) → Holds o p → Holds (holder_after x i o) (located_after ids i p)

  item_says : (at : ℕ) (x : Item) (f : ℕ) → item_at s at ≡ got x f → (ids : Ids) × (e : ℕ) × (item_head s at ≡ got ids e) × ItemRow x ids
  unfolding item_head ids_by holder_after located_after function_in list_after first_named found_of
  item_says at x f h =
      item_cases s at h
      (λ p es hb hr ex. (Ids.first_wins (entries_in s p), p, after_is (byte_at s at) _ hb, λ i o l k. rw ex (or_holds o _ l _ k (first_holds i es _ (resource_says p es f hr)))))
      (λ p es hb hr ex. (Ids.last_wins (entries_in s p), p, after_is (byte_at s at) _ hb, λ i o l k. rw ex (or_holds _ o _ l (last_holds i es _ (resource_says p es f hr)) k)))
      (λ p n hb hr ex. (Ids.first_wins (function_in s p), p, after_is (byte_at s at) _ hb, λ i o l k. rw ex (or_holds o _ l _ k (function_says p n f hr i))))
    where
      function_says : (at : ℕ) (n : List ℕ) (f : ℕ) → function_at s at ≡ got n f → (i : List ℕ) → Holds (option_of (same_bytes n i) Holder.function) (first_named i (function_in s at))
      function_says at n f h i =
          function_parts s at h (λ m q a _ _ hs en _.
          rw (behind_str 6 s at hs, ← en, or_none) (named_holds (same_bytes n i) Holder.function Location.function (is_function_at refl refl)))

  pub from_holds : (xs : List Item) (l : List Ids) → Each ItemRow xs l → (i : List ℕ) (o : Maybe Holder) (p : Maybe Location) → Holds o p → Holds (find_from xs i o) (locate_from l i p)
  unfolding find_from locate_from
  from_holds [] [] h i o p k = k
  from_holds [] (y ∷ l) h i o p k = absurd h
  from_holds (x ∷ xs) [] h i o p k = absurd h
  from_holds (x ∷ xs) (y ∷ l) h i o p k = from_holds xs l h.1 i _ _ (h.0 i o p k)

  -- what the outline of a store locates
  located : (i : List ℕ) (st : Store) (f : ℕ) → store_of s ≡ got st f → Holds (find_in st.items i) (locate s i)
  unfolding find_in locate items_in list_after found_of
  located i st f h =
      store_parts s h (λ k _ _ hk _ hm _ _.
      rw hk (from_holds st.items _ (many_heads ItemRow item_at item_head item_outline s (item_ends s) item_says k 9 st.items f hm) i none none (nothing_at refl refl)))

  -- for callers
  pub holder_at : (i : List ℕ) {r : Option Held} → r ≡ found_of (locate s i) → (st : Store) (f : ℕ) → store_of s ≡ got st f → HolderAt s (find_in st.items i) r
  holder_at i is st f h = rw is (located i st f h)

  same_some : {o : Maybe Holder} (p : Maybe Location) → Holds o p → is_some p ≡ is_some o
  unfolding is_some held_by
  same_some {o} p h = ap is_some (sym (held_found p)) ∙ go h
    where
      go : {r : Option Held} → HolderAt s o r → is_some (held_by r) ≡ is_some o
      go (is_message_at q e f h w k he) = rw (h, w)
      go (term_at q e f h w k he) = rw (h, w)
      go (is_function_at h w) = rw (h, w)
      go (nothing_at h w) = rw (h, w)

  pub holder_held : (i : List ℕ) {r : Bool} → r ≡ is_some (locate s i) → (st : Store) (f : ℕ) → store_of s ≡ got st f → r ≡ is_some (find_in st.items i)
  holder_held i is st f h = is ∙ same_some (locate s i) (located i st f h)

  pub first_held : (n at : ℕ) (i : List ℕ) (es : List Entry) (f : ℕ) → many [] ◌∷◌ n entry_at s at ≡ got es f → is_some (first_named i (readable n entry_head entry_outline s at)) ≡ is_some (first_entry i es)
  first_held n at i es f h = same_some _ (first_holds i es _ (entries_say n at es f h))
