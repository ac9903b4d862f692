-- Steps of the table of held ids: what is noted of an id, of entries, of an item and of a store; and the mark of an entry by its slot.
use Rattle.records.specs.Relations.Answer.{Next}
use Rattle.std.specs.Prelude.{Some, None}
use mathlib.Core.Path.{◌≡◌, refl, ap, sym, subst, ◌∙◌}
use mathlib.Core.Bool.{Bool, true, false, ◌||◌}
use mathlib.Core.List.{List, [], ◌∷◌}
use mathlib.Core.Option.{Option, some, none}
use Prim.Native.Nat.{ℕ, ◌-◌, ◌≤◌, ◌<◌}
use native.Mathlib.Omega.{arith}
use lib.ListN.{length, get_or, set, length-set, replicate, length-replicate}
use lib.Seq.{get_or-set_same, get_or-set_other}
use lib.Dec.{eqb}
use borrow.Author.Tests.{eq-eqb, ne_eqb, eqb-true, eqb-false}
use Rattle.records.specs.Got.{got, bad}
use Rattle.records.specs.Relations.Answer.{next_of}
use Rattle.records.specs.Bytes.{part, byte_at, number_at, span_at}
use Rattle.decimals.specs.Bytes.{same_bytes}
use Rattle.records.specs.Decode.{many}
use Rattle.records.specs.Images.{Entry, Item, Store, is_some, entry_at, item_at, store_of}
use Rattle.decimals.proofs.Same.{same_eq}
use Rattle.records.proofs.Views.{both, never, many_cons, many_nil}
use Rattle.entries.specs.Lookup.{Holder, Find, first_entry, last_entry, holder_after, find_from, find_in}
use Rattle.records.specs.Optional.{or_else, option_of}
use Rattle.entries.specs.Outline.{behind, entry_outline}
use Rattle.walks.specs.Relations.Passes.{Passes}
use Rattle.entries.specs.Repeats.{is_held}
use Rattle.repeats.specs.Relations.Seen.{seen_after}
use Rattle.repeats.specs.Relations.Slots.{has_id, seek_of, slotted, PlacesAll, Stands, Notes, NotesEntries, NotesItem, Ready}
use Rattle.entries.proofs.Decoded.{first_unread, first_endless, first_ends, id_there}
use Rattle.entries.proofs.Open.{item_cases, resource_parts, function_parts, store_parts}
use Rattle.entries.proofs.Walk.{not_read, end_of}
use Rattle.repeats.proofs.Marking.{held_after, mark_among}
use Rattle.repeats.proofs.Places.{zero_at}
use Rattle.repeats.proofs.Seeking.{same_refl, span_one, stands_id}

-- what is noted of an id
module _ (image places held : List ℕ) where
  pub notes_nothing : Notes image places held (λ x. false) held
  notes_nothing = record { same = refl; notes = λ l x st. refl }

  module _ (id : List ℕ) (h : ℕ) (eh : h ≡ seek_of image places id) where
    -- ids that stand in one slot are the same
    one_id : (x : List ℕ) → Stands image places x → seek_of image places x ≡ h → h < 8200 → id ≡ x
    one_id x st eq lt =
        let t = st.taken in
        let es : slotted image places id ≡ slotted image places x = ap (λ (k : ℕ). get_or places k 0) (sym eh ∙ sym eq) in
        let own : Stands image places id = record { inside = omega arith; taken = omega arith } in
        span_one image id x (behind 1 span_at image (slotted image places x)) (ap (has_id image id) (sym es) ∙ stands_id image places id own) (stands_id image places x st)

    slot_same : (x : List ℕ) → same_bytes id x ≡ true → seek_of image places x ≡ h
    slot_same x y = ap (seek_of image places) (sym (same_eq id x y)) ∙ sym eh

    untold : (b c : Bool) → (b ≡ true → ⊥) → c ≡ b || c
    untold true c n = absurd (n refl)
    untold false c n = refl

    pub notes_none : 8200 ≤ h → Notes image places held (same_bytes id) held
    notes_none l = record {
      same = refl;
      notes = λ _ x st. untold (same_bytes id x) (eqb (get_or held (seek_of image places x) 0) 1) (λ y. let e = slot_same x y in let i = st.inside in omega arith);
    }

    pub notes_one : h < 8200 → Notes image places held (same_bytes id) (set held h 1)
    notes_one lt = record {
      same = length-set held h 1;
      notes = λ l x st. go l x st (eqb (seek_of image places x) h) refl;
    }
      where
        go : length held ≡ 8200 → (x : List ℕ) → Stands image places x → (b : Bool) → eqb (seek_of image places x) h ≡ b
            → eqb (get_or (set held h 1) (seek_of image places x) 0) 1 ≡ same_bytes id x || eqb (get_or held (seek_of image places x) 0) 1
        go l x st true t =
            let eq : seek_of image places x ≡ h = eqb-true (seek_of image places x) h t in
            let ix : id ≡ x = one_id x st eq lt in
            let y : same_bytes id x ≡ true = ap (same_bytes id) (sym ix) ∙ same_refl id in
            let v : get_or (set held h 1) (seek_of image places x) 0 ≡ 1 = ap (λ (k : ℕ). get_or (set held h 1) k 0) eq ∙ get_or-set_same held h 1 0 (omega arith) in
            eq-eqb (get_or (set held h 1) (seek_of image places x) 0) 1 v ∙ ap (λ (c : Bool). c || eqb (get_or held (seek_of image places x) 0) 1) (sym y)
        go l x st false t =
            let ne : seek_of image places x ≡ h → ⊥ = eqb-false (seek_of image places x) h t in
            ap (λ (k : ℕ). eqb k 1) (get_or-set_other held h (seek_of image places x) 1 0 ne)
            ∙ untold (same_bytes id x) (eqb (get_or held (seek_of image places x) 0) 1) (λ y. ne (slot_same x y))

or_move : (a b c : Bool) → a || (b || c) ≡ (b || a) || c
or_move true true c = refl
or_move true false c = refl
or_move false true c = refl
or_move false false c = refl

pub notes_then : {image places held mid out : List ℕ} {by more : List ℕ → Bool} → Notes image places held by mid → Notes image places mid more out → Notes image places held (λ x. by x || more x) out
notes_then {by = by} {more = more} a b = record {
  same = b.same ∙ a.same;
  notes = λ l x st. b.notes (a.same ∙ l) x st ∙ ap (λ (c : Bool). more x || c) (a.notes l x st) ∙ or_move (more x) (by x) _;
}

pub notes_as : {image places held out : List ℕ} {by by' : List ℕ → Bool} → Notes image places held by out → ((x : List ℕ) → by x ≡ by' x) → Notes image places held by' out
notes_as {image} {places} {held} a e = record { same = a.same; notes = λ l x st. a.notes l x st ∙ ap (λ (c : Bool). c || eqb (get_or held (seek_of image places x) 0) 1) (e x) }

-- entries, items and stores
some_or : (a b : Option Holder) → is_some (or_else a b) ≡ is_some a || is_some b
unfolding is_some or_else
some_or none b = refl
some_or (some x) b = refl

some_named : (b : Bool) (x : Holder) → is_some (option_of b x) ≡ b
unfolding is_some option_of
some_named true x = refl
some_named false x = refl

or_swap : (a b : Bool) → a || b ≡ b || a
or_swap true true = refl
or_swap true false = refl
or_swap false true = refl
or_swap false false = refl

or_group : (a b c : Bool) → (a || b) || c ≡ a || (b || c)
or_group true b c = refl
or_group false b c = refl

some_first : (x : List ℕ) (e : Entry) (es : List Entry) → same_bytes e.id x || is_some (first_entry x es) ≡ is_some (first_entry x (e ∷ es))
unfolding first_entry
some_first x e es = sym (some_or (option_of (same_bytes e.id x) (Holder.entry e)) (first_entry x es) ∙ ap (λ (b : Bool). b || is_some (first_entry x es)) (some_named (same_bytes e.id x) (Holder.entry e)))

some_last : (x : List ℕ) (es : List Entry) → is_some (first_entry x es) ≡ is_some (last_entry x es)
unfolding last_entry first_entry
some_last x [] = refl
some_last x (e ∷ es) =
    some_or (option_of (same_bytes e.id x) (Holder.entry e)) (first_entry x es)
    ∙ ap (λ (b : Bool). is_some (option_of (same_bytes e.id x) (Holder.entry e)) || b) (some_last x es)
    ∙ or_swap (is_some (option_of (same_bytes e.id x) (Holder.entry e))) (is_some (last_entry x es))
    ∙ sym (some_or (last_entry x es) (option_of (same_bytes e.id x) (Holder.entry e)))

some_after : (i : Item) (x : List ℕ) (o : Option Holder) → is_some (holder_after i x o) ≡ is_some o || is_some (holder_after i x none)
unfolding holder_after or_else is_some
some_after (Item.plain es) x o = some_or o (first_entry x es)
some_after (Item.overriding es) x o = some_or (last_entry x es) o ∙ or_swap (is_some (last_entry x es)) (is_some o) ∙ ap (λ (b : Bool). is_some o || b) (sym (some_or (last_entry x es) none ∙ or_none (is_some (last_entry x es))))
  where
    or_none : (b : Bool) → b || is_some {A = Holder} none ≡ b
    or_none b = or_swap b false
some_after (Item.function n) x o = some_or o (option_of (same_bytes n x) Holder.function)

some_from : (xs : List Item) (x : List ℕ) (o : Option Holder) → is_some (find_from xs x o) ≡ is_some o || is_some (find_from xs x none)
unfolding find_from is_some
some_from [] x o = or_swap false (is_some o)
some_from (i ∷ xs) x o =
    some_from xs x (holder_after i x o) ∙ ap (λ (b : Bool). b || is_some (find_from xs x none)) (some_after i x o) ∙ or_group (is_some o) (is_some (holder_after i x none)) (is_some (find_from xs x none))
    ∙ ap (λ (b : Bool). is_some o || b) (sym (some_from xs x (holder_after i x none)))

some_find : (i : Item) (xs : List Item) (x : List ℕ) → is_some (holder_after i x none) || is_some (find_from xs x none) ≡ is_some (find_from (i ∷ xs) x none)
unfolding find_from
some_find i xs x = sym (some_from xs x (holder_after i x none))

module _ (s image places : List ℕ) where
  pub entries_none : {n at : ℕ} {held : List ℕ} → n ≤ 0 → NotesEntries s image places n at held held
  unfolding first_entry is_some
  entries_none {n} {at} {held} z = record { says = λ es f q. many_nil [] ◌∷◌ entry_at s n at z q (λ el _. rw el (notes_nothing image places held)) }

  pub entries_bad : {n at : ℕ} {held out : List ℕ} → 0 < n → behind 1 span_at s at ≡ bad → NotesEntries s image places n at held out
  entries_bad {n} {at} z h = record { says = λ es f q. first_unread s n at z q h }

  pub entries_stuck : {n at : ℕ} {held out : List ℕ} {r : Next} → 0 < n → r ≡ next_of (entry_outline s at) → r ≡ None → NotesEntries s image places n at held out
  entries_stuck {n} {at} z is b = record { says = λ es f q. first_endless s n at z q is b }

  pub entries_next : {n at a e i : ℕ} {held mid out : List ℕ} {r : Next} → 0 < n → behind 1 span_at s at ≡ got a e → Notes image places held (same_bytes (part s a (e - a))) mid
      → r ≡ next_of (entry_outline s at) → r ≡ Some i → NotesEntries s image places (n - 1) i mid out → NotesEntries s image places n at held out
  entries_next {n} {at} {a} {e} {i} {held} {mid} {out} z h one is w rest = record {
    says = λ es f q.
        first_ends s n at z q is w (λ x es' hx hl el.
        let ei : part s a (e - a) ≡ x.id = sym (id_there s at h hx) in
        notes_as (notes_then one (rest.says es' f hl))
        (λ y. ap (λ (t : List ℕ). same_bytes t y || is_some (first_entry y es')) ei ∙ some_first y x es' ∙ ap (λ (t : List Entry). is_some (first_entry y t)) (sym el)));
  }

  -- an item
  pub item_unread : {at : ℕ} {held out : List ℕ} → byte_at s at ≡ bad → NotesItem s image places at held out
  item_unread {at} h = record { says = λ x f q. item_cases s at q (λ p es hb _ _. never h hb) (λ p es hb _ _. never h hb) (λ p i hb _ _. never h hb) }

  module _ {m p at : ℕ} (h : byte_at s at ≡ got m p) {held out : List ℕ} where
    pub function_unread : m ≡ 3 → behind 6 span_at s p ≡ bad → NotesItem s image places at held out
    function_unread e k = record {
      says = λ x f q. item_cases s at q
          (λ p' es hb _ _. both h hb (λ em _. absurd (omega arith))) (λ p' es hb _ _. both h hb (λ em _. absurd (omega arith)))
          (λ p' i hb hr _. both h hb (λ _ ep. function_parts s p' hr (λ n w a _ _ hs _ _. never (subst (λ (z : ℕ). behind 6 span_at s z ≡ bad) ep k) hs)));
    }

    pub function_noted : {a e : ℕ} → m ≡ 3 → behind 6 span_at s p ≡ got a e → Notes image places held (same_bytes (part s a (e - a))) out → NotesItem s image places at held out
    unfolding holder_after or_else
    function_noted {a} {e} t k one = record {
      says = λ x f q. item_cases s at q
          (λ p' es hb _ _. both h hb (λ em _. absurd (omega arith))) (λ p' es hb _ _. both h hb (λ em _. absurd (omega arith)))
          (λ p' i hb hr ex. both h hb (λ _ ep. function_parts s p' hr (λ n w a' _ _ hs ei _.
          both (subst (λ (z : ℕ). behind 6 span_at s z ≡ got a e) ep k) hs (λ ea ee.
          let ip : part s a (e - a) ≡ i = rw (ea, ee) (sym ei) in
          notes_as one (λ y. ap (λ (t : List ℕ). same_bytes t y) ip ∙ sym (some_named (same_bytes i y) Holder.function) ∙ ap (λ (z : Item). is_some (holder_after z y none)) (sym ex))))));
    }

    pub resource_unread : (m ≡ 3 → ⊥) → behind 5 (number_at 2) s p ≡ bad → NotesItem s image places at held out
    resource_unread n k = record {
      says = λ x f q. item_cases s at q
          (λ p' es hb hr _. both h hb (λ _ ep. resource_parts s p' hr (λ _ _ c r _ _ _ hk _ _ _. never (subst (λ (z : ℕ). behind 5 (number_at 2) s z ≡ bad) ep k) hk)))
          (λ p' es hb hr _. both h hb (λ _ ep. resource_parts s p' hr (λ _ _ c r _ _ _ hk _ _ _. never (subst (λ (z : ℕ). behind 5 (number_at 2) s z ≡ bad) ep k) hk)))
          (λ p' i hb _ _. both h hb (λ em _. absurd (n em)));
    }

    pub resource_noted : {c r : ℕ} → (m ≡ 3 → ⊥) → behind 5 (number_at 2) s p ≡ got c r → NotesEntries s image places c r held out → NotesItem s image places at held out
    unfolding holder_after or_else is_some
    resource_noted {c} {r} n k all = record {
      says = λ x f q. item_cases s at q
          (λ p' es hb hr ex. both h hb (λ _ ep. resource_parts s p' hr (λ _ _ c' r' _ _ _ hk _ hm _.
          both (subst (λ (z : ℕ). behind 5 (number_at 2) s z ≡ got c r) ep k) hk (λ ec er.
          notes_as (all.says es f (rw (ec, er) hm)) (λ y. ap (λ (z : Item). is_some (holder_after z y none)) (sym ex))))))
          (λ p' es hb hr ex. both h hb (λ _ ep. resource_parts s p' hr (λ _ _ c' r' _ _ _ hk _ hm _.
          both (subst (λ (z : ℕ). behind 5 (number_at 2) s z ≡ got c r) ep k) hk (λ ec er.
          notes_as (all.says es f (rw (ec, er) hm)) (λ y. over_some y es ∙ ap (λ (z : Item). is_some (holder_after z y none)) (sym ex))))))
          (λ p' i hb _ _. both h hb (λ em _. absurd (n em)));
    }
      where
        over_some : (y : List ℕ) (es : List Entry) → is_some (first_entry y es) ≡ is_some (or_else (last_entry y es) none)
        over_some y es = some_last y es ∙ or_swap false (is_some (last_entry y es)) ∙ sym (some_or (last_entry y es) none)

  -- the items of a store
  pub record NotesItems (n at : ℕ) (held out : List ℕ) : Type 0 where
    pub says : (xs : List Item) (f : ℕ) → many [] ◌∷◌ n item_at s at ≡ got xs f → Notes image places held (λ x. is_some (find_from xs x none)) out

  pub items_none : {n at : ℕ} {held : List ℕ} → n ≤ 0 → NotesItems n at held held
  unfolding find_from is_some
  items_none {n} {at} {held} z = record { says = λ es f q. many_nil [] ◌∷◌ item_at s n at z q (λ el _. rw el (notes_nothing image places held)) }

  pub items_stuck : {n at : ℕ} {held out : List ℕ} → 0 < n → Passes (item_at s at) None → NotesItems n at held out
  items_stuck {n} {at} z w = record { says = λ es f q. many_cons [] ◌∷◌ item_at s n at z q (λ x e r hx _ _. not_read w x e hx) }

  pub items_next : {n at i : ℕ} {held mid out : List ℕ} → 0 < n → NotesItem s image places at held mid → Passes (item_at s at) (Some i) → NotesItems (n - 1) i mid out → NotesItems n at held out
  items_next {n} {at} {i} {held} {mid} {out} z one w rest = record {
    says = λ es f q.
        many_cons [] ◌∷◌ item_at s n at z q (λ x j es' hx hl el.
        let ej : j ≡ i = end_of w x j hx in
        notes_as (notes_then (one.says x j hx) (rest.says es' f (rw (← ej) hl)))
        (λ y. some_find x es' y ∙ ap (λ (t : List Item). is_some (find_from t y none)) (sym el)));
  }

  abbrev pub NotesStore : List ℕ → List ℕ → Type 0
  NotesStore held out = (st : Store) (f : ℕ) → store_of s ≡ got st f → Notes image places held (λ x. is_some (find_in st.items x)) out

  pub store_unread : (held out : List ℕ) → number_at 2 s 7 ≡ bad → NotesStore held out
  store_unread held out h st f q = store_parts s q (λ k _ _ hk _ _ _ _. never h hk)

  pub store_noted : (held out : List ℕ) {k p : ℕ} → number_at 2 s 7 ≡ got k p → NotesItems k p held out → NotesStore held out
  unfolding find_in
  store_noted held out h w st f q = store_parts s q (λ k _ _ hk _ hm _ _. both h hk (λ ek ep. w.says st.items f (rw (ek, ep) hm)))

-- both tables say what is held
zero_not : (n h : ℕ) → eqb (get_or (replicate n 0) h 0) 1 ≡ false
zero_not n h = ne_eqb (get_or (replicate n 0) h 0) 1 (λ z. let e = zero_at n h in omega arith)

pub ready : {image places out : List ℕ} {find : Find} → PlacesAll image places → Notes image places (replicate 8200 0) (λ x. is_some (find x)) out → Ready image places out find
ready {image} {places} {out} {find} p n = record {
  placed = p;
  holds = λ x st.
      n.notes (length-replicate {A = ℕ} 8200 0) x st
      ∙ ap (λ (c : Bool). is_some (find x) || c) (zero_not 8200 (seek_of image places x))
      ∙ or_swap (is_some (find x)) false;
}

-- the mark of an entry by its slot
module _ (image places held : List ℕ) (find : Find) (r : Ready image places held find) {count start : ℕ} (hc : number_at 2 image 5 ≡ got count start)
    (k at a e h p : ℕ) (pre : List Entry) (lk : k ≤ count) (hp : many [] ◌∷◌ k entry_at image start ≡ got pre at) (hi : behind 1 span_at image at ≡ got a e)
    (eh : h ≡ seek_of image places (part image a (e - a))) (lh : h < 8200) (ep : p ≡ get_or places h 0) (zp : 0 < p) where
  here : slotted image places (part image a (e - a)) ≡ p
  here = ap (λ (j : ℕ). get_or places j 0) (sym eh) ∙ sym ep

  stands : Stands image places (part image a (e - a))
  stands = let w = here in record { inside = omega arith; taken = omega arith }

  -- an entry that stands in its slot is not held by one before it
  pub mark_quick : p ≡ at → eqb (get_or held h 0) 1 ≡ is_held find (seen_after [] pre) (part image a (e - a))
  unfolding is_held
  mark_quick eq =
      let id : List ℕ = part image a (e - a) in
      let m : eqb (get_or held h 0) 1 ≡ is_some (find id) = ap (λ (j : ℕ). eqb (get_or held j 0) 1) eh ∙ r.holds id stands in
      let f : is_some (first_entry id pre) ≡ false = go (is_some (first_entry id pre)) refl (λ y. let w = here in let o = (r.placed count start hc).low k pre at lk hp id y stands.inside in let o1 = o.1 in omega arith) in
      m ∙ ap (λ (c : Bool). c || is_some (find id)) (sym f) ∙ sym (held_after find [] pre id)
    where
      go : (b : Bool) → {c : Bool} → c ≡ b → (c ≡ true → ⊥) → c ≡ false
      go true e n = absurd (n e)
      go false e n = e

  -- what stands in its slot from before is an entry before it
  pub mark_before : p < at → eqb 1 1 ≡ is_held find (seen_after [] pre) (part image a (e - a))
  mark_before l =
      let w = here in
      let has : has_id image (part image a (e - a)) (get_or places h 0) ≡ true = ap (λ (j : ℕ). has_id image (part image a (e - a)) (get_or places j 0)) eh ∙ stands_id image places (part image a (e - a)) stands in
      mark_among find pre (part image a (e - a)) (sym ((r.placed count start hc).first k pre at lk hp (part image a (e - a)) h (omega arith) (omega arith) has))
