-- Steps of the table of positions: an id of the entries that has a slot has the position of its first entry there.
use Rattle.records.specs.Relations.Answer.{Next}
use Rattle.std.specs.Prelude.{Some, None}
use mathlib.Core.Path.{◌≡◌, refl, ap, sym, subst, ◌∙◌}
use mathlib.Core.Bool.{Bool, true, false, ◌||◌}
use mathlib.Core.List.{List, [], ◌∷◌, ◌++◌}
use mathlib.Core.Option.{none}
use Prim.Native.Nat.{ℕ, zero, suc, ◌+◌, ◌-◌, ◌%◌, ◌≤◌, ◌<◌}
use native.Mathlib.Numerals.{add-one}
use native.Mathlib.Omega.{arith}
use lib.ListN.{length, get_or, set, length-set, replicate, length-replicate}
use lib.Seq.{get_or-set_same, get_or-set_other, set_out}
use lib.Dec.{eqb, ltb, leb}
use borrow.Author.Tests.{eqb-true, eqb-false, ltb-true, ltb-false, leb-true, leb-false}
use Rattle.records.specs.Got.{got, bad}
use Rattle.records.specs.Relations.Answer.{next_of}
use Rattle.records.specs.Bytes.{part, number_at, span_at}
use Rattle.decimals.specs.Bytes.{same_bytes}
use Rattle.records.specs.Decode.{many}
use Rattle.records.specs.Images.{Entry, max_image, is_some, entry_at, resource_of}
use Rattle.decimals.proofs.Same.{same_eq}
use Rattle.records.proofs.Views.{both, never, many_nil}
use Rattle.entries.specs.Lookup.{Holder, first_entry}
use Rattle.records.specs.Optional.{or_else, option_of}
use Rattle.entries.specs.Outline.{behind, entry_outline}
use Rattle.repeats.specs.Relations.Slots.{has_id, suits, seek_of, slotted, if_free, placed, Placed, PlacesAll, Cleared}
use Rattle.entries.proofs.Open.{whole_resource}
use Rattle.entries.proofs.Decoded.{first_unread, first_endless, turn_ends, id_there}
use Rattle.repeats.proofs.Marking.{many_snoc, or_true}
use Rattle.repeats.proofs.Seeking.{same_refl, positive, suits_id, span_one, has_span, seek_suits, seek_stays}
use Rattle.entries.proofs.Lengths.{entry_on, entry_size}

-- a position in a free slot
module _ (places : List ℕ) (h at : ℕ) where
  -- what holds of both tables holds of what is placed
  placed_elim : (C : List ℕ → Type 0) → (h < 8200 → get_or places h 0 ≡ 0 → C (set places h at)) → ((h < 8200 → get_or places h 0 ≡ 0 → ⊥) → C places) → C (placed places h at)
  unfolding placed
  placed_elim C f g = go (ltb h 8200) (eqb (get_or places h 0) 0) refl refl
    where
      go : (b c : Bool) → ltb h 8200 ≡ b → eqb (get_or places h 0) 0 ≡ c → C (if_free b (if_free c (set places h at) places) places)
      go true true e d = f (ltb-true h 8200 e) (eqb-true (get_or places h 0) 0 d)
      go true false e d = g (λ _. eqb-false (get_or places h 0) 0 d)
      go false c e d = let l = ltb-false h 8200 e in g (λ k _. omega arith)

  pub placed_free : h < 8200 → get_or places h 0 ≡ 0 → set places h at ≡ placed places h at
  placed_free l z = placed_elim (λ t. set places h at ≡ t) (λ _ _. refl) (λ n. absurd (n l z))

  pub placed_not : (h < 8200 → get_or places h 0 ≡ 0 → ⊥) → places ≡ placed places h at
  placed_not n = placed_elim (λ t. places ≡ t) (λ l z. absurd (n l z)) (λ _. refl)

  pub placed_length : length (placed places h at) ≡ length places
  placed_length = placed_elim (λ t. length t ≡ length places) (λ _ _. length-set places h at) (λ _. refl)

  -- what stands in a slot stays
  pub placed_kept : (j : ℕ) → 0 < get_or places j 0 → get_or (placed places h at) j 0 ≡ get_or places j 0
  placed_kept j p = placed_elim (λ t. get_or t j 0 ≡ get_or places j 0)
      (λ _ w. get_or-set_other places h j at 0 (λ z. let u : get_or places j 0 ≡ get_or places h 0 = ap (λ (i : ℕ). get_or places i 0) z in absurd (omega arith)))
      (λ _. refl)

  -- a slot has what it had, or the position
  pub placed_either : {C : Type 0} (j : ℕ) → (get_or (placed places h at) j 0 ≡ get_or places j 0 → C) → (get_or (placed places h at) j 0 ≡ at → C) → C
  placed_either {C} j f g = placed_elim (λ t. (get_or t j 0 ≡ get_or places j 0 → C) → (get_or t j 0 ≡ at → C) → C) (λ _ _ f g. go (eqb j h) refl f g) (λ _ f g. f refl) f g
    where
      in_or_out : (d : Bool) → ltb h (length places) ≡ d → j ≡ h → (get_or (set places h at) j 0 ≡ get_or places j 0 → C) → (get_or (set places h at) j 0 ≡ at → C) → C
      in_or_out true q z f g = g (ap (λ (i : ℕ). get_or (set places h at) i 0) z ∙ get_or-set_same places h at 0 (ltb-true h (length places) q))
      in_or_out false q z f g = f (ap (λ (l : List ℕ). get_or l j 0) (set_out places h at (ltb-false h (length places) q)))

      go : (c : Bool) → eqb j h ≡ c → (get_or (set places h at) j 0 ≡ get_or places j 0 → C) → (get_or (set places h at) j 0 ≡ at → C) → C
      go true e f g = in_or_out (ltb h (length places)) refl (eqb-true j h e) f g
      go false e f g = f (get_or-set_other places h j at 0 (eqb-false j h e))

  pub placed_below : (n : ℕ) → at < n → ((j : ℕ) → get_or places j 0 < n) → (j : ℕ) → get_or (placed places h at) j 0 < n
  placed_below n l p j = placed_either j (λ e. let v = p j in omega arith) (λ e. omega arith)

  -- a slot that was asked has something
  pub placed_some : h < 8200 → length places ≡ 8200 → 0 < at → 0 < get_or (placed places h at) h 0
  placed_some l len z = placed_elim (λ t. 0 < get_or t h 0)
      (λ _ _. let w : get_or (set places h at) h 0 ≡ at = get_or-set_same places h at 0 (omega arith) in omega arith)
      (λ n. positive (get_or places h 0) (n l))

-- the same, of a slot that was sought
module _ (image places id : List ℕ) (j at : ℕ) (e : j ≡ seek_of image places id) where
  pub placed_free_at : j < 8200 → get_or places j 0 ≡ 0 → set places j at ≡ placed places (seek_of image places id) at
  placed_free_at l z = placed_free places j at l z ∙ ap (λ (h : ℕ). placed places h at) e

  pub placed_not_at : (j < 8200 → get_or places j 0 ≡ 0 → ⊥) → places ≡ placed places (seek_of image places id) at
  placed_not_at z = placed_not places j at z ∙ ap (λ (h : ℕ). placed places h at) e

-- the id of an entry behind others
first_snoc : (y : List ℕ) (pre : List Entry) (x : Entry) → is_some (first_entry y (pre ++ (x ∷ []))) ≡ is_some (first_entry y pre) || same_bytes x.id y
unfolding first_entry is_some option_of or_else
first_snoc y [] x = go (same_bytes x.id y)
  where
    go : (b : Bool) → is_some (or_else (option_of b (Holder.entry x)) none) ≡ b
    go true = refl
    go false = refl
first_snoc y (e ∷ pre) x = go (first_snoc y pre x) (same_bytes e.id y)
  where
    go : is_some (first_entry y (pre ++ (x ∷ []))) ≡ is_some (first_entry y pre) || same_bytes x.id y → (b : Bool)
        → is_some (or_else (option_of b (Holder.entry e)) (first_entry y (pre ++ (x ∷ [])))) ≡ is_some (or_else (option_of b (Holder.entry e)) (first_entry y pre)) || same_bytes x.id y
    go h true = refl
    go h false = h

or_cases : {C : Type 0} (a b : Bool) → a || b ≡ true → (a ≡ true → C) → (b ≡ true → C) → C
or_cases true b h f g = f refl
or_cases false b h f g = g h

by_cases : {C : Type 0} (k m : ℕ) → m ≤ k + 1 → (m ≤ k → C) → (m ≡ k + 1 → C) → C
by_cases {C} k m l f g = go (leb m k) refl
  where
    go : (b : Bool) → leb m k ≡ b → C
    go true e = f (leb-true m k e)
    go false e = let z = leb-false m k e in g (omega arith)

-- the first entries end no later than at a position
abbrev Ends : List ℕ → ℕ → ℕ → ℕ → Type 0
Ends image start k at = (m : ℕ) (pre : List Entry) (i : ℕ) → m ≤ k → many [] ◌∷◌ m entry_at image start ≡ got pre i → i ≤ at

-- one entry more, in its slot: what the table says of the entries before it, and of them all
module _ (image : List ℕ) (start k at i : ℕ) (pre : List Entry) (x : Entry) (hp : many [] ◌∷◌ k entry_at image start ≡ got pre at) (hp' : many [] ◌∷◌ (k + 1) entry_at image start ≡ got (pre ++ (x ∷ [])) i)
    (za : 0 < at) (on : at < i) (has : has_id image x.id at ≡ true) (ends : Ends image start k at)
    (places : List ℕ) (len : length places ≡ 8200) (below : (h : ℕ) → get_or places h 0 < at) (p : Placed image start k places) where
  abbrev filled : List ℕ
  filled = placed places (seek_of image places x.id) at

  kept : (j : ℕ) → 0 < get_or places j 0 → get_or filled j 0 ≡ get_or places j 0
  kept j g = placed_kept places (seek_of image places x.id) at j g

  ends_more : Ends image start (k + 1) i
  ends_more m pre₁ i₁ l hm = by_cases k m l (λ le. let e = ends m pre₁ i₁ le hm in omega arith) (λ em. both (subst (λ (z : ℕ). many [] ◌∷◌ z entry_at image start ≡ got pre₁ i₁) em hm) hp' (λ _ ei. omega arith))

  below_more : (h : ℕ) → get_or filled h 0 < i
  below_more h = placed_below places (seek_of image places x.id) at i on (λ c. let u = below c in omega arith) h

  -- the slot of an id that has one stays
  low_old : (m : ℕ) (pre₁ : List Entry) (i₁ : ℕ) → m ≤ k → many [] ◌∷◌ m entry_at image start ≡ got pre₁ i₁ → (y : List ℕ) → is_some (first_entry y pre₁) ≡ true → seek_of image filled y < 8200
      → (0 < slotted image filled y) × (slotted image filled y < i₁)
  low_old m pre₁ i₁ l hm y hy s =
      let st : seek_of image filled y ≡ seek_of image places y = seek_stays image places y filled kept (λ g. ap (suits image y) (kept (seek_of image places y) (p.low m pre₁ i₁ l hm y hy g).0) ∙ seek_suits image places y g) in
      let o = p.low m pre₁ i₁ l hm y hy (omega arith) in
      let o0 = o.0 in let o1 = o.1 in
      let v : slotted image filled y ≡ slotted image places y = ap (λ (j : ℕ). get_or filled j 0) st ∙ kept (seek_of image places y) o0 in
      (omega arith, omega arith)

  -- the entry's own id
  suits_new : seek_of image places x.id < 8200 → suits image x.id (get_or filled (seek_of image places x.id) 0) ≡ true
  suits_new g = placed_either places (seek_of image places x.id) at (seek_of image places x.id) (λ e. ap (suits image x.id) e ∙ seek_suits image places x.id g) (λ e. ap (suits image x.id) e ∙ suits_id image x.id at has)

  low_new : seek_of image filled x.id < 8200 → (0 < slotted image filled x.id) × (slotted image filled x.id < i)
  low_new s =
      let st : seek_of image filled x.id ≡ seek_of image places x.id = seek_stays image places x.id filled kept suits_new in
      let v : slotted image filled x.id ≡ get_or filled (seek_of image places x.id) 0 = ap (λ (j : ℕ). get_or filled j 0) st in
      let s0 : 0 < get_or filled (seek_of image places x.id) 0 = placed_some places (seek_of image places x.id) at (omega arith) len za in
      let s1 = below_more (seek_of image filled x.id) in
      (omega arith, omega arith)

  low_more : (m : ℕ) (pre₁ : List Entry) (i₁ : ℕ) → m ≤ k + 1 → many [] ◌∷◌ m entry_at image start ≡ got pre₁ i₁ → (y : List ℕ) → is_some (first_entry y pre₁) ≡ true → seek_of image filled y < 8200
      → (0 < slotted image filled y) × (slotted image filled y < i₁)
  low_more m pre₁ i₁ l hm y hy s = by_cases k m l (λ le. low_old m pre₁ i₁ le hm y hy s)
      (λ em. both (subst (λ (z : ℕ). many [] ◌∷◌ z entry_at image start ≡ got pre₁ i₁) em hm) hp' (λ epre ei.
      or_cases (is_some (first_entry y pre)) (same_bytes x.id y) (sym (first_snoc y pre x) ∙ ap (λ (t : List Entry). is_some (first_entry y t)) (sym epre) ∙ hy)
      (λ a. let o = low_old k pre at (omega arith) hp y a s in let o0 = o.0 in let o1 = o.1 in (omega arith, omega arith))
      (λ b.
      let ey : x.id ≡ y = same_eq x.id y b in
      let o : (0 < slotted image filled y) × (slotted image filled y < i) = subst (λ (z : List ℕ). seek_of image filled z < 8200 → (0 < slotted image filled z) × (slotted image filled z < i)) ey low_new s in
      let o0 = o.0 in let o1 = o.1 in (omega arith, omega arith))))

  first_more : (m : ℕ) (pre₁ : List Entry) (i₁ : ℕ) → m ≤ k + 1 → many [] ◌∷◌ m entry_at image start ≡ got pre₁ i₁ → (y : List ℕ) (j : ℕ) → 0 < get_or filled j 0 → get_or filled j 0 < i₁ → has_id image y (get_or filled j 0) ≡ true
      → is_some (first_entry y pre₁) ≡ true
  first_more m pre₁ i₁ l hm y j z lt hy = placed_either places (seek_of image places x.id) at j
      (λ e.
      let hy' : has_id image y (get_or places j 0) ≡ true = ap (has_id image y) (sym e) ∙ hy in
      let b = below j in
      by_cases k m l (λ le. p.first m pre₁ i₁ le hm y j (omega arith) (omega arith) hy')
      (λ em. both (subst (λ (z : ℕ). many [] ◌∷◌ z entry_at image start ≡ got pre₁ i₁) em hm) hp' (λ epre _.
      ap (λ (t : List Entry). is_some (first_entry y t)) epre ∙ first_snoc y pre x ∙ ap (λ (c : Bool). c || same_bytes x.id y) (p.first k pre at (omega arith) hp y j (omega arith) b hy'))))
      (λ e.
      let hy' : has_id image y at ≡ true = ap (has_id image y) (sym e) ∙ hy in
      by_cases k m l (λ le. let n = ends m pre₁ i₁ le hm in absurd (omega arith))
      (λ em. both (subst (λ (z : ℕ). many [] ◌∷◌ z entry_at image start ≡ got pre₁ i₁) em hm) hp' (λ epre _.
      let ey : x.id ≡ y = span_one image x.id y (behind 1 span_at image at) has hy' in
      let s : same_bytes x.id y ≡ true = ap (same_bytes x.id) (sym ey) ∙ same_refl x.id in
      ap (λ (t : List Entry). is_some (first_entry y t)) epre ∙ first_snoc y pre x ∙ ap (λ (c : Bool). is_some (first_entry y pre) || c) s ∙ or_true (is_some (first_entry y pre)))))

  placed_more : Placed image start (k + 1) filled
  placed_more = record { low = low_more; first = first_more }

-- entries are placed, one after the other
pub record PlaceFrom (image : List ℕ) (start n k at : ℕ) (places out : List ℕ) : Type 0 where
  pub says : (pre : List Entry) → many [] ◌∷◌ k entry_at image start ≡ got pre at → (es : List Entry) (f : ℕ) → many [] ◌∷◌ n entry_at image at ≡ got es f
      → length image ≤ 65536 → length places ≡ 8200 → 0 < at → Ends image start k at → ((h : ℕ) → get_or places h 0 < at) → Placed image start k places → Placed image start (k + n) out

module _ (image : List ℕ) (start : ℕ) where
  pub place_none : {n k at : ℕ} {places : List ℕ} → n ≤ 0 → PlaceFrom image start n k at places places
  place_none {n} {k} z = record { says = λ pre hp es f q _ _ _ _ _ p. record { low = λ j pre' i l. p.low j pre' i (omega arith); first = λ j pre' i l. p.first j pre' i (omega arith) } }

  pub place_bad : {n k at : ℕ} {places out : List ℕ} → 0 < n → behind 1 span_at image at ≡ bad → PlaceFrom image start n k at places out
  place_bad {n} {k} {at} z h = record { says = λ pre hp es f q _ _ _ _ _ _. first_unread image n at z q h }

  pub place_stuck : {n k at : ℕ} {places out : List ℕ} {r : Next} → 0 < n → r ≡ next_of (entry_outline image at) → r ≡ None → PlaceFrom image start n k at places out
  place_stuck {n} {k} {at} z is b = record { says = λ pre hp es f q _ _ _ _ _ _. first_endless image n at z q is b }

  pub place_next : (count : ℕ) {k at a e i : ℕ} {places places' out : List ℕ} {r : Next} → k < count → behind 1 span_at image at ≡ got a e
      → places' ≡ placed places (seek_of image places (part image a (e - a))) (at % 65536) → r ≡ next_of (entry_outline image at) → r ≡ Some i
      → PlaceFrom image start (count - (k + 1)) (k + 1) i places' out → PlaceFrom image start (count - k) k at places out
  place_next count {k} {at} {a} {e} {i} {places} {places'} {out} lt hi ep is w rest = record {
    says = λ pre hp es f q li len za ends below p.
        turn_ends image count k at lt q is w (λ x es' hx hl el.
        let on = entry_on image at hx in
        let size = entry_size image at hx in let size0 = size.0 in let size1 = size.1 in
        let ea : at % 65536 ≡ at = omega arith in
        let ei : x.id ≡ part image a (e - a) = id_there image at hi hx in
        let hp' : many [] ◌∷◌ (k + 1) entry_at image start ≡ got (pre ++ (x ∷ [])) i = rw add-one (many_snoc entry_at image k start hp hx) in
        let has : has_id image x.id at ≡ true = has_span image x.id at hi ∙ ap (λ (t : List ℕ). same_bytes t x.id) (sym ei) ∙ same_refl x.id in
        let ep' : placed places (seek_of image places x.id) at ≡ places' = ap (λ (t : List ℕ). placed places (seek_of image places t) at) ei ∙ ap (placed places (seek_of image places (part image a (e - a)))) (sym ea) ∙ sym ep in
        let len' : length places' ≡ 8200 = ap length (sym ep') ∙ placed_length places (seek_of image places x.id) at ∙ len in
        let below' : (h : ℕ) → get_or places' h 0 < i = λ h. subst (λ (l : List ℕ). get_or l h 0 < i) ep' (below_more image start k at i pre x hp hp' za on has ends places len below p h) in
        let all : Placed image start (k + 1) places' = subst (Placed image start (k + 1)) ep' (placed_more image start k at i pre x hp hp' za on has ends places len below p) in
        let sum : k + 1 + (count - (k + 1)) ≡ k + (count - k) = omega arith in
        subst (λ (z : ℕ). Placed image start z out) sum (rest.says (pre ++ (x ∷ [])) hp' es' f hl li len' (omega arith) (ends_more image start k at i pre x hp hp' za on has ends places len below p) below' all));
  }

-- a table that is free
pub zero_at : (n h : ℕ) → ◌≡◌ {A = ℕ} (get_or (replicate n 0) h 0) 0
zero_at zero h = refl
zero_at (suc n) zero = refl
zero_at (suc n) (suc h) = zero_at n h

-- all entries of an image are placed
pub place_start : {image places out : List ℕ} {count start : ℕ} → number_at 2 image 5 ≡ got count start → PlaceFrom image start (count - 0) 0 start places out
    → (es : List Entry) (f : ℕ) → resource_of image ≡ got es f → Cleared places → Placed image start count out
unfolding many first_entry is_some max_image
place_start {image} {places} {out} {count} {start} h w es f hr clear =
    let len : length places ≡ 8200 = ap length clear ∙ length-replicate {A = ℕ} 8200 0 in
    let zeros : (j : ℕ) → get_or places j 0 ≡ 0 = λ j. ap (λ (l : List ℕ). get_or l j 0) clear ∙ zero_at 8200 j in
    whole_resource image hr (λ k hk hm ef le _.
    both h hk (λ ek es'.
    let ec : count - 0 ≡ k = omega arith in
    let none : Placed image start 0 places = record {
      low = λ j pre i l hj x hx s. many_nil [] ◌∷◌ entry_at image j start (omega arith) hj (λ ep _. let e : ◌≡◌ {A = Bool} false true = ap (λ (t : List Entry). is_some (first_entry x t)) (sym ep) ∙ hx in let z : ◌≡◌ {A = ℕ} 0 1 = cc in absurd (omega arith));
      first = λ m pre i l hm x j z lt hy. let c = zeros j in absurd (omega arith);
    } in
    let sum : 0 + (count - 0) ≡ count = omega arith in
    subst (λ (z : ℕ). Placed image start z out) sum
    (w.says [] refl es f (rw (ec, es') hm) (omega arith) len (omega arith) (λ m pre i l hj. many_nil [] ◌∷◌ entry_at image m start (omega arith) hj (λ _ ei. omega arith)) (λ b. let c = zeros b in omega arith) none)))

pub place_all : {image places out : List ℕ} {count start : ℕ} → number_at 2 image 5 ≡ got count start → PlaceFrom image start (count - 0) 0 start places out
    → (es : List Entry) (f : ℕ) → resource_of image ≡ got es f → Cleared places → PlacesAll image out
place_all {image} {places} {out} {count} {start} h w es f hr clear n s₀ hn =
    both h hn (λ en es₁. subst (λ (j : ℕ). Placed image j n out) es₁ (subst (λ (j : ℕ). Placed image start j out) en (place_start h w es f hr clear)))

pub place_unread : {image out : List ℕ} → number_at 2 image 5 ≡ bad → PlacesAll image out
place_unread h n s₀ hn = never h hn
