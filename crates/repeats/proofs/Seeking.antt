-- An id's slot: where it is sought, and that it stays where slots that are taken stay as they are.
use mathlib.Core.Path.{◌≡◌, refl, ap, sym, ◌∙◌}
use mathlib.Core.Bool.{Bool, true, false, cond, ◌||◌}
use mathlib.Core.List.{List, [], ◌∷◌}
use Prim.Native.Nat.{ℕ, zero, suc, ◌+◌, ◌-◌, ◌≤◌, ◌<◌}
use native.Mathlib.Numerals.{add-one}
use native.Mathlib.Omega.{arith}
use lib.ListN.{get_or}
use lib.Dec.{eqb, ltb}
use borrow.Author.Tests.{eq-eqb, ne_eqb, eqb-false, lt-ltb, le-ltb, ltb-true, ltb-false}
use Rattle.records.specs.Got.{Got, got, bad}
use Rattle.records.specs.Bytes.{part, span_at}
use Rattle.decimals.specs.Bytes.{same_bytes}
use Rattle.decimals.proofs.Same.{same_eq}
use Rattle.entries.specs.Outline.{behind}
use Rattle.repeats.proofs.Marking.{or_true}
use Rattle.repeats.specs.Relations.Slots.{mixed, slot_of, span_is, has_id, suits, either, seek_from, seek_of, if_slot, slotted, Stands}
use Rattle.std.specs.Prelude.{Option, Some, None}

-- equal bytes
pub same_refl : (a : List ℕ) → same_bytes a a ≡ true
unfolding same_bytes
same_refl [] = refl
same_refl (x ∷ a) = rw (eq-eqb x x refl) (same_refl a)

pub positive : (n : ℕ) → (n ≡ 0 → ⊥) → 0 < n
positive zero f = absurd (f refl)
positive (suc n) f = omega arith

or_right : (a b : Bool) → a ≡ false → a || b ≡ b
or_right true b h = let z : ◌≡◌ {A = ℕ} 0 1 = cc in absurd (omega arith)
or_right false b h = refl

or_neither : (a b : Bool) → a || b ≡ false → a ≡ false
or_neither true b h = h
or_neither false b h = refl

-- a slot is below 8,192
pub slot_small : (id : List ℕ) → slot_of id < 8192
unfolding slot_of mixed
slot_small id = omega arith

-- one span has one id
pub span_one : (image x y : List ℕ) (g : Got ℕ) → span_is image x g ≡ true → span_is image y g ≡ true → x ≡ y
unfolding span_is
span_one image x y (got a e) h k = sym (same_eq (part image a (e - a)) x h) ∙ same_eq (part image a (e - a)) y k
span_one image x y bad h k = let z : ◌≡◌ {A = ℕ} 0 1 = cc in absurd (omega arith)

-- what suits an id
module _ (image x : List ℕ) where
  pub suits_free : {p : ℕ} → p ≡ 0 → true ≡ suits image x p
  unfolding suits
  suits_free {p} e = sym (ap (λ (b : Bool). b || has_id image x p) (eq-eqb p 0 e))

  pub suits_taken : {p : ℕ} → (p ≡ 0 → ⊥) → suits image x p ≡ has_id image x p
  unfolding suits
  suits_taken {p} n = or_right (eqb p 0) (has_id image x p) (ne_eqb p 0 n)

  pub suits_id : (p : ℕ) → has_id image x p ≡ true → suits image x p ≡ true
  unfolding suits
  suits_id p h = ap (λ (b : Bool). eqb p 0 || b) h ∙ or_true (eqb p 0)

  pub not_free : {p : ℕ} → suits image x p ≡ false → 0 < p
  unfolding suits
  not_free {p} h = positive p (eqb-false p 0 (or_neither (eqb p 0) (has_id image x p) h))

  pub suits_bad : {p : ℕ} → (p ≡ 0 → ⊥) → behind 1 span_at image p ≡ bad → false ≡ suits image x p
  unfolding span_is
  suits_bad {p} n h = sym (suits_taken n ∙ ap (span_is image x) h)

  pub suits_span : {p a e : ℕ} → (p ≡ 0 → ⊥) → behind 1 span_at image p ≡ got a e → same_bytes (part image a (e - a)) x ≡ suits image x p
  unfolding span_is
  suits_span {p} n h = sym (suits_taken n ∙ ap (span_is image x) h)

  pub has_span : (p : ℕ) {a e : ℕ} → behind 1 span_at image p ≡ got a e → has_id image x p ≡ same_bytes (part image a (e - a)) x
  unfolding span_is
  has_span p h = ap (span_is image x) h

-- a slot of the table, and what the code's answer says of it
pub slot_there : {h : ℕ} → h < 8200 → Some h ≡ if_slot h
unfolding if_slot
slot_there {h} l = rw (lt-ltb h 8200 l)

slot_none : (h : ℕ) → 8200 ≤ h → None ≡ if_slot h
unfolding if_slot
slot_none h l = rw (le-ltb h 8200 l)

pub slot_is : {r : Option ℕ} (h : ℕ) {j : ℕ} → r ≡ if_slot h → r ≡ Some j → (j ≡ h) × (j < 8200)
unfolding if_slot
slot_is {r} h {j} p q = go (ltb h 8200) refl (sym q ∙ p)
  where
    go : (b : Bool) → ltb h 8200 ≡ b → Some j ≡ cond b (Some h) None → (j ≡ h) × (j < 8200)
    go true e w = let i : j ≡ h = cc in let l = ltb-true h 8200 e in (i, omega arith)
    go false e w = let z : ◌≡◌ {A = ℕ} 0 1 = cc in absurd (omega arith)

pub slot_not : {r : Option ℕ} (h : ℕ) → r ≡ if_slot h → r ≡ None → 8200 ≤ h
unfolding if_slot
slot_not {r} h p q = go (ltb h 8200) refl (sym q ∙ p)
  where
    go : (b : Bool) → ltb h 8200 ≡ b → None ≡ cond b (Some h) None → 8200 ≤ h
    go true e w = let z : ◌≡◌ {A = ℕ} 0 1 = cc in absurd (omega arith)
    go false e w = ltb-false h 8200 e

-- steps of seeking
module _ (image places x : List ℕ) where
  pub seek_none : (n j : ℕ) → n ≤ 0 → seek_from image places x n j ≡ 8200
  unfolding seek_from
  seek_none zero j z = refl
  seek_none (suc n) j z = absurd (omega arith)

  pub seek_here : (n j : ℕ) → 0 < n → suits image x (get_or places j 0) ≡ true → seek_from image places x n j ≡ j
  unfolding seek_from
  seek_here zero j z h = absurd (omega arith)
  seek_here (suc n) j z h = ap (λ (b : Bool). either b j (seek_from image places x n (suc j))) h

  pub seek_on : (n j : ℕ) → 0 < n → suits image x (get_or places j 0) ≡ false → seek_from image places x n j ≡ seek_from image places x (n - 1) (j + 1)
  unfolding seek_from
  seek_on zero j z h = absurd (omega arith)
  seek_on (suc n) j z h =
      let e : suc n - 1 ≡ n = omega arith in
      let f : j + 1 ≡ suc j = add-one j in
      ap (λ (b : Bool). either b j (seek_from image places x n (suc j))) h ∙ ap (λ (m : ℕ). seek_from image places x m (suc j)) (sym e) ∙ ap (λ (i : ℕ). seek_from image places x (suc n - 1) i) (sym f)

  -- the loop of seek, with n slots left, from j on: the first that suits, and none
  pub seek_found : (n j : ℕ) → 0 < n → j < 8200 → suits image x (get_or places j 0) ≡ true → seek_from image places x n j ≡ seek_of image places x → Some j ≡ if_slot (seek_of image places x)
  seek_found n j z l t e = slot_there l ∙ ap if_slot (sym (seek_here n j z t) ∙ e)

  pub seek_turn : (n j : ℕ) → 0 < n → suits image x (get_or places j 0) ≡ false → seek_from image places x n j ≡ seek_of image places x → seek_from image places x (n - 1) (j + 1) ≡ seek_of image places x
  seek_turn n j z t e = sym (seek_on n j z t) ∙ e

  pub seek_ended : (n j : ℕ) → n ≤ 0 → seek_from image places x n j ≡ seek_of image places x → None ≡ if_slot (seek_of image places x)
  seek_ended n j z e = slot_none (seek_of image places x) (let h = seek_none n j z in let e' : seek_of image places x ≡ 8200 = sym e ∙ h in omega arith)

  -- what is found suits the id
  suits_from : (n j : ℕ) → seek_from image places x n j < 8200 → suits image x (get_or places (seek_from image places x n j) 0) ≡ true
  unfolding seek_from
  suits_from zero j l = absurd (omega arith)
  suits_from (suc n) j l = go (suits_from n (suc j)) (suits image x (get_or places j 0)) refl
    where
      go : (seek_from image places x n (suc j) < 8200 → suits image x (get_or places (seek_from image places x n (suc j)) 0) ≡ true) → (b : Bool) → suits image x (get_or places j 0) ≡ b
          → suits image x (get_or places (either (suits image x (get_or places j 0)) j (seek_from image places x n (suc j))) 0) ≡ true
      go ih true e = ap (λ (b : Bool). suits image x (get_or places (either b j (seek_from image places x n (suc j))) 0)) e ∙ e
      go ih false e =
          let er : either (suits image x (get_or places j 0)) j (seek_from image places x n (suc j)) ≡ seek_from image places x n (suc j) = ap (λ (b : Bool). either b j (seek_from image places x n (suc j))) e in
          ap (λ (b : Bool). suits image x (get_or places (either b j (seek_from image places x n (suc j))) 0)) e ∙ ih (omega arith)

  pub seek_suits : seek_of image places x < 8200 → suits image x (slotted image places x) ≡ true
  unfolding seek_of
  seek_suits l = suits_from 8 (slot_of x) l

  pub stands_id : Stands image places x → has_id image x (slotted image places x) ≡ true
  stands_id st = let t = st.taken in sym (suits_taken image x (λ z. let w : slotted image places x ≡ 0 = z in omega arith)) ∙ seek_suits st.inside

  -- an id's slot stays its slot, where slots that are taken stay as they are
  module _ (later : List ℕ) (kept : (j : ℕ) → 0 < get_or places j 0 → get_or later j 0 ≡ get_or places j 0) where
    stays_from : (n j : ℕ) → j + n ≤ 8200 → (seek_from image places x n j < 8200 → suits image x (get_or later (seek_from image places x n j) 0) ≡ true) → seek_from image later x n j ≡ seek_from image places x n j
    unfolding seek_from
    stays_from zero j l h = refl
    stays_from (suc n) j l h = go (stays_from n (suc j) (omega arith)) (suits image x (get_or places j 0)) refl
      where
        rest : Bool → ℕ
        rest b = either b j (seek_from image places x n (suc j))

        go : ((seek_from image places x n (suc j) < 8200 → suits image x (get_or later (seek_from image places x n (suc j)) 0) ≡ true) → seek_from image later x n (suc j) ≡ seek_from image places x n (suc j))
            → (b : Bool) → suits image x (get_or places j 0) ≡ b → either (suits image x (get_or later j 0)) j (seek_from image later x n (suc j)) ≡ either (suits image x (get_or places j 0)) j (seek_from image places x n (suc j))
        go ih true e =
            let er : either (suits image x (get_or places j 0)) j (seek_from image places x n (suc j)) ≡ j = ap rest e in
            let s : suits image x (get_or later j 0) ≡ true = ap (λ (i : ℕ). suits image x (get_or later i 0)) (sym er) ∙ h (omega arith) in
            ap (λ (b : Bool). either b j (seek_from image later x n (suc j))) s ∙ sym er
        go ih false e =
            let er : either (suits image x (get_or places j 0)) j (seek_from image places x n (suc j)) ≡ seek_from image places x n (suc j) = ap rest e in
            let s : suits image x (get_or later j 0) ≡ false = ap (suits image x) (kept j (not_free image x e)) ∙ e in
            ap (λ (b : Bool). either b j (seek_from image later x n (suc j))) s
            ∙ ih (λ g. ap (λ (i : ℕ). suits image x (get_or later i 0)) (sym er) ∙ h (omega arith))
            ∙ sym er

    pub seek_stays : (seek_of image places x < 8200 → suits image x (get_or later (seek_of image places x) 0) ≡ true) → seek_of image later x ≡ seek_of image places x
    unfolding seek_of
    seek_stays h = let s = slot_small x in stays_from 8 (slot_of x) (omega arith) h
