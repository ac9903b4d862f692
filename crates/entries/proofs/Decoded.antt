-- Where a decoder reads, the outline says the same: each record ends where its outline does, and heads say what was read. For callers:
-- past an entry and past an item.
use Rattle.records.specs.Relations.Answer.{Next}
use Rattle.std.specs.Prelude.{Some, None}
use mathlib.Core.Path.{◌≡◌, refl, ap, sym, subst, ◌∙◌}
use mathlib.Core.List.{List, [], ◌∷◌}
use Prim.Native.Nat.{ℕ, zero, suc, ◌+◌, ◌-◌, ◌<◌}
use native.Mathlib.Omega.{arith}
use Rattle.records.specs.Got.{Got, got, bad, Parser, after, pick}
use Rattle.records.specs.Relations.Answer.{next_of}
use Rattle.records.specs.Bytes.{part, bytes_at, number_at, span_at, str_at}
use Rattle.records.specs.Decode.{many, optional_at, entry_pattern_at, max_depth}
use Rattle.records.specs.Images.{Entry, attribute_at, attributes_at, entry_at, item_at}
use Rattle.records.proofs.Laws.{after_is, bytes_in, next_at}
use Rattle.records.proofs.Views.{both, never, next_none, next_end_is, next_of_law, optional_elim, attribute_elim, attributes_elim, many_cons, many_nil, id_str}
use Rattle.entries.specs.Outline.{behind, readable, value_outline, attribute_outline, attributes_outline, entry_outline, item_outline}
use Rattle.walks.specs.Relations.Passes.{Passes}
use Rattle.walks.specs.Outline.{Outline, sized_at, pattern_outline, many_outline, optional_outline}
use Rattle.walks.proofs.Passing.{pattern_passed}
use Rattle.entries.proofs.Open.{byte_bytes, entry_parts, item_record}
use Rattle.entries.proofs.Walk.{behind_str, list_none, list_next}

-- what one reads, the other reads too, to the same end
abbrev pub Ends : {A B : Type 0} → Got A → Got B → Type 0
Ends {A} {B} g h = (a : A) (f : ℕ) → g ≡ got a f → (b : B) × (h ≡ got b f)

past : {A B : Type 0} {g : Got A} {h : Got B} {r : Next} → Ends g h → r ≡ next_of h → Passes g r
past e is a f q = next_of_law is (e a f q).1

module _ (s : List ℕ) where
  pattern_ends : (at : ℕ) → Ends (entry_pattern_at s at) (pattern_outline s at)
  unfolding entry_pattern_at pattern_outline
  pattern_ends at x f q = let w = next_at (sized_at 4 s at) (sym (pattern_passed s at refl max_depth x f q)) in (tt, after_is (sized_at 4 s at) _ w.1)

  pub value_ends : (at : ℕ) → Ends (optional_at entry_pattern_at s at) (value_outline s at)
  unfolding value_outline optional_outline after pick
  value_ends at x f q =
      optional_elim entry_pattern_at s at q
      (λ hb _. (tt, rw hb))
      (λ i a hb ha _. let w = pattern_ends i a f ha in (tt, rw (hb, w.1)))

  pub attribute_ends : (at : ℕ) → Ends (attribute_at s at) (attribute_outline s at)
  unfolding attribute_outline
  attribute_ends at x f q = attribute_elim s at q (λ n p y hn hy _. let w = pattern_ends p y f hy in (tt, after_is (str_at s at) _ (id_str s at hn) ∙ w.1))

  many_ends : {A : Type 0} (p : Parser A) (o : Outline) → ((at : ℕ) → Ends (p s at) (o s at)) → (n at : ℕ) → Ends (many [] ◌∷◌ n p s at) (many_outline n o s at)
  unfolding many_outline many
  many_ends p o e zero at x f q = many_nil [] ◌∷◌ p s zero at (omega arith) q (λ _ ef. (tt, ap (got tt) (sym ef)))
  many_ends p o e (suc n) at x f q =
      many_cons [] ◌∷◌ p s (suc n) at (omega arith) q (λ a i l ha hl _.
      let m : suc n - 1 ≡ n = omega arith in
      let w = e at a i ha in
      let v = many_ends p o e n i l f (subst (λ (k : ℕ). many [] ◌∷◌ k p s i ≡ got l f) m hl) in
      (tt, after_is (o s at) _ w.1 ∙ after_is (many tt (λ a l. l) n o s i) _ v.1))

  attributes_ends : (at : ℕ) → Ends (attributes_at s at) (attributes_outline s at)
  unfolding attributes_outline
  attributes_ends at x f q = attributes_elim s at q (λ k p hk hm. let w = many_ends attribute_at attribute_outline attribute_ends k p x f hm in (tt, after_is (number_at 2 s at) _ hk ∙ w.1))

  pub entry_ends : (at : ℕ) → Ends (entry_at s at) (entry_outline s at)
  unfolding entry_outline
  entry_ends at x f q =
      entry_parts s at q (λ a e i hi _ hv ha.
      let v = value_ends e x.value i hv in
      let w = attributes_ends i x.attributes f ha in
      (tt, after_is (behind 1 str_at s at) _ (behind_str 1 s at hi) ∙ after_is (value_outline s e) _ v.1 ∙ w.1))

  pub item_ends : (at : ℕ) → Ends (item_at s at) (item_outline s at)
  unfolding item_outline
  item_ends at x f q =
      item_record s at q (λ m p n i hb hn ef w.
      let le = w.end in
      let e : p + n ≡ f = omega arith in
      (tt, after_is (bytes_at 1 s at) _ (byte_bytes s at hb) ∙ after_is (number_at 4 s p) _ hn ∙ after_is (bytes_at n s p) _ (bytes_in s p n (omega arith)) ∙ ap (got tt) e))

  -- past an entry, past an item
  pub entry_past : (at : ℕ) {r : Next} → r ≡ next_of (entry_outline s at) → Passes (entry_at s at) r
  entry_past at = past (entry_ends at)

  pub item_past : (at : ℕ) {r : Next} → r ≡ next_of (item_outline s at) → Passes (item_at s at) r
  item_past at = past (item_ends at)

-- one for one
abbrev pub Each : {A B : Type 0} → (A → B → Type 0) → List A → List B → Type 0
Each R [] [] = Unit {0}
Each R [] (b ∷ m) = ⊥
Each R (a ∷ l) [] = ⊥
Each R (a ∷ l) (b ∷ m) = R a b × Each R l m

-- what many read, and what their heads say
module _ {A B C : Type 0} (R : A → C → Type 0) (p : Parser A) (head : Parser C) (whole : Parser B) (s : List ℕ)
    (ends : (at : ℕ) → Ends (p s at) (whole s at)) (says : (at : ℕ) (a : A) (f : ℕ) → p s at ≡ got a f → (c : C) × (e : ℕ) × (head s at ≡ got c e) × R a c) where
  pub many_heads : (n at : ℕ) (l : List A) (f : ℕ) → many [] ◌∷◌ n p s at ≡ got l f → Each R l (readable n head whole s at)
  many_heads zero at l f q = many_nil [] ◌∷◌ p s zero at (omega arith) q (λ el _. rw (el, list_none head whole s zero at (omega arith)) tt)
  many_heads (suc n) at l f q =
      many_cons [] ◌∷◌ p s (suc n) at (omega arith) q (λ a i t ha ht el.
      let m : suc n - 1 ≡ n = omega arith in
      let w = ends at a i ha in
      let h = says at a i ha in
      let rest = many_heads n i t f (subst (λ (k : ℕ). many [] ◌∷◌ k p s i ≡ got t f) m ht) in
      rw (el, list_next head whole s (suc n) at (omega arith) h.2 w.1, m) (h.3, rest))

-- of many entries, from what the code reads of the first
module _ (s : List ℕ) (n at : ℕ) (z : 0 < n) {es : List Entry} {f : ℕ} (q : many [] ◌∷◌ n entry_at s at ≡ got es f) {C : Type 0} where
  -- none was read where the first has no Id, or no end
  pub first_unread : behind 1 span_at s at ≡ bad → C
  first_unread h = many_cons [] ◌∷◌ entry_at s n at z q (λ x e r hx _ _. entry_parts s at hx (λ a i j hi _ _ _. never h hi))

  module _ {r : Next} (is : r ≡ next_of (entry_outline s at)) where
    pub first_endless : r ≡ None → C
    first_endless h = many_cons [] ◌∷◌ entry_at s n at z q (λ x e t hx _ _. never (next_none is h) (entry_ends s at x e hx).1)

    pub first_ends : {i : ℕ} → r ≡ Some i → ((x : Entry) (t : List Entry) → entry_at s at ≡ got x i → many [] ◌∷◌ (n - 1) entry_at s i ≡ got t f → es ≡ x ∷ t → C) → C
    first_ends {i} h c =
        many_cons [] ◌∷◌ entry_at s n at z q (λ x e t hx ht el.
        let ei : e ≡ i = sym (next_end_is is h (entry_ends s at x e hx).1) in
        c x t (hx ∙ ap (got x) ei) (subst (λ (k : ℕ). many [] ◌∷◌ (n - 1) entry_at s k ≡ got t f) ei ht) el)

-- the same for the entries behind k of `count`
pub turn_ends : {C : Type 0} (s : List ℕ) (count k at : ℕ) {es : List Entry} {f i : ℕ} {r : Next} → k < count → many [] ◌∷◌ (count - k) entry_at s at ≡ got es f → r ≡ next_of (entry_outline s at) → r ≡ Some i
    → ((x : Entry) (t : List Entry) → entry_at s at ≡ got x i → many [] ◌∷◌ (count - (k + 1)) entry_at s i ≡ got t f → es ≡ x ∷ t → C) → C
turn_ends s count k at {f = f} {i = i} lt q is h c =
    first_ends s (count - k) at (omega arith) q is h (λ x t hx ht el.
    let e : count - k - 1 ≡ count - (k + 1) = omega arith in
    c x t hx (subst (λ (m : ℕ). many [] ◌∷◌ m entry_at s i ≡ got t f) e ht) el)

-- the Id of an entry stands where the code read it
pub id_there : (s : List ℕ) (at : ℕ) {a e : ℕ} {x : Entry} {f : ℕ} → behind 1 span_at s at ≡ got a e → entry_at s at ≡ got x f → x.id ≡ part s a (e - a)
id_there s at h hx = entry_parts s at hx (λ a' e' _ hi ei _ _. both h hi (λ ea ee. rw (ea, ee) ei))
