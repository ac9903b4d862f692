-- What the first bytes of a record say of it: a store's locale byte and isolating Flag, an expression's tag.
use mathlib.Core.Path.{◌≡◌, refl, ap, sym, ◌∙◌}
use mathlib.Core.List.{List}
use mathlib.Core.Bool.{Bool, true, false, ◌||◌, ◌&&◌, not}
use Prim.Native.Nat.{ℕ, ◌-◌}
use native.Mathlib.Omega.{arith}
use lib.ListN.{get_or}
use lib.Dec.{eqb, ltb}
use Rattle.records.specs.Got.{got}
use Rattle.records.specs.Bytes.{byte_at}
use Rattle.records.specs.Tree.{Expression, Inline}
use Rattle.records.specs.Decode.{expression, inline}
use Rattle.records.specs.Images.{Store, store_of}
use Rattle.records.proofs.Views.{both, flag_elim, select_elim, term_elim, Body, a_string, a_number, is_function, is_message, is_term, is_variable, is_nested, inline_elim, expression_elim}
use Rattle.records.proofs.Laws.{byte_inv}
use Rattle.images.proofs.Views.{store_elim}
use Rattle.resolution.specs.Resolve.{bare, bare_inline}
use Rattle.heads.specs.Header.{locale_byte, isolated}
use Rattle.heads.specs.Tags.{text_tag, bare_tag, bare_at, marks_at}
use borrow.Author.Tests.{eqb-true}

-- a store: its sixth byte is its locale, its seventh its isolating Flag
module _ (s : List ℕ) {x : Store} {e : ℕ} (h : store_of s ≡ got x e) where
  locale_byte_law : get_or s 5 0 ≡ x.locale
  locale_byte_law = store_elim s h (λ _ _ _ _ hb _ _ _ _ _. sym (byte_inv s 5 hb).1)

  isolating_byte : eqb (get_or s 6 0) 1 ≡ x.isolating
  isolating_byte =
      store_elim s h (λ _ _ _ _ _ _ hf _ _ _. flag_elim s 6 hf
      (λ hb w. let v : 0 ≡ get_or s 6 0 = (byte_inv s 6 hb).1 in ap (λ (j : ℕ). eqb j 1) (sym v) ∙ sym w)
      (λ hb w. let v : 1 ≡ get_or s 6 0 = (byte_inv s 6 hb).1 in ap (λ (j : ℕ). eqb j 1) (sym v) ∙ sym w))

pub locale_is : (s : List ℕ) {r : ℕ} → r ≡ locale_byte s → (x : Store) (e : ℕ) → store_of s ≡ got x e → r ≡ x.locale
unfolding locale_byte
locale_is s is x e h = is ∙ locale_byte_law s h

pub isolating_is : (s : List ℕ) (n : ℕ) {r : Bool} → r ≡ isolated s n → (x : Store) (e : ℕ) → store_of s ≡ got x e → r ≡ (ltb 1 n && x.isolating)
unfolding isolated
isolating_is s n is x e h = is ∙ ap (λ (b : Bool). ltb 1 n && b) (isolating_byte s h)

-- an expression: the byte that stands there is its tag
module _ (s : List ℕ) (at d : ℕ) {x : Expression} {f : ℕ} (h : expression d s at ≡ got x f) where
  tag_bare : (tag p : ℕ) → byte_at s at ≡ got tag p → bare_tag tag ≡ bare x
  unfolding bare bare_inline bare_tag
  tag_bare tag p g =
      expression_elim s at d h
      (λ p' hb _ hs. select_elim _ _ s p' hs (λ i _ _ _ vs _ _ _ _ w. both g hb (λ et _. rw (w, et))))
      (λ _ _ i _ _ _ w hi. rw w (inline_elim s at d hi (λ tag' p' hb _ b. both g hb (λ et _. rw et (body i tag' p' b)))))
    where
      body : (i : Inline) (t q : ℕ) → Body (expression (d - 1)) (inline (d - 1)) s q t i f → bare_tag t ≡ bare_inline i
      body i t q (a_string _ u _ w) = rw (w, u)
      body i t q (a_number _ u _ w) = rw (w, u)
      body i t q (is_function _ _ _ u _ _ w) = rw (w, u)
      body i t q (is_message _ _ _ u _ _ w) = rw (w, u)
      body i t q (is_term u ht) = term_elim _ s q ht (λ _ _ _ _ _ _ _ _ w. rw (w, u))
      body i t q (is_variable _ u _ w) = rw (w, u)
      body i t q (is_nested _ u _ w) = rw (w, u)

  bare_at_law : bare_at s at ≡ bare x
  unfolding bare_at
  bare_at_law =
      expression_elim s at d h
      (λ p hb _ _. ap bare_tag (sym (byte_inv s at hb).1) ∙ tag_bare _ p hb)
      (λ tag p i hb _ _ _ _. ap bare_tag (sym (byte_inv s at hb).1) ∙ tag_bare tag p hb)

pub bare_is : (s : List ℕ) (at : ℕ) {r : Bool} → r ≡ bare_at s at → (d : ℕ) (x : Expression) (f : ℕ) → expression d s at ≡ got x f → r ≡ bare x
bare_is s at is d x f h = is ∙ bare_at_law s at d h

pub marks_are : (s : List ℕ) (iso : Bool) (at : ℕ) {r : Bool} → r ≡ marks_at s iso at → (d : ℕ) (x : Expression) (f : ℕ) → expression d s at ≡ got x f → r ≡ (iso && not (bare x))
unfolding marks_at
marks_are s iso at is d x f h = is ∙ ap (λ (b : Bool). iso && not b) (bare_at_law s at d h)

-- the tags of inline expressions whose values are texts of their own
pub text_tag_law : (t : ℕ) {C : Type 0} → text_tag t ≡ true → (t ≡ 4 → C) → (t ≡ 5 → C) → (t ≡ 7 → C) → C
unfolding text_tag
text_tag_law t {C} h c4 c5 c7 = go (eqb t 4) refl (eqb t 5) refl h
  where
    go : (a : Bool) → eqb t 4 ≡ a → (b : Bool) → eqb t 5 ≡ b → a || (b || eqb t 7) ≡ true → C
    go true e4 b e5 h = c4 (eqb-true t 4 e4)
    go false e4 true e5 h = c5 (eqb-true t 5 e5)
    go false e4 false e5 h = c7 (eqb-true t 7 h)

pub no_text_tag : (t : ℕ) → text_tag t ≡ false → (t ≡ 4 → ⊥) × (t ≡ 5 → ⊥) × (t ≡ 7 → ⊥)
unfolding text_tag
no_text_tag t h = (λ e. differ (ap text_tag (sym e) ∙ h), λ e. differ (ap text_tag (sym e) ∙ h), λ e. differ (ap text_tag (sym e) ∙ h))
  where
    differ : true ≡ false → ⊥
    differ e = let z : ◌≡◌ {A = ℕ} 0 1 = cc in absurd (omega arith)
