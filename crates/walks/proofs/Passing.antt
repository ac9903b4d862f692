-- The outlines and the decoders: what a decoder reads, its outline passes, to the same end. Callers that walk over checked bytes cite these laws.
use Rattle.records.specs.Relations.Answer.{Next}
use Rattle.std.specs.Prelude.{Some}
use mathlib.Core.Path.{◌≡◌, refl, ap, sym, ◌∙◌}
use mathlib.Core.Bool.{Bool}
use mathlib.Core.List.{List, [], ◌∷◌}
use mathlib.Core.Option.{Option}
use Prim.Native.Nat.{ℕ, zero, suc, ◌+◌, ◌≤◌}
use native.Mathlib.Omega.{arith}
use lib.ListN.{length}
use Rattle.records.specs.Got.{got, Parser, pick}
use Rattle.records.specs.Relations.Answer.{next_of}
use Rattle.records.specs.Bytes.{part, byte_at, number_at, str_at}
use Rattle.records.specs.Tree.{Literal, Key, Named, Pattern, Expression, Inline, Arguments, Inlines, no_inline, and, no_variant, or, Variant}
use Rattle.records.specs.Decode.{many, flag_at, optional_at, id_at, key_at, named_at, element_at, pattern_at, variant_at, inlines_at, arguments_at, term_arguments_at, select_at, inline_at, expression, inline}
use Rattle.records.proofs.Laws.{after_elim, after_is, got_elim, bytes_in, bytes_inv, number_inv}
use Rattle.records.proofs.Local.{local_pattern, local_expression}
use Rattle.records.proofs.Views.{never, as_elim, next_is, next_of_law, id_str, text_str, string_str, number_str, flag_elim, optional_elim, literal_str, key_elim, named_elim, named_arguments_elim, element_elim, pattern_elim, variant_elim, arguments_elim, term_arguments_elim, term_elim, select_elim, Body, a_string, a_number, is_function, is_message, is_term, is_variable, is_nested, body_view, expr_elim}
use Rattle.walks.specs.Outline.{Outline, sized_at, pattern_outline, str_outline, many_outline, optional_outline, named_outline, variant_outline, arguments_outline, rest_outline, select_outline, body_outline, expression_outline, element_outline}
use Rattle.walks.specs.Relations.Passes.{Passes}

-- a pattern: its length says where it ends
module _ (s : List ℕ) (at : ℕ) where
  sized_is : {n p f : ℕ} → number_at 4 s at ≡ got n p → p + n ≡ f → f ≤ length s → (b : List ℕ) × (sized_at 4 s at ≡ got b f)
  unfolding sized_at
  sized_is {n} {p} {f} h e le = (part s p n, after_is (number_at 4 s at) _ h ∙ bytes_in s p n (omega arith) ∙ ap (λ (j : ℕ). got (part s p n) j) e)

  pattern_is : (d : ℕ) {x : Pattern} {f : ℕ} → pattern_at (expression d) s at ≡ got x f → (b : List ℕ) × (sized_at 4 s at ≡ got b f)
  pattern_is d {f = f} h =
      pattern_elim (expression d) s at h (λ n p k j es hn _ _ _ ef _.
      let i = number_inv s 4 at hn in let i0 = i.0 in
      let l = local_pattern (local_expression d) in
      let le : f ≤ length s = l.inside s at (omega arith) h in
      sized_is hn (sym ef) le)

  pub pattern_passed : {r : Next} → r ≡ next_of (sized_at 4 s at) → (d : ℕ) → Passes (pattern_at (expression d) s at) r
  pattern_passed is d x f h = next_of_law is (pattern_is d h).1

  -- within the bytes, and not before the pattern
  pub sized_within : {r : Next} {f : ℕ} → r ≡ next_of (sized_at 4 s at) → r ≡ Some f → (at ≤ f) × (f ≤ length s)
  unfolding sized_at
  sized_within is w =
      next_is is w (λ b h.
      after_elim (number_at 4 s at) _ h (λ n p hn hb.
      let i = number_inv s 4 at hn in let i1 = i.1 in
      let j = bytes_inv s p n hb in let j0 = j.0 in let j2 = j.2 in
      (omega arith, omega arith)))

-- a Str that keeps a rule is a Str
module _ (s : List ℕ) where
  str_is : (at : ℕ) {t : List ℕ} {e : ℕ} → str_at s at ≡ got t e → str_outline s at ≡ got tt e
  unfolding str_outline
  str_is at h = after_is (str_at s at) _ h

  -- a Flag, and what it announces
  flag_none : (p : Outline) (at : ℕ) {e : ℕ} → byte_at s at ≡ got 0 e → optional_outline p s at ≡ got tt e
  unfolding optional_outline pick
  flag_none p at h = after_is (byte_at s at) _ h

  flag_some : (p : Outline) (at i : ℕ) {e : ℕ} → byte_at s at ≡ got 1 i → p s i ≡ got tt e → optional_outline p s at ≡ got tt e
  unfolding optional_outline pick
  flag_some p at i h q = after_is (byte_at s at) _ h ∙ q

  option_is : (at : ℕ) {o : Option (List ℕ)} {e : ℕ} → optional_at id_at s at ≡ got o e → optional_outline str_outline s at ≡ got tt e
  option_is at h = optional_elim id_at s at h (λ hb _. flag_none str_outline at hb) (λ i a hb ha _. flag_some str_outline at i hb (str_is i (id_str s i ha)))

  -- a named argument: its name, and its literal
  named_is : (at : ℕ) {x : List ℕ × Literal} {e : ℕ} → named_at s at ≡ got x e → named_outline s at ≡ got tt e
  unfolding named_outline
  named_is at h =
      named_elim s at h (λ n p l hn hl _.
      literal_str s p hl (λ tag i t hb hs.
      after_is (str_at s at) _ (id_str s at hn) ∙ after_is (byte_at s p) _ hb ∙ str_is i hs))

  -- a key is a tag and a Str
  key_str : {C : Type 0} (at : ℕ) {x : Key} {e : ℕ} → key_at s at ≡ got x e → ((tag p : ℕ) (t : List ℕ) → byte_at s at ≡ got tag p → str_at s p ≡ got t e → C) → C
  key_str at h c = key_elim s at h (λ p t hb hs _. c 1 p t hb (id_str s p hs)) (λ p t hb hs _. c 2 p t hb (number_str s p hs))

  flag_byte : {C : Type 0} (at : ℕ) {b : Bool} {e : ℕ} → flag_at s at ≡ got b e → ((f : ℕ) → byte_at s at ≡ got f e → C) → C
  flag_byte at h c = flag_elim s at h (λ hb _. c 0 hb) (λ hb _. c 1 hb)

  variant_is : (d at : ℕ) {x : Variant} {e : ℕ} → variant_at (expression d) s at ≡ got x e → variant_outline s at ≡ got tt e
  unfolding variant_outline pattern_outline
  variant_is d at {e = e} h =
      variant_elim (expression d) s at h (λ k p b q y hk hb hy _.
      key_str at hk (λ tag i t ht hs.
      flag_byte p hb (λ f hf.
      let c = pattern_is s q d hy in
      after_is (byte_at s at) _ ht ∙ after_is (str_at s i) _ hs ∙ after_is (byte_at s p) _ hf ∙ after_is (sized_at 4 s q) _ c.1)))

  -- of many, each
  module _ {A L : Type 0} (nil : L) (cons : A → L → L) (p : Parser A) (o : Outline) (each : (at : ℕ) (a : A) (e : ℕ) → p s at ≡ got a e → o s at ≡ got tt e) where
    many_is : (n at : ℕ) {l : L} {e : ℕ} → many nil cons n p s at ≡ got l e → many_outline n o s at ≡ got tt e
    unfolding many many_outline
    many_is zero at h = got_elim h (λ _ y. ap (λ (j : ℕ). got tt j) y)
    many_is (suc n) at {e = e} h =
        after_elim (p s at) _ h (λ a i ha h.
        as_elim (cons a) _ h (λ l hl _.
        after_is (o s at) _ (each at a i ha) ∙ after_is (many_outline n o s i) _ (many_is n i hl)))

-- what an expression holds, where those one level deeper are passed
module _ (s : List ℕ) (d : ℕ) where
  abbrev o : Outline
  o = expression_outline d

  abbrev Deeper : Type 0
  Deeper = (at : ℕ) → ((x : Expression) (e : ℕ) → expression d s at ≡ got x e → o s at ≡ got tt e) × ((x : Inline) (e : ℕ) → inline d s at ≡ got x e → o s at ≡ got tt e)

  module _ (deeper : Deeper) where
    arguments_is : (at : ℕ) {x : Inlines × Named} {e : ℕ} → arguments_at (inline d) s at ≡ got x e → arguments_outline o s at ≡ got tt e
    unfolding arguments_outline inlines_at
    arguments_is at h =
        arguments_elim (inline d) s at h (λ n p xs q m r ns hn hx hm hns _.
        named_arguments_elim m s r hns (λ hl _.
        after_is (number_at 2 s at) _ hn ∙ after_is (many_outline n o s p) _ (many_is s no_inline and (inline d) o (λ i x e. (deeper i).1 x e) n p hx)
        ∙ after_is (number_at 2 s q) _ hm ∙ many_is s [] ◌∷◌ named_at named_outline (λ i x e g. named_is s i g) m r hl))

    given_is : (at : ℕ) {x : Arguments} {e : ℕ} → term_arguments_at (inline d) s at ≡ got x e → optional_outline (arguments_outline o) s at ≡ got tt e
    given_is at h = term_arguments_elim (inline d) s at h (λ hb _. flag_none s (arguments_outline o) at hb) (λ p a hb ha _. flag_some s (arguments_outline o) at p hb (arguments_is p ha))

    select_is : (at : ℕ) {x : Expression} {e : ℕ} → select_at (expression d) (inline d) s at ≡ got x e → select_outline o s at ≡ got tt e
    unfolding select_outline
    select_is at h =
        select_elim (expression d) (inline d) s at h (λ i p k q vs hi hk _ hv _.
        after_is (o s at) _ ((deeper at).1 i p hi) ∙ after_is (number_at 2 s p) _ hk ∙ many_is s no_variant or (variant_at (expression d)) variant_outline (λ j x e g. variant_is s d j g) k q hv)

    -- what follows a tag
    module _ (p : ℕ) {x : Inline} {e : ℕ} where
      body_is : (tag : ℕ) → Body (expression d) (inline d) s p tag x e → body_outline o tag s p ≡ got tt e
      unfolding body_outline rest_outline pick
      body_is tag (a_string t g h _) = rw g (after_is (str_at s p) _ (string_str s p h))
      body_is tag (a_number t g h _) = rw g (after_is (str_at s p) _ (number_str s p h))
      body_is tag (is_function n q a g hn ha _) = rw g (after_is (str_at s p) _ (id_str s p hn) ∙ arguments_is q ha)
      body_is tag (is_message n q a g hn ha _) = rw g (after_is (str_at s p) _ (id_str s p hn) ∙ option_is s q ha)
      body_is tag (is_term g h) =
          rw g (term_elim (inline d) s p h (λ n q a i b hn ha hb _.
          after_is (str_at s p) _ (id_str s p hn) ∙ after_is (optional_outline str_outline s q) _ (option_is s q ha) ∙ given_is i hb))
      body_is tag (is_variable n g hn _) = rw g (after_is (str_at s p) _ (id_str s p hn))
      body_is tag (is_nested y g h _) = rw g ((deeper p).0 y e h)

    select_body : (p : ℕ) {x : Expression} {e : ℕ} → select_at (expression d) (inline d) s p ≡ got x e → body_outline o 8 s p ≡ got tt e
    unfolding body_outline pick
    select_body p h = select_is p h

-- an expression, and an inline one, however deep they may nest
module _ (s : List ℕ) where
  expression_is : (d : ℕ) → Deeper s d
  unfolding expression inline inline_at expression_outline
  expression_is zero at = (λ x e h. never refl h, λ x e h. never refl h)
  expression_is (suc d) at = (
    λ x e h. expr_elim (expression d) (inline d) s at h
        (λ p hb hs. after_is (byte_at s at) _ hb ∙ select_body s d (expression_is d) p hs)
        (λ tag p i hb _ _ hi. after_is (byte_at s at) _ hb ∙ body_is s d (expression_is d) p tag (body_view (expression d) (inline d) s p tag hi)),
    λ x e h. after_elim (byte_at s at) _ h (λ tag p hb hi. after_is (byte_at s at) _ hb ∙ body_is s d (expression_is d) p tag (body_view (expression d) (inline d) s p tag hi)),
  )

module _ (s : List ℕ) (at d : ℕ) {r : Next} where
  pub expression_passed : r ≡ next_of (expression_outline d s at) → Passes (expression d s at) r
  expression_passed is x f h = next_of_law is ((expression_is s d at).0 x f h)

  pub inline_passed : r ≡ next_of (expression_outline d s at) → Passes (inline d s at) r
  inline_passed is x f h = next_of_law is ((expression_is s d at).1 x f h)

  pub element_passed : r ≡ next_of (element_outline d s at) → Passes (element_at (expression d) s at) r
  unfolding element_outline pick
  element_passed is x f h =
      element_elim (expression d) s at h
      (λ p t hb ht _. next_of_law is (after_is (byte_at s at) _ hb ∙ str_is s p (text_str s p ht)))
      (λ p y hb hy _. next_of_law is (after_is (byte_at s at) _ hb ∙ (expression_is s d p).0 y f hy))

-- what the walkers of this crate pass by themselves
module _ (s : List ℕ) (at : ℕ) {r : Next} where
  pub option_passed : r ≡ next_of (optional_outline str_outline s at) → Passes (optional_at id_at s at) r
  option_passed is x f h = next_of_law is (option_is s at h)

  pub named_passed : r ≡ next_of (named_outline s at) → Passes (named_at s at) r
  named_passed is x f h = next_of_law is (named_is s at h)

  pub names_passed : (n : ℕ) → r ≡ next_of (many_outline n named_outline s at) → Passes (many [] ◌∷◌ n named_at s at) r
  names_passed n is x f h = next_of_law is (many_is s [] ◌∷◌ named_at named_outline (λ i y e g. named_is s i g) n at h)

  pub variant_passed : r ≡ next_of (variant_outline s at) → (d : ℕ) → Passes (variant_at (expression d) s at) r
  variant_passed is d x f h = next_of_law is (variant_is s d at h)

  pub variants_passed : (n : ℕ) → r ≡ next_of (many_outline n variant_outline s at) → (d : ℕ) → Passes (many no_variant or n (variant_at (expression d)) s at) r
  variants_passed n is d x f h = next_of_law is (many_is s no_variant or (variant_at (expression d)) variant_outline (λ i y e g. variant_is s d i g) n at h)

  pub arguments_passed : (d : ℕ) → r ≡ next_of (arguments_outline (expression_outline d) s at) → Passes (arguments_at (inline d) s at) r
  arguments_passed d is x f h = next_of_law is (arguments_is s d (expression_is s d) at h)

  pub term_arguments_passed : (d : ℕ) → r ≡ next_of (optional_outline (arguments_outline (expression_outline d)) s at) → Passes (term_arguments_at (inline d) s at) r
  term_arguments_passed d is x f h = next_of_law is (given_is s d (expression_is s d) at h)

  pub inlines_passed : (d n : ℕ) → r ≡ next_of (many_outline n (expression_outline d) s at) → Passes (inlines_at (inline d) n s at) r
  unfolding inlines_at
  inlines_passed d n is x f h = next_of_law is (many_is s no_inline and (inline d) (expression_outline d) (λ i y e. (expression_is s d i).1 y e) n at h)
