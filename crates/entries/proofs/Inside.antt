-- What is read lies in the bytes: each reader goes forward, and never past the end.
use mathlib.Core.Path.{◌≡◌, subst}
use mathlib.Core.Bool.{Bool}
use mathlib.Core.List.{List, [], ◌∷◌}
use Prim.Native.Nat.{ℕ, zero, suc, ◌-◌, ◌≤◌}
use native.Mathlib.Omega.{arith}
use lib.ListN.{length}
use borrow.Author.Tests.{ltb-true}
use Rattle.records.specs.Got.{got, Parser}
use Rattle.records.specs.Bytes.{byte_at, bytes_at, number_at, span_at}
use Rattle.records.specs.Tree.{Expression, Inline}
use Rattle.records.specs.Decode.{many, ruled_at, flag_at, optional_at, id_at, text_read_at, string_at, literal_number_at, literal_at, key_at, named_at, named_arguments_at, element_at, elements_at, pattern_at, variant_at, inlines_at, arguments_at, term_arguments_at, term_reference_at, select_at, expression, inline, max_depth, entry_pattern_at}
use Rattle.records.specs.Images.{attribute_at, attributes_at, kind_at, entry_at}
use Rattle.records.proofs.Laws.{after_elim, test_elim, got_elim, bytes_inv, number_inv}
use Rattle.records.proofs.Views as views

pub record Within (s : List ℕ) (at e : ℕ) : Type 0 where
  pub on : at ≤ e
  pub end : e ≤ length s

pub further : {s : List ℕ} {a b c : ℕ} → Within s a b → Within s b c → Within s a c
further h k = let x = h.on in let y = k.on in record { on = omega arith; end = k.end }

module _ (s : List ℕ) where
  abbrev pub Stays : {A : Type 0} → Parser A → Type 0
  Stays {A} p = (at : ℕ) (a : A) (e : ℕ) → at ≤ length s → p s at ≡ got a e → Within s at e

  pub byte_stays : Stays byte_at
  unfolding byte_at
  byte_stays at a e l h = test_elim _ _ h (λ t h. got_elim h (λ _ w. let k = ltb-true at (length s) t in record { on = omega arith; end = omega arith }))

  pub number_stays : (n : ℕ) → Stays (number_at n)
  number_stays n at a e l h = let k = number_inv s n at h in let x = k.0 in let y = k.1 in record { on = omega arith; end = omega arith }

  pub span_stays : Stays span_at
  unfolding span_at
  span_stays at a e l h =
      after_elim (number_at 2 s at) _ h (λ n p hn h.
      let w = number_stays 2 at n p l hn in
      after_elim (bytes_at n s p) _ h (λ bs i hb h.
      got_elim h (λ _ q.
      let k = bytes_inv s p n hb in
      let x = k.0 in let y = k.2 in let z = w.on in
      record { on = omega arith; end = omega arith })))

  pub ruled_stays : (ok : List ℕ → Bool) → Stays (ruled_at ok)
  ruled_stays ok at a e l h = views.ruled_elim ok s at h (λ p hs _ _. span_stays at p e l hs)

  pub id_stays : Stays id_at
  unfolding id_at
  id_stays at a e l h = ruled_stays _ at a e l h

  module _ {A L : Type 0} (nil : L) (cons : A → L → L) (p : Parser A) (stays : Stays p) where
    pub many_stays : (n : ℕ) → Stays (many nil cons n p)
    many_stays zero at a e l h = views.many_nil nil cons p s zero at (omega arith) h (λ _ w. record { on = omega arith; end = omega arith })
    many_stays (suc n) at a e l h =
        views.many_cons nil cons p s (suc n) at (omega arith) h (λ x i r hx hr _.
        let w = stays at x i l hx in
        let m : suc n - 1 ≡ n = omega arith in
        further w (many_stays n i r e w.end (subst (λ (k : ℕ). many nil cons k p s i ≡ got r e) m hr)))

  pub flag_stays : Stays flag_at
  flag_stays at a e l h = views.flag_elim s at h (λ hb _. byte_stays at 0 e l hb) (λ hb _. byte_stays at 1 e l hb)

  pub optional_stays : {A : Type 0} (p : Parser A) → Stays p → Stays (optional_at p)
  optional_stays p stays at a e l h =
      views.optional_elim p s at h (λ hb _. byte_stays at 0 e l hb)
      (λ i x hb hx _. let w = byte_stays at 1 i l hb in further w (stays i x e w.end hx))

  literal_stays : Stays literal_at
  unfolding string_at literal_number_at
  literal_stays at a e l h =
      views.literal_elim s at h
      (λ p t hb ht _. let w = byte_stays at 1 p l hb in further w (ruled_stays _ p t e w.end ht))
      (λ p t hb ht _. let w = byte_stays at 2 p l hb in further w (ruled_stays _ p t e w.end ht))

  key_stays : Stays key_at
  unfolding literal_number_at
  key_stays at a e l h =
      views.key_elim s at h
      (λ p t hb ht _. let w = byte_stays at 1 p l hb in further w (id_stays p t e w.end ht))
      (λ p t hb ht _. let w = byte_stays at 2 p l hb in further w (ruled_stays _ p t e w.end ht))

  named_stays : Stays named_at
  named_stays at a e l h = views.named_elim s at h (λ n p x hn hx _. let w = id_stays at n p l hn in further w (literal_stays p x e w.end hx))

  named_arguments_stays : (m : ℕ) → Stays (named_arguments_at m)
  named_arguments_stays m at a e l h = views.named_arguments_elim m s at h (λ hm _. many_stays [] ◌∷◌ named_at named_stays m at a e l hm)

  module _ (expr : Parser Expression) (stays : Stays expr) where
    element_stays : Stays (element_at expr)
    unfolding text_read_at
    element_stays at a e l h =
        views.element_elim expr s at h
        (λ p t hb ht _. let w = byte_stays at 1 p l hb in further w (ruled_stays _ p t e w.end ht))
        (λ p y hb hy _. let w = byte_stays at 2 p l hb in further w (stays p y e w.end hy))

    pub pattern_stays : Stays (pattern_at expr)
    unfolding elements_at
    pattern_stays at a e l h =
        views.pattern_elim expr s at h (λ n p k q es hn hk _ he _ _.
        let w = further (number_stays 4 at n p l hn) (number_stays 2 p k q (number_stays 4 at n p l hn).end hk) in
        further w (many_stays _ _ (element_at expr) element_stays k q es e w.end he))

    variant_stays : Stays (variant_at expr)
    variant_stays at a e l h =
        views.variant_elim expr s at h (λ k p d q y hk hd hy _.
        let u = key_stays at k p l hk in
        let w = further u (flag_stays p d q u.end hd) in
        further w (pattern_stays q y e w.end hy))

  module _ (inl : Parser Inline) (stays : Stays inl) where
    arguments_stays : Stays (arguments_at inl)
    unfolding inlines_at
    arguments_stays at a e l h =
        views.arguments_elim inl s at h (λ n p xs q m r ns hn hx hm hr _.
        let t = number_stays 2 at n p l hn in
        let u = further t (many_stays _ _ inl stays n p xs q t.end hx) in
        let w = further u (number_stays 2 q m r u.end hm) in
        further w (named_arguments_stays m r ns e w.end hr))

    term_arguments_stays : Stays (term_arguments_at inl)
    term_arguments_stays at a e l h =
        views.term_arguments_elim inl s at h (λ hb _. byte_stays at 0 e l hb)
        (λ p x hb hx _. let w = byte_stays at 1 p l hb in further w (arguments_stays p x e w.end hx))

    term_stays : Stays (term_reference_at inl)
    term_stays at a e l h =
        views.term_elim inl s at h (λ n p o q r hn ho hr _.
        let u = id_stays at n p l hn in
        let w = further u (optional_stays id_at id_stays p o q u.end ho) in
        further w (term_arguments_stays q r e w.end hr))

  module _ (expr : Parser Expression) (inl : Parser Inline) (xs : Stays expr) (is : Stays inl) where
    body_stays : (p tag : ℕ) (x : Inline) (e : ℕ) → p ≤ length s → views.Body expr inl s p tag x e → Within s p e
    unfolding string_at literal_number_at
    body_stays p tag x e l (views.a_string t _ h _) = ruled_stays _ p t e l h
    body_stays p tag x e l (views.a_number t _ h _) = ruled_stays _ p t e l h
    body_stays p tag x e l (views.is_function n q a _ hn ha _) = let w = id_stays p n q l hn in further w (arguments_stays inl is q a e w.end ha)
    body_stays p tag x e l (views.is_message n q a _ hn ha _) = let w = id_stays p n q l hn in further w (optional_stays id_at id_stays q a e w.end ha)
    body_stays p tag x e l (views.is_term _ h) = term_stays inl is p x e l h
    body_stays p tag x e l (views.is_variable n _ h _) = id_stays p n e l h
    body_stays p tag x e l (views.is_nested y _ h _) = xs p y e l h

    select_stays : Stays (select_at expr inl)
    select_stays at a e l h =
        views.select_elim expr inl s at h (λ i p k q vs hi hk _ hv _.
        let u = is at i p l hi in
        let w = further u (number_stays 2 p k q u.end hk) in
        further w (many_stays _ _ (variant_at expr) (variant_stays expr xs) k q vs e w.end hv))

  -- one level of nesting more
  module _ (d : ℕ) (xs : Stays (expression d)) (is : Stays (inline d)) where
    inline_level : Stays (inline (suc d))
    inline_level at a e l h =
        let m : suc d - 1 ≡ d = omega arith in
        views.inline_elim s at (suc d) h (λ tag p hb _ b.
        let w = byte_stays at tag p l hb in
        further w (body_stays (expression d) (inline d) xs is p tag a e w.end (subst (λ (j : ℕ). views.Body (expression j) (inline j) s p tag a e) m b)))

    expression_level : Stays (expression (suc d))
    expression_level at a e l h =
        let m : suc d - 1 ≡ d = omega arith in
        views.expression_elim s at (suc d) h
        (λ p hb _ hs.
        let w = byte_stays at 8 p l hb in
        further w (select_stays (expression d) (inline d) xs is p a e w.end (subst (λ (j : ℕ). select_at (expression j) (inline j) s p ≡ got a e) m hs)))
        (λ tag p i hb _ _ _ hi. inline_level at i e l hi)

  nested_stays : (d : ℕ) → Stays (expression d) × Stays (inline d)
  nested_stays zero = (
    (λ at a e l h. views.expression_elim s at zero h (λ _ _ z _. absurd (omega arith)) (λ _ _ _ _ _ z _ _. absurd (omega arith))),
    (λ at a e l h. views.inline_elim s at zero h (λ _ _ _ z _. absurd (omega arith))),
  )
  nested_stays (suc d) = let w = nested_stays d in (expression_level d w.0 w.1, inline_level d w.0 w.1)

  pub entry_pattern_stays : Stays entry_pattern_at
  unfolding entry_pattern_at
  entry_pattern_stays at a e l h = pattern_stays (expression max_depth) (nested_stays max_depth).0 at a e l h

  pub attribute_stays : Stays attribute_at
  attribute_stays at a e l h = views.attribute_elim s at h (λ n p y hn hy _. let w = id_stays at n p l hn in further w (entry_pattern_stays p y e w.end hy))

  pub attributes_stays : Stays attributes_at
  attributes_stays at a e l h = views.attributes_elim s at h (λ k p hk hm. let w = number_stays 2 at k p l hk in further w (many_stays [] ◌∷◌ attribute_at attribute_stays k p a e w.end hm))

  pub kind_stays : Stays kind_at
  kind_stays at a e l h = views.kind_elim s at h (λ hb _. byte_stays at 1 e l hb) (λ hb _. byte_stays at 2 e l hb)

  pub entry_stays : Stays entry_at
  entry_stays at a e l h =
      views.entry_elim s at h (λ p q r hk hn hv ha _.
      let t = kind_stays at a.kind p l hk in
      let u = further t (id_stays p a.id q t.end hn) in
      let w = further u (optional_stays entry_pattern_at entry_pattern_stays q a.value r u.end hv) in
      further w (attributes_stays r a.attributes e w.end ha))
