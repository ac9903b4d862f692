-- What an inline expression is, by the tag that the code read: one eliminator for each.
use mathlib.Core.Path.{◌≡◌, sym, subst}
use mathlib.Core.List.{List}
use mathlib.Core.Option.{Option}
use Prim.Native.Nat.{ℕ, ◌-◌, ◌<◌}
use native.Mathlib.Omega.{arith}
use Rattle.records.specs.Got.{got, bad}
use Rattle.records.specs.Bytes.{byte_at, str_at}
use Rattle.records.specs.Tree.{Expression, Inline, Inlines, Named, Arguments, variable, function, message, term, nested}
use Rattle.records.specs.Decode.{id_at, optional_at, string_at, literal_number_at, arguments_at, term_arguments_at, expression, inline}
use Rattle.records.proofs.Views.{both, never, id_str, string_str, number_str, term_elim, Body, a_string, a_number, is_function, is_message, is_term, is_variable, is_nested, inline_elim}

module _ (s : List ℕ) (at tag p : ℕ) (hb : byte_at s at ≡ got tag p) {C : Type 0} (d : ℕ) {y : Inline} {f : ℕ} (k : inline d s at ≡ got y f) where
  by_body : (0 < d → Body (expression (d - 1)) (inline (d - 1)) s p tag y f → C) → C
  by_body c = inline_elim s at d k (λ tag' p' hb' z b. both hb hb' (λ et ep.
      c z (subst (λ (j : ℕ). Body (expression (d - 1)) (inline (d - 1)) s j tag y f) (sym ep) (subst (λ (j : ℕ). Body (expression (d - 1)) (inline (d - 1)) s p' j y f) (sym et) b))))

  pub string_body : tag ≡ 1 → ((t : List ℕ) → string_at s p ≡ got t f → y ≡ Inline.string t → C) → C
  string_body h c = by_body go
    where
      go : 0 < d → Body (expression (d - 1)) (inline (d - 1)) s p tag y f → C
      go z (a_string t e q w) = c t q w
      go z (a_number t e q w) = absurd (omega arith)
      go z (is_function n q a e hn ha w) = absurd (omega arith)
      go z (is_message n q a e hn ha w) = absurd (omega arith)
      go z (is_term e q) = absurd (omega arith)
      go z (is_variable n e q w) = absurd (omega arith)
      go z (is_nested x e q w) = absurd (omega arith)

  pub number_body : tag ≡ 2 → ((t : List ℕ) → literal_number_at s p ≡ got t f → y ≡ Inline.number t → C) → C
  number_body h c = by_body go
    where
      go : 0 < d → Body (expression (d - 1)) (inline (d - 1)) s p tag y f → C
      go z (a_string t e q w) = absurd (omega arith)
      go z (a_number t e q w) = c t q w
      go z (is_function n q a e hn ha w) = absurd (omega arith)
      go z (is_message n q a e hn ha w) = absurd (omega arith)
      go z (is_term e q) = absurd (omega arith)
      go z (is_variable n e q w) = absurd (omega arith)
      go z (is_nested x e q w) = absurd (omega arith)

  pub message_body : tag ≡ 4 → ((n : List ℕ) (q : ℕ) (a : Option (List ℕ)) → id_at s p ≡ got n q → optional_at id_at s q ≡ got a f → y ≡ message n a → C) → C
  message_body h c = by_body go
    where
      go : 0 < d → Body (expression (d - 1)) (inline (d - 1)) s p tag y f → C
      go z (a_string t e q w) = absurd (omega arith)
      go z (a_number t e q w) = absurd (omega arith)
      go z (is_function n q a e hn ha w) = absurd (omega arith)
      go z (is_message n q a e hn ha w) = c n q a hn ha w
      go z (is_term e q) = absurd (omega arith)
      go z (is_variable n e q w) = absurd (omega arith)
      go z (is_nested x e q w) = absurd (omega arith)

  pub term_body : tag ≡ 5 → ((n : List ℕ) (q : ℕ) (a : Option (List ℕ)) (g : ℕ) (r : Arguments) → 0 < d
      → id_at s p ≡ got n q → optional_at id_at s q ≡ got a g → term_arguments_at (inline (d - 1)) s g ≡ got r f → y ≡ term n a r → C) → C
  term_body h c = by_body go
    where
      go : 0 < d → Body (expression (d - 1)) (inline (d - 1)) s p tag y f → C
      go z (a_string t e q w) = absurd (omega arith)
      go z (a_number t e q w) = absurd (omega arith)
      go z (is_function n q a e hn ha w) = absurd (omega arith)
      go z (is_message n q a e hn ha w) = absurd (omega arith)
      go z (is_term e q) = term_elim (inline (d - 1)) s p q (λ n i a g r hn ha hr w. c n i a g r z hn ha hr w)
      go z (is_variable n e q w) = absurd (omega arith)
      go z (is_nested x e q w) = absurd (omega arith)

  pub variable_body : tag ≡ 6 → ((n : List ℕ) → id_at s p ≡ got n f → y ≡ variable n → C) → C
  variable_body h c = by_body go
    where
      go : 0 < d → Body (expression (d - 1)) (inline (d - 1)) s p tag y f → C
      go z (a_string t e q w) = absurd (omega arith)
      go z (a_number t e q w) = absurd (omega arith)
      go z (is_function n q a e hn ha w) = absurd (omega arith)
      go z (is_message n q a e hn ha w) = absurd (omega arith)
      go z (is_term e q) = absurd (omega arith)
      go z (is_variable n e q w) = c n q w
      go z (is_nested x e q w) = absurd (omega arith)

  pub nested_body : tag ≡ 7 → ((x : Expression) → expression (d - 1) s p ≡ got x f → y ≡ nested x → C) → C
  nested_body h c = by_body go
    where
      go : 0 < d → Body (expression (d - 1)) (inline (d - 1)) s p tag y f → C
      go z (a_string t e q w) = absurd (omega arith)
      go z (a_number t e q w) = absurd (omega arith)
      go z (is_function n q a e hn ha w) = absurd (omega arith)
      go z (is_message n q a e hn ha w) = absurd (omega arith)
      go z (is_term e q) = absurd (omega arith)
      go z (is_variable n e q w) = absurd (omega arith)
      go z (is_nested x e q w) = c x q w

  module _ (n4 : tag ≡ 4 → ⊥) (n5 : tag ≡ 5 → ⊥) (n7 : tag ≡ 7 → ⊥) where
    -- a Str stands after every other tag
    pub str_body : str_at s p ≡ bad → C
    str_body h = by_body go
      where
        go : 0 < d → Body (expression (d - 1)) (inline (d - 1)) s p tag y f → C
        go z (a_string t e q w) = never h (string_str s p q)
        go z (a_number t e q w) = never h (number_str s p q)
        go z (is_function n q a e hn ha w) = never h (id_str s p hn)
        go z (is_message n q a e hn ha w) = absurd (n4 e)
        go z (is_term e q) = absurd (n5 e)
        go z (is_variable n e q w) = never h (id_str s p q)
        go z (is_nested x e q w) = absurd (n7 e)

    -- what is left is a call
    pub function_body : (tag ≡ 1 → ⊥) → (tag ≡ 2 → ⊥) → (tag ≡ 6 → ⊥)
        → ((n : List ℕ) (q : ℕ) (xs : Inlines) (ns : Named) → id_at s p ≡ got n q → arguments_at (inline (d - 1)) s q ≡ got (xs, ns) f → y ≡ function n xs ns → C) → C
    function_body n1 n2 n6 c = by_body go
      where
        go : 0 < d → Body (expression (d - 1)) (inline (d - 1)) s p tag y f → C
        go z (a_string t e q w) = absurd (n1 e)
        go z (a_number t e q w) = absurd (n2 e)
        go z (is_function n q a e hn ha w) = c n q a.0 a.1 hn ha w
        go z (is_message n q a e hn ha w) = absurd (n4 e)
        go z (is_term e q) = absurd (n5 e)
        go z (is_variable n e q w) = absurd (n6 e)
        go z (is_nested x e q w) = absurd (n7 e)

    -- no other tag stands before an inline expression
    pub no_body : (tag ≡ 1 → ⊥) → (tag ≡ 2 → ⊥) → (tag ≡ 3 → ⊥) → (tag ≡ 6 → ⊥) → C
    no_body n1 n2 n3 n6 = by_body go
      where
        go : 0 < d → Body (expression (d - 1)) (inline (d - 1)) s p tag y f → C
        go z (a_string t e q w) = absurd (n1 e)
        go z (a_number t e q w) = absurd (n2 e)
        go z (is_function n q a e hn ha w) = absurd (n3 e)
        go z (is_message n q a e hn ha w) = absurd (n4 e)
        go z (is_term e q) = absurd (n5 e)
        go z (is_variable n e q w) = absurd (n6 e)
        go z (is_nested x e q w) = absurd (n7 e)
