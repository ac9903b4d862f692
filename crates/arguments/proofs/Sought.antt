-- The search among arguments one by one: its turns, what it finds where they decode, and that this is the first of a name where names ascend.
use Rattle.records.specs.Relations.Answer.{Next, Num}
use Rattle.std.specs.Prelude.{Option, Some, None}
use mathlib.Core.Path.{◌≡◌, refl, ap, sym, subst, ◌∙◌}
use mathlib.Core.List.{List, [], ◌∷◌}
use mathlib.Core.Option.{Option as Maybe, some}
use Prim.Native.Nat.{ℕ, zero, suc, ◌-◌, ◌≤◌, ◌<◌}
use native.Mathlib.Omega.{arith}
use Rattle.arguments.specs.declared.Given.{Given}
use Rattle.std.specs.declared.cmp.Ordering.{Ordering}
use Rattle.std.specs.declared.cmp.Ordering.TheVariants as order
use Rattle.records.specs.Got.{Got, got, bad, after}
use Rattle.records.specs.Relations.Answer.{next_of, num_of}
use Rattle.records.specs.Bytes.{part, span_at, str_at}
use Rattle.records.specs.Decode.{many}
use Rattle.records.specs.Images.{Argument, argument_at}
use Rattle.order.specs.Relations.Compared.{order_of}
use Rattle.arguments.specs.Relations.Given.{meant, Within}
use Rattle.arguments.specs.Relations.Outline.{value_given, row_at, read_or, given_from, readable, shown_option, sought_by, sought}
use Rattle.records.proofs.Views.{next_is, next_none, str_is, str_bad, id_str, many_cons, many_nil}
use Rattle.arguments.proofs.Views.{argument_elim}
use Rattle.arguments.proofs.Found.{given_is, given_bad, value_means, row_within}

-- what the search gives from a position on
abbrev pub sought_from : List ℕ → List ℕ → ℕ → ℕ → Option Given
sought_from s name n at = shown_option (sought name (readable n row_at s at))

-- a row by its parts
module _ (s : List ℕ) (at : ℕ) where
  row_no_name : str_at s at ≡ bad → row_at s at ≡ bad
  unfolding row_at after
  row_no_name h = rw h

  row_no_value : {n : List ℕ} {g : ℕ} → str_at s at ≡ got n g → value_given s g ≡ bad → row_at s at ≡ bad
  unfolding row_at after
  row_no_value h k = rw (h, k)

  row_read : {n : List ℕ} {g : ℕ} → str_at s at ≡ got n g → {v : Given} {i : ℕ} → value_given s g ≡ got v i → row_at s at ≡ got (n, v) i
  unfolding row_at after
  row_read h k = rw (h, k)

module _ (s name : List ℕ) (left at : ℕ) where
  sought_none : left ≤ 0 → sought_from s name left at ≡ None
  unfolding readable sought shown_option
  sought_none z = go left z
    where
      go : (n : ℕ) → n ≤ 0 → sought_from s name n at ≡ None
      go zero z = refl
      go (suc n) z = absurd (omega arith)

  -- no row can be read
  sought_bad : row_at s at ≡ bad → sought_from s name left at ≡ None
  unfolding readable read_or sought shown_option
  sought_bad h = go left
    where
      go : (n : ℕ) → sought_from s name n at ≡ None
      go zero = refl
      go (suc n) = rw h

  -- a row that is read: its name decides
  sought_row : {n : List ℕ} {v : Given} {i : ℕ} → row_at s at ≡ got (n, v) i → 0 < left → sought_from s name left at ≡ shown_option (sought_by (order_of n name) v (sought name (readable (left - 1) row_at s i)))
  unfolding readable read_or sought
  sought_row {n} {v} {i} h z = go left z
    where
      go : (m : ℕ) → 0 < m → sought_from s name m at ≡ shown_option (sought_by (order_of n name) v (sought name (readable (m - 1) row_at s i)))
      go zero z = absurd (omega arith)
      go (suc m) z = let e : suc m - 1 ≡ m = omega arith in rw (h, e)

-- the turns of the loop: what is left gives what all of them give
module _ (s name : List ℕ) (left at : ℕ) {y : Option Given} (inv : sought_from s name left at ≡ y) where
  pub scan_end : left ≤ 0 → None ≡ y
  scan_end z = sym (sought_none s name left at z) ∙ inv

  module _ {r : Num} (is : r ≡ num_of (span_at s at)) where
    pub scan_name : r ≡ None → None ≡ y
    scan_name h = sym (sought_bad s name left at (row_no_name s at (str_bad s at is h))) ∙ inv

    module _ {p g : ℕ} (h : r ≡ Some (p, g)) {o : Ordering} (os : o ≡ order_of (part s p (g - p)) name) (z : 0 < left) where
      -- what a readable value gives, and what an unreadable one does
      by_value : {C : Type 0} → (value_given s g ≡ bad → None ≡ y → C) → ((v : Given) (i : ℕ) → value_given s g ≡ got v i → shown_option (sought_by o v (sought name (readable (left - 1) row_at s i))) ≡ y → C) → C
      by_value {C} f k = go (value_given s g) refl
        where
          go : (x : Got Given) → value_given s g ≡ x → C
          go bad e = f e (sym (sought_bad s name left at (row_no_value s at (str_is s at is h) e)) ∙ inv)
          go (got v i) e =
              k v i e
              (ap (λ (x : Ordering). shown_option (sought_by x v (sought name (readable (left - 1) row_at s i)))) os
              ∙ sym (sought_row s name left at (row_read s at (str_is s at is h) e) z)
              ∙ inv)

      pub scan_greater : o ≡ order.Greater → None ≡ y
      unfolding sought_by shown_option
      scan_greater w = by_value (λ _ e. e) (λ v i _ e. sym (ap (λ (x : Ordering). shown_option (sought_by x v (sought name (readable (left - 1) row_at s i)))) w) ∙ e)

      pub scan_same : o ≡ order.Equal → {b : Option Given} → b ≡ given_from (value_given s g) → b ≡ y
      unfolding sought_by shown_option
      scan_same w {b} eb =
          by_value
          (λ e m. eb ∙ sym (given_bad e) ∙ m)
          (λ v i e m. eb ∙ sym (given_is e) ∙ sym (ap (λ (x : Ordering). shown_option (sought_by x v (sought name (readable (left - 1) row_at s i)))) w) ∙ m)

      module _ (w : o ≡ order.Less) {x : Next} (vs : x ≡ next_of (value_given s g)) where
        pub scan_value : x ≡ None → None ≡ y
        scan_value b = sym (sought_bad s name left at (row_no_value s at (str_is s at is h) (next_none vs b))) ∙ inv

        pub scan_turn : {i : ℕ} → x ≡ Some i → sought_from s name (left - 1) i ≡ y
        unfolding sought_by
        scan_turn {i} e = next_is vs e (λ v hv.
            sym (sought_row s name left at (row_read s at (str_is s at is h) hv) z
            ∙ ap (λ (x : Ordering). shown_option (sought_by x v (sought name (readable (left - 1) row_at s i)))) (sym os ∙ w))
            ∙ inv)

-- a text that is found lies in the bytes, whatever they are
module _ (s name : List ℕ) where
  by_within : (o : Ordering) (v : Given) (r : Maybe Given) → Within s (Some v) → Within s (shown_option r) → Within s (shown_option (sought_by o v r))
  unfolding sought_by shown_option Within
  by_within order.Less v r h k = k
  by_within order.Equal v r h k = h
  by_within order.Greater v r h k = tt

  pub sought_within : (n at : ℕ) → Within s (sought_from s name n at)
  unfolding readable read_or sought shown_option Within
  sought_within zero at = tt
  sought_within (suc n) at = go (row_at s at) refl (sought_within n)
    where
      go : (x : Got (List ℕ × Given)) → row_at s at ≡ x → ((e : ℕ) → Within s (sought_from s name n e)) → Within s (shown_option (sought name (read_or [] x (λ a e. a ∷ readable n row_at s e))))
      go bad h ih = tt
      go (got a e) h ih = by_within (order_of a.0 name) a.1 (sought name (readable n row_at s e)) (row_within s at h) (ih e)

  -- what is found where the arguments decode
  pub sought_means : (n at : ℕ) {l : List (List ℕ × Argument)} {f : ℕ} → many [] ◌∷◌ n argument_at s at ≡ got l f → meant s (sought_from s name n at) ≡ sought name l
  unfolding readable read_or row_at after sought sought_by shown_option meant
  sought_means zero at h = many_nil [] ◌∷◌ argument_at s zero at (omega arith) h (λ e _. rw e)
  sought_means (suc n) at {l} {f} h =
      let m : suc n - 1 ≡ n = omega arith in
      many_cons [] ◌∷◌ argument_at s (suc n) at (omega arith) h (λ a e t ha ht w.
      argument_elim s at ha (λ i p v hi hv wa.
      let k = value_means s p hv in
      let x = sought_means n e (subst (λ (j : ℕ). many [] ◌∷◌ j argument_at s e ≡ got t f) m ht) in
      rw (id_str s at hi, k.1, w, wa) (by (order_of i name) k.0 v k.2 (sought name (readable n row_at s e)) (sought name t) x)))
    where
      by : (o : Ordering) (g : Given) (v : Argument) → meant s (Some g) ≡ some v → (r : Maybe Given) (q : Maybe Argument) → meant s (shown_option r) ≡ q → meant s (shown_option (sought_by o g r)) ≡ sought_by o v q
      by order.Less g v h r q k = k
      by order.Equal g v h r q k = h
      by order.Greater g v h r q k = refl
