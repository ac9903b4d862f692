-- Of a resource, a function record and an entry: what the code reads in front, and what of the outline stands behind it. On any bytes.
use Rattle.records.specs.Relations.Answer.{Next, Num}
use Rattle.std.specs.Prelude.{Some, None}
use mathlib.Core.Path.{◌≡◌, ap, sym, ◌∙◌}
use mathlib.Core.Bool.{true, false}
use mathlib.Core.List.{List, [], ◌∷◌}
use mathlib.Core.Option.{some, none}
use Prim.Native.Nat.{ℕ, ◌-◌}
use borrow.Author.Tests.{eq-eqb, ne_eqb}
use Rattle.records.specs.Got.{got, after, test}
use Rattle.records.specs.Relations.Answer.{next_of, num_of}
use Rattle.records.specs.Bytes.{part, byte_at, number_at, span_at, str_at}
use Rattle.decimals.specs.Bytes.{same_bytes}
use Rattle.records.proofs.Laws.{after_is}
use Rattle.records.proofs.Views.{num_is, num_none, next_is, next_none}
use Rattle.records.specs.Names.{first_named}
use Rattle.entries.specs.Outline.{behind, list_after, readable, value_outline, attributes_outline, entry_outline, attribute_head, attribute_outline, entry_head, Location, entries_in, function_in, value_in, attributes_in, position_of}
use Rattle.entries.specs.Relations.Meets.{at_position}
use Rattle.entries.proofs.Walk.{behind_str, behind_no_str}
use Rattle.records.proofs.First.{named_here, named_past}

-- the entries of a resource
module _ (s : List ℕ) (at : ℕ) {r : Num} (is : r ≡ num_of (behind 5 (number_at 2) s at)) where
  pub resource_bad : r ≡ None → entries_in s at ≡ []
  unfolding entries_in list_after
  resource_bad h = rw (num_none is h)

  pub resource_start : {k p : ℕ} → r ≡ Some (k, p) → entries_in s at ≡ readable k entry_head entry_outline s p
  unfolding entries_in list_after
  resource_start h = rw (num_is is h)

-- the Id of a function
module _ (s : List ℕ) (at : ℕ) (id : List ℕ) {r : Num} (is : r ≡ num_of (behind 6 span_at s at)) where
  pub function_bad : r ≡ None → first_named id (function_in s at) ≡ none
  unfolding function_in list_after first_named
  function_bad h = rw (behind_no_str 6 s at (num_none is h))

  module _ (a e : ℕ) (h : r ≡ Some (a, e)) where
    function_row : function_in s at ≡ (part s a (e - a), Location.function) ∷ []
    unfolding function_in list_after
    function_row = rw (behind_str 6 s at (num_is is h))

    pub function_here : same_bytes (part s a (e - a)) id ≡ true → first_named id (function_in s at) ≡ some Location.function
    function_here y = ap (first_named id) function_row ∙ named_here id (part s a (e - a), Location.function) [] y

    pub function_other : same_bytes (part s a (e - a)) id ≡ false → first_named id (function_in s at) ≡ none
    unfolding first_named
    function_other y = ap (first_named id) function_row ∙ named_past id (part s a (e - a), Location.function) [] y

-- an entry, behind its Id
module _ (s : List ℕ) (at : ℕ) {r : Num} (is : r ≡ num_of (behind 1 span_at s at)) where
  pub entry_bad : r ≡ None → None ≡ next_of (entry_outline s at)
  unfolding entry_outline after next_of
  entry_bad h = rw (behind_no_str 1 s at (num_none is h))

  pub value_no_id : r ≡ None → None ≡ at_position (position_of (value_in s at))
  unfolding value_in after position_of at_position
  value_no_id h = rw (behind_no_str 1 s at (num_none is h))

  pub attributes_no_id : r ≡ None → attributes_in s at ≡ []
  unfolding attributes_in list_after
  attributes_no_id h = rw (behind_no_str 1 s at (num_none is h))

  module _ (a e : ℕ) (h : r ≡ Some (a, e)) where
    id_there : behind 1 str_at s at ≡ got (part s a (e - a)) e
    id_there = behind_str 1 s at (num_is is h)

    pub entry_rest : {x : Next} → x ≡ next_of (after (value_outline s e) (λ v q. attributes_outline s q)) → x ≡ next_of (entry_outline s at)
    unfolding entry_outline
    entry_rest q = q ∙ ap next_of (sym (after_is (behind 1 str_at s at) _ id_there))

    module _ {f : Num} (fs : f ≡ num_of (byte_at s e)) where
      pub value_no_flag : f ≡ None → None ≡ at_position (position_of (value_in s at))
      unfolding value_in after position_of at_position
      value_no_flag k = rw (id_there, num_none fs k)

      pub value_absent : {t p : ℕ} → f ≡ Some (t, p) → t ≡ 0 → None ≡ at_position (position_of (value_in s at))
      unfolding value_in after test position_of at_position
      value_absent {t} k z = rw (id_there, num_is fs k, eq-eqb t 0 z)

      pub value_present : {t p : ℕ} → f ≡ Some (t, p) → (t ≡ 0 → ⊥) → Some p ≡ at_position (position_of (value_in s at))
      unfolding value_in after test position_of at_position
      value_present {t} k z = rw (id_there, num_is fs k, ne_eqb t 0 z)

    module _ {v : Next} (vs : v ≡ next_of (value_outline s e)) where
      pub attributes_no_value : v ≡ None → attributes_in s at ≡ []
      unfolding attributes_in list_after
      attributes_no_value k = rw (id_there, next_none vs k)

      module _ (p : ℕ) (k : v ≡ Some p) {c : Num} (cs : c ≡ num_of (number_at 2 s p)) where
        pub attributes_no_count : c ≡ None → attributes_in s at ≡ []
        unfolding attributes_in list_after
        attributes_no_count w = next_is vs k (λ b q. rw (id_there, q, num_none cs w))

        pub attributes_start : {n i : ℕ} → c ≡ Some (n, i) → attributes_in s at ≡ readable n attribute_head attribute_outline s i
        unfolding attributes_in list_after
        attributes_start w = next_is vs k (λ b q. rw (id_there, q, num_is cs w))
