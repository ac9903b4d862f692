-- One induction over the syntax, for every property of resolution that the actions it is made of pass on.
use mathlib.Core.List.{List, [], ◌∷◌}
use mathlib.Core.Bool.{Bool, true, false}
use mathlib.Core.Option.{Option, none, some}
use Prim.Native.Nat.{ℕ, zero, suc, ◌≤◌, ◌<◌}
use native.Mathlib.Nat.{le_refl}
use native.Mathlib.Omega.{arith}
use Rattle.numbers.specs.Number.{Number}
use Rattle.numbers.specs.Value.{Value, textual, numeric, nothing, wrong}
use Rattle.unescape.specs.Unescape.{has_backslash}
use Rattle.records.specs.Tree.{Literal, Named, Pattern, pattern, Elements, no_more, more, Element, text, placeable, Expression, inline, select, Inline, variable, nested, Arguments, without, with_arguments, Inlines, no_inline, and, Variants, no_variant, or, Variant, variant}
use Rattle.records.specs.Images.{Entry}
use Rattle.records.specs.Errors.{Error, overriding, reference, no_value, missing_default, cyclic, too_many_placeables}
use Rattle.entries.specs.Lookup.{Holder, Find}
use Rattle.resolution.specs.Effect.{Bytes, report, merged, Locals, M, Done, ret, ◌>>=◌, ◌>>◌, emit, write, is_dirty, get_locals, set_locals, only_if, entered, capture, release}
use Rattle.resolution.specs.Resolve.{Setting, Trail, Given, mark, cut_short, held, string_if, string_value, literal_value, named_values, write_ref_error, look_up, as_message, as_term, track_if, track, on_part, missing_piece, message_found, term_found, write_message, write_term, note_if, note_one, note_merges, merges_of, call, call_function, write_result, or_wrong, found_or, variable_in, get_variable, write_variable, write_pattern, write_elements, write_element, write_expression, write_nth, write_variant, write_inline, resolve_inline, term_arguments, get_arguments, resolve}

-- a relation on actions
abbrev pub Rel : Type 1
Rel = (A : Type 0) → M A → M A → Type 0

-- the errors other than that of a 101st placeable
abbrev pub Plain : Error → Type 0
Plain (overriding k i) = Unit {0}
Plain (reference k i a) = Unit {0}
Plain (no_value i) = Unit {0}
Plain missing_default = Unit {0}
Plain cyclic = Unit {0}
Plain too_many_placeables = ⊥

-- R k is a relation on actions that run where at least k placeables were begun
abbrev pub Rels : Type 1
Rels = ℕ → Rel

-- the actions that resolution is made of keep R
pub record Closed (R : Rels) : Type 1 where
  pub r_ret : {k : ℕ} {A : Type 0} (a : A) → R k A (ret a) (ret a)
  pub r_bind : {k : ℕ} {A B : Type 0} {m m' : M A} {f f' : A → M B} → R k A m m' → ((a : A) → R k B (f a) (f' a)) → R k B (m >>= f) (m' >>= f')
  pub r_report : {k : ℕ} (e : Error) → Plain e → R k Done (emit (report e)) (emit (report e))
  pub r_merged : {k : ℕ} (n : ℕ) → R k Done (emit (merged n)) (emit (merged n))
  pub r_write : {k : ℕ} (b : Bytes) → R k Done (write b) (write b)
  pub r_dirty : {k : ℕ} → R k Bool is_dirty is_dirty
  pub r_get : {k : ℕ} → R k Locals get_locals get_locals
  pub r_set : {k : ℕ} (l : Locals) → R k Done (set_locals l) (set_locals l)
  pub r_entered : {k : ℕ} {b b' m m' : M Done} → R (suc k) Done b b' → R (suc k) Done m m' → R k Done (entered b m) (entered b' m')
  pub r_capture : {k : ℕ} {m m' : M Done} → R k Done m m' → R k Bytes (capture m) (capture m')
  pub r_release : {k : ℕ} {A : Type 0} {m m' : M A} → R k A m m' → R k A (release m) (release m')

module _ (R : Rels) (c : Closed R) where
  r_then : {k : ℕ} {A B : Type 0} {m m' : M A} {n n' : M B} → R k A m m' → R k B n n' → R k B (m >> n) (m' >> n')
  unfolding ◌>>◌
  r_then h l = c.r_bind h (λ a. l)

  r_only_if : {k : ℕ} {m m' : M Done} (b : Bool) → R k Done m m' → R k Done (only_if b m) (only_if b m')
  unfolding only_if
  r_only_if true h = h
  r_only_if false h = c.r_ret tt

  r_mark : {k : ℕ} (b : Bool) (t : Bytes) → R k Done (mark b t) (mark b t)
  unfolding mark
  r_mark true t = c.r_write t
  r_mark false t = c.r_ret tt

  r_cut_short : {k : ℕ} (t : Bytes) → R k Done (cut_short t) (cut_short t)
  unfolding cut_short
  r_cut_short t = c.r_bind c.r_dirty (λ d. r_mark d t)

  r_held : {k : ℕ} {m m' : M Bytes} → R k Bytes m m' → R k Value (held m) (held m')
  unfolding held
  r_held h = c.r_bind h (λ b. c.r_ret _)

  r_string_if : {k : ℕ} (b : Bool) (s : Bytes) → R k Value (string_if b s) (string_if b s)
  unfolding string_if
  r_string_if true s = r_held (c.r_capture (c.r_write _))
  r_string_if false s = c.r_ret _

  r_string : {k : ℕ} (s : Bytes) → R k Value (string_value s) (string_value s)
  unfolding string_value
  r_string s = r_string_if (has_backslash s) s

  r_literal : {k : ℕ} (l : Literal) → R k Value (literal_value l) (literal_value l)
  unfolding literal_value
  r_literal (Literal.string s) = r_string s
  r_literal (Literal.number n) = c.r_ret _

  r_named : {k : ℕ} (ns : Named) → R k (List (Bytes × Value)) (named_values ns) (named_values ns)
  unfolding named_values
  r_named [] = c.r_ret _
  r_named (e ∷ es) = c.r_bind (r_literal e.1) (λ v. c.r_bind (r_named es) (λ r. c.r_ret _))

  r_ref_error : {k : ℕ} (e : Error) → Plain e → (t : Bytes) → R k Done (write_ref_error e t) (write_ref_error e t)
  unfolding write_ref_error
  r_ref_error e p t = r_then (c.r_report e p) (c.r_write _)

  r_note_if : {k : ℕ} (b : Bool) (n : Number) → R k Done (note_if b n) (note_if b n)
  unfolding note_if
  r_note_if true n = c.r_merged _
  r_note_if false n = c.r_ret tt

  r_note_one : {k : ℕ} (i : Bytes) (v : Value) → R k Done (note_one i v) (note_one i v)
  unfolding note_one
  r_note_one i (textual s) = c.r_ret tt
  r_note_one i (numeric n) = r_note_if _ n
  r_note_one i nothing = c.r_ret tt
  r_note_one i wrong = c.r_ret tt

  r_notes : {k : ℕ} (ns : List (Bytes × Value)) → R k Done (note_merges ns) (note_merges ns)
  unfolding note_merges
  r_notes [] = c.r_ret tt
  r_notes (e ∷ es) = r_then (r_note_one _ _) (r_notes es)

  r_merges : {k : ℕ} (vs : List Value) (ns : List (Bytes × Value)) → R k Done (merges_of vs ns) (merges_of vs ns)
  unfolding merges_of
  r_merges [] ns = c.r_ret tt
  r_merges (textual s ∷ vs) ns = c.r_ret tt
  r_merges (numeric n ∷ vs) ns = r_notes ns
  r_merges (nothing ∷ vs) ns = c.r_ret tt
  r_merges (wrong ∷ vs) ns = c.r_ret tt

  r_call : {k : ℕ} (g : Given) (o : Option Holder) → R k (Option Value) (call g o) (call g o)
  unfolding call
  r_call g none = c.r_ret _
  r_call g (some (Holder.entry e)) = c.r_ret _
  r_call g (some Holder.function) = r_then (r_merges _ _) (c.r_ret _)

  r_result : {k : ℕ} (i : Bytes) (o : Option Value) → R k Done (write_result i o) (write_result i o)
  unfolding write_result
  r_result i none = r_ref_error _ tt _
  r_result i (some (textual s)) = c.r_write _
  r_result i (some (numeric n)) = c.r_write _
  r_result i (some nothing) = c.r_write _
  r_result i (some wrong) = c.r_write _

  r_or_wrong : {k : ℕ} (o : Option Value) → R k Value (or_wrong o) (or_wrong o)
  unfolding or_wrong
  r_or_wrong none = c.r_ret _
  r_or_wrong (some v) = c.r_ret _

  r_found_or : {k : ℕ} {m m' : M Done} → R k Done m m' → (o : Option Value) → R k (Option Value) (found_or m o) (found_or m' o)
  unfolding found_or
  r_found_or h none = r_then h (c.r_ret _)
  r_found_or h (some v) = c.r_ret _

  r_variable_in : {k : ℕ} (as' : List (Bytes × Value)) (i : Bytes) (l : Locals) → R k (Option Value) (variable_in as' i l) (variable_in as' i l)
  unfolding variable_in
  r_variable_in as' i none = r_found_or (c.r_report _ tt) _
  r_variable_in as' i (some l) = r_found_or (c.r_ret tt) _

  r_variable : {k : ℕ} (as' : List (Bytes × Value)) (i : Bytes) → R k (Option Value) (get_variable as' i) (get_variable as' i)
  unfolding get_variable
  r_variable as' i = c.r_bind c.r_get (λ l. r_variable_in as' i l)

  r_variable_text : {k : ℕ} (i : Bytes) (o : Option Value) → R k Done (write_variable i o) (write_variable i o)
  unfolding write_variable
  r_variable_text i none = c.r_write _
  r_variable_text i (some v) = c.r_write _

  module _ (find find' : Find) (rLook : (k : ℕ) (i : Bytes) → R k (Option Holder) (look_up find i) (look_up find' i)) where
    r_function : (k : ℕ) (i : Bytes) (g : Given) → R k (Option Value) (call_function find i g) (call_function find' i g)
    unfolding call_function
    r_function k i g = c.r_bind (rLook k i) (λ o. r_call g o)

    module _ (cross cross' : Pattern → Trail → M Done) (trail : Trail) where
      module _ (k : ℕ) (rCross : (p : Pattern) (t : Trail) → R k Done (cross p t) (cross' p t)) where
        r_track_if : (b : Bool) (t : Bytes) (p : Pattern) → R k Done (track_if cross trail b t p) (track_if cross' trail b t p)
        unfolding track_if
        r_track_if true t p = r_ref_error _ tt _
        r_track_if false t p = rCross p _

        r_track : (t : Bytes) (p : Pattern) → R k Done (track cross trail t p) (track cross' trail t p)
        unfolding track
        r_track t p = r_track_if _ t p

        r_on_part : (e : Error) → Plain e → (t : Bytes) (o : Option Pattern) → R k Done (on_part cross trail e t o) (on_part cross' trail e t o)
        unfolding on_part
        r_on_part e h t none = r_ref_error e h t
        r_on_part e h t (some p) = r_track t p

        r_message_found : (i : Bytes) (a : Option Bytes) (o : Option Entry)
            → R k Done (message_found cross trail i a o) (message_found cross' trail i a o)
        unfolding message_found missing_piece
        r_message_found i none none = r_ref_error _ tt _
        r_message_found i (some a) none = r_ref_error _ tt _
        r_message_found i none (some e) = r_on_part _ tt _ _
        r_message_found i (some a) (some e) = r_on_part _ tt _ _

        r_term_found : (i : Bytes) (a : Option Bytes) (o : Option Entry) → R k Done (term_found cross trail i a o) (term_found cross' trail i a o)
        unfolding term_found
        r_term_found i a none = r_ref_error _ tt _
        r_term_found i a (some e) = r_on_part _ tt _ _

        r_message : (i : Bytes) (a : Option Bytes) → R k Done (write_message cross trail find i a) (write_message cross' trail find' i a)
        unfolding write_message
        r_message i a = c.r_bind (rLook k i) (λ o. r_message_found i a (as_message o))

        r_term : (i : Bytes) (a : Option Bytes) (ns : List (Bytes × Value))
            → R k Done (write_term cross trail find i a ns) (write_term cross' trail find' i a ns)
        unfolding write_term
        r_term i a ns = r_then (c.r_set _) (c.r_bind (rLook k i) (λ o. r_then (r_term_found i a (as_term o)) (c.r_set _)))

      module _ (k₀ : ℕ) (rCross : (k : ℕ) → k₀ < k → (p : Pattern) (t : Trail) → R k Done (cross p t) (cross' p t)) (st : Setting) where
        mutual
          unfolding write_pattern

          p_walk : (p : Pattern) (k : ℕ) → k₀ ≤ k → R k Done (write_pattern st find cross trail p) (write_pattern st find' cross' trail p)
          p_walk (pattern b es) k q = es_walk es _ k q

          es_walk : (es : Elements) (iso : Bool) (k : ℕ) → k₀ ≤ k
              → R k Done (write_elements st find cross trail es iso) (write_elements st find' cross' trail es iso)
          es_walk no_more iso k q = c.r_ret tt
          es_walk (more e es) iso k q = r_then (e_walk e iso k q) (es_walk es iso k q)

          e_walk : (e : Element) (iso : Bool) (k : ℕ) → k₀ ≤ k
              → R k Done (write_element st find cross trail e iso) (write_element st find' cross' trail e iso)
          e_walk (text t) iso k q = c.r_bind c.r_dirty (λ d. r_only_if _ (c.r_write t))
          e_walk (placeable x) iso k q = c.r_entered (r_mark _ _) (r_then (x_walk x (suc k) (omega arith)) (r_then (r_cut_short _) (r_mark _ _)))

          x_walk : (x : Expression) (k : ℕ) → k₀ < k → R k Done (write_expression st find cross trail x) (write_expression st find' cross' trail x)
          x_walk (inline x) k q = i_walk x k q
          x_walk (select x vs) k q = c.r_bind (c.r_release (h_walk x k q)) (λ v. n_walk vs _ k q)

          n_walk : (vs : Variants) (n : Option ℕ) (k : ℕ) → k₀ < k → R k Done (write_nth st find cross trail vs n) (write_nth st find' cross' trail vs n)
          n_walk no_variant none k q = c.r_report _ tt
          n_walk no_variant (some n) k q = c.r_ret tt
          n_walk (or v vs) none k q = c.r_report _ tt
          n_walk (or v vs) (some zero) k q = v_walk v k q
          n_walk (or v vs) (some (suc n)) k q = n_walk vs (some n) k q

          v_walk : (v : Variant) (k : ℕ) → k₀ < k → R k Done (write_variant st find cross trail v) (write_variant st find' cross' trail v)
          v_walk (variant key d p) k q = p_walk p k (omega arith)

          i_walk : (x : Inline) (k : ℕ) → k₀ < k → R k Done (write_inline st find cross trail x) (write_inline st find' cross' trail x)
          i_walk (Inline.string s) k q = c.r_write _
          i_walk (Inline.number n) k q = c.r_write _
          i_walk (variable i) k q = c.r_bind (r_variable _ i) (λ v. r_variable_text i v)
          i_walk (Inline.function i xs ns) k q = c.r_bind (c.r_release (c.r_bind (g_walk xs ns k q) (λ g. r_function k i g))) (λ v. r_result i v)
          i_walk (Inline.message i a) k q = r_message k (rCross k q) i a
          i_walk (Inline.term i a r) k q = c.r_release (c.r_bind (a_walk r k q) (λ g. r_term k (rCross k q) i a g.named))
          i_walk (nested x) k q = x_walk x k q

          h_walk : (x : Inline) (k : ℕ) → k₀ < k → R k Value (resolve_inline st find cross trail x) (resolve_inline st find' cross' trail x)
          h_walk (Inline.string s) k q = r_string s
          h_walk (Inline.number n) k q = c.r_ret _
          h_walk (variable i) k q = c.r_bind (r_variable _ i) (λ v. r_or_wrong v)
          h_walk (Inline.function i xs ns) k q = c.r_bind (c.r_release (c.r_bind (g_walk xs ns k q) (λ g. r_function k i g))) (λ v. r_or_wrong v)
          h_walk (Inline.message i a) k q = r_held (c.r_capture (r_message k (rCross k q) i a))
          h_walk (Inline.term i a r) k q = r_held (c.r_capture (c.r_release (c.r_bind (a_walk r k q) (λ g. r_term k (rCross k q) i a g.named))))
          h_walk (nested x) k q = r_held (c.r_capture (x_walk x k q))

          a_walk : (r : Arguments) (k : ℕ) → k₀ < k → R k Given (term_arguments st find cross trail r) (term_arguments st find' cross' trail r)
          a_walk without k q = c.r_ret _
          a_walk (with_arguments xs ns) k q = g_walk xs ns k q

          g_walk : (xs : Inlines) (ns : Named) (k : ℕ) → k₀ < k
              → R k Given (get_arguments st find cross trail xs ns) (get_arguments st find' cross' trail xs ns)
          g_walk no_inline ns k q = c.r_bind (r_named ns) (λ n. c.r_ret _)
          g_walk (and x xs) ns k q = c.r_bind (h_walk x k q) (λ v. c.r_bind (g_walk xs ns k q) (λ g. c.r_ret _))

        -- a pattern keeps R where the patterns of its references do; those run after one more placeable was begun
        pub r_pattern : (p : Pattern) → R k₀ Done (write_pattern st find cross trail p) (write_pattern st find' cross' trail p)
        r_pattern p = p_walk p k₀ (le_refl _)

-- all resolution keeps a relation that does not depend on the placeables begun
pub r_resolve : (R : Rel) → Closed (λ k. R) → (find find' : Find) → ((i : Bytes) → R (Option Holder) (look_up find i) (look_up find' i))
    → (st : Setting) (n : ℕ) (p : Pattern) (t : Trail) → R Done (resolve st find n p t) (resolve st find' n p t)
unfolding resolve
r_resolve R c find find' look st zero p t = c.r_ret {k = 0} tt
r_resolve R c find find' look st (suc n) p t =
    r_pattern (λ k. R) c find find' (λ k. look) (λ q u. resolve st find n q u) (λ q u. resolve st find' n q u) t 0 (λ k h q u. r_resolve R c find find' look st n q u) st p
