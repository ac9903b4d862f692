-- A property of actions, with what holds of the values that they end with, holds of all of resolution if the actions that it is made of have it, and
-- if what stands in the patterns is as it asks.
use mathlib.Core.Path.{◌≡◌, refl, ap, sym, subst, ◌∙◌}
use mathlib.Core.List.{List, [], ◌∷◌, ◌++◌, append_assoc}
use mathlib.Core.Bool.{Bool, true, false, ◌&&◌, not}
use mathlib.Core.Option.{Option, none, some}
use Prim.Native.Nat.{ℕ, zero, suc}
use native.Mathlib.Omega.{arith}
use Rattle.numbers.specs.Number.{Number, literal}
use Rattle.numbers.specs.Value.{Value, textual, numeric, nothing, wrong, value_text, number_function}
use Rattle.unescape.specs.Unescape.{has_backslash, unescape}
use Rattle.decimals.specs.Bytes.{same_bytes}
use Rattle.records.specs.Tree.{Literal, Named, Pattern, pattern, Elements, no_more, more, Element, text, placeable, Expression, inline, select, Inline, variable, nested, Arguments, without, with_arguments, Inlines, no_inline, and, Variants, no_variant, or, Variant, variant}
use Rattle.records.specs.Images.{Entry}
use Rattle.records.specs.Errors.{Error, Referred, reference, no_value, missing_default, cyclic}
use Rattle.records.specs.Valid.{All, IfAny}
use Rattle.entries.specs.Lookup.{Holder, Find, part_of}
use Rattle.records.specs.Optional.{or_else, option_of}
use Rattle.resolution.specs.Effect.{Bytes, report, merged, Locals, M, Done, ret, ◌>>=◌, ◌>>◌, emit, write, is_dirty, get_locals, set_locals, only_if, entered, capture, release}
use Rattle.resolution.specs.Resolve.{Setting, Trail, Given, dotted, error_text, error_of, braced, bare, fsi, pdi, mark, cut_short, held, string_if, string_value, literal_value, named_values, write_ref_error, look_up, as_message, as_term, track_if, track, on_part, missing_piece, message_found, term_found, write_message, write_term, pushed, note_if, note_one, note_merges, merges_of, call, call_function, write_result, or_wrong, found_or, variable_in, get_variable, write_variable, write_pattern, write_elements, write_element, write_expression, write_nth, write_variant, write_inline, resolve_inline, term_arguments, get_arguments, resolve}
use Rattle.records.specs.Names.{first_named}
use Rattle.theorems.specs.Leaves.{Leaf, literal_leaves, named_leaves, leaves_of, elements_leaves, element_leaves, expression_leaves, inline_leaves, arguments_leaves, inlines_leaves, variants_leaves, variant_leaves}
use Rattle.theorems.proofs.Every.{all_left, all_right}
use Rattle.unescape.proofs.Reading.{unescape_plain}
use Rattle.theorems.proofs.Ascii.{Ascii, ascii_append, number_ascii}

-- a property of actions, and what holds of the value
abbrev pub Pred : Type 1
Pred = (A : Type 0) → (A → Type 0) → M A → Type 0

abbrev pub Any : {A : Type 0} → A → Type 0
Any a = Unit {0}

-- a value whose text, if it is one, is as T asks
abbrev pub Fine : (Bytes → Type 0) → Value → Type 0
Fine T (textual s) = T s
Fine T (numeric n) = Unit {0}
Fine T nothing = Unit {0}
Fine T wrong = Unit {0}

abbrev pub FineNamed : (Bytes → Type 0) → Bytes × Value → Type 0
FineNamed T e = Fine T e.1

abbrev pub FineLocals : (Bytes → Type 0) → Locals → Type 0
FineLocals T l = IfAny (All (FineNamed T)) l

pub record FineGiven (T : Bytes → Type 0) (g : Given) : Type 0 where
  pub positional : All (Fine T) g.positional
  pub named : All (FineNamed T) g.named

-- the actions that resolution is made of have the property: T of what is written, E of what is listed
pub record Closed (T : Bytes → Type 0) (E : Error → Type 0) (P : Pred) : Type 1 where
  pub k_ret : {A : Type 0} {Ok : A → Type 0} (a : A) → Ok a → P A Ok (ret a)
  pub k_bind : {A B : Type 0} {Ok : A → Type 0} {Ok' : B → Type 0} {m : M A} {f : A → M B} → P A Ok m → ((a : A) → Ok a → P B Ok' (f a)) → P B Ok' (m >>= f)
  pub k_report : (e : Error) → E e → P Done Any (emit (report e))
  pub k_merged : (n : ℕ) → P Done Any (emit (merged n))
  pub k_write : (b : Bytes) → T b → P Done Any (write b)
  pub k_dirty : P Bool Any is_dirty
  pub k_get : P Locals (FineLocals T) get_locals
  pub k_set : (l : Locals) → FineLocals T l → P Done Any (set_locals l)
  pub k_entered : (c : Bool) {x y : M Done} → P Done Any x → P Done Any y → P Done Any (entered (mark c fsi) (x >> (y >> mark c pdi)))
  pub k_capture : {m : M Done} → P Done Any m → P Bytes T (capture m)
  pub k_release : {A : Type 0} {Ok : A → Type 0} {m : M A} → P A Ok m → P A Ok (release m)

-- What is asked of a pattern's leaves. G is what is asked of the pattern that a reference leads to.
module _ (T : Bytes → Type 0) (E : Error → Type 0) (as' : List (Bytes × Value)) (find : Find) (G : Pattern → Type 0) where
  abbrev pub GoodLeaf : Leaf → Type 0
  GoodLeaf (Leaf.text t) = T t
  GoodLeaf (Leaf.string s) = T (unescape s)
  GoodLeaf (Leaf.variable i) = Ascii i × (first_named i as' ≡ none → E (reference Referred.variable i none))
  GoodLeaf (Leaf.function i) = Ascii i × E (reference Referred.function i none)
  GoodLeaf (Leaf.message i a) =
      Ascii i × IfAny Ascii a × E (reference Referred.message i a) × E (no_value i) × ((e : Entry) (q : Pattern) → as_message (find i) ≡ some e → part_of a e ≡ some q → G q)
  GoodLeaf (Leaf.term i a) = Ascii i × IfAny Ascii a × E (reference Referred.term i a) × ((e : Entry) (q : Pattern) → as_term (find i) ≡ some e → part_of a e ≡ some q → G q)

dotted_ascii : (i : Bytes) (a : Option Bytes) → Ascii i → IfAny Ascii a → Ascii (dotted i a)
unfolding dotted
dotted_ascii i none h k = h
dotted_ascii i (some a) h k = ascii_append i (46 ∷ a) h (omega arith, k)

called_ascii : (i : Bytes) → Ascii i → Ascii (i ++ (40 ∷ 41 ∷ []))
called_ascii i h = ascii_append i (40 ∷ 41 ∷ []) h (omega arith, (omega arith, tt))

braced_ascii : (b : Bytes) → Ascii b → Ascii (braced b)
unfolding braced
braced_ascii b h = (omega arith, ascii_append b (125 ∷ []) h (omega arith, tt))

literal_ascii : (n : Bytes) → Ascii (value_text (numeric (literal n)))
unfolding value_text
literal_ascii n = number_ascii (literal n)

marks_ascii : Ascii (63 ∷ 63 ∷ 63 ∷ [])
marks_ascii = (omega arith, (omega arith, (omega arith, tt)))

module _ (T : Bytes → Type 0) (E : Error → Type 0) (as' : List (Bytes × Value)) (find : Find) (G : Pattern → Type 0) where
  error_ascii : (x : Inline) → All (GoodLeaf T E as' find G) (inline_leaves x) → Ascii (error_text x)
  unfolding error_text inline_leaves
  error_ascii (Inline.string s) h = marks_ascii
  error_ascii (Inline.number s) h = marks_ascii
  error_ascii (variable i) h = (omega arith, h.0.0)
  error_ascii (Inline.function i xs ns) h = called_ascii i h.0.0
  error_ascii (Inline.message i a) h = dotted_ascii i a h.0.0 h.0.1
  error_ascii (Inline.term i a r) h = (omega arith, dotted_ascii i a h.0.0 h.0.1)
  error_ascii (nested x) h = marks_ascii

  error_of_ascii : (x : Expression) → All (GoodLeaf T E as' find G) (expression_leaves x) → Ascii (error_of x)
  unfolding error_of expression_leaves
  error_of_ascii (inline x) h = error_ascii x h
  error_of_ascii (select x vs) h = error_ascii x (all_left _ (inline_leaves x) (variants_leaves vs) h)

module _ (T : Bytes → Type 0) where
  first_fine : (i : Bytes) (l : List (Bytes × Value)) → All (FineNamed T) l → IfAny (Fine T) (first_named i l)
  unfolding first_named or_else option_of
  first_fine i [] h = tt
  first_fine i (e ∷ es) h = go (same_bytes e.0 i) (first_fine i es h.1)
    where
      go : (b : Bool) → IfAny (Fine T) (first_named i es) → IfAny (Fine T) (or_else (option_of b e.1) (first_named i es))
      go true k = h.0
      go false k = k

  number_fine : (vs : List Value) (ns : List (Bytes × Value)) → Fine T (number_function vs ns)
  unfolding number_function
  number_fine [] ns = tt
  number_fine (textual s ∷ vs) ns = tt
  number_fine (numeric n ∷ vs) ns = tt
  number_fine (nothing ∷ vs) ns = tt
  number_fine (wrong ∷ vs) ns = tt

module _ (T : Bytes → Type 0) (E : Error → Type 0) (P : Pred) (c : Closed T E P) (ascii : (b : Bytes) → Ascii b → T b) (circles : E cyclic) (defaultless : E missing_default) where
  k_then : {A B : Type 0} {Ok : A → Type 0} {Ok' : B → Type 0} {m : M A} {n : M B} → P A Ok m → P B Ok' n → P B Ok' (m >> n)
  unfolding ◌>>◌
  k_then h l = c.k_bind h (λ a q. l)

  k_done : P Done Any (ret tt)
  k_done = c.k_ret tt tt

  k_only_if : {m : M Done} (b : Bool) → P Done Any m → P Done Any (only_if b m)
  unfolding only_if
  k_only_if true h = h
  k_only_if false h = k_done

  k_mark : (b : Bool) (t : Bytes) → T t → P Done Any (mark b t)
  unfolding mark
  k_mark true t h = c.k_write t h
  k_mark false t h = k_done

  k_cut_short : (t : Bytes) → T t → P Done Any (cut_short t)
  unfolding cut_short
  k_cut_short t h = c.k_bind c.k_dirty (λ d q. k_mark d t h)

  k_held : {m : M Bytes} → P Bytes T m → P Value (Fine T) (held m)
  unfolding held
  k_held h = c.k_bind h (λ b q. c.k_ret (textual b) q)

  k_string_if : (b : Bool) (s : Bytes) → has_backslash s ≡ b → T (unescape s) → P Value (Fine T) (string_if b s)
  unfolding string_if
  k_string_if true s e h = k_held (c.k_capture (c.k_write _ h))
  k_string_if false s e h = c.k_ret (textual s) (subst T (unescape_plain s e) h)

  k_string : (s : Bytes) → T (unescape s) → P Value (Fine T) (string_value s)
  unfolding string_value
  k_string s h = k_string_if (has_backslash s) s refl h

  k_ref_error : (e : Error) → E e → (t : Bytes) → Ascii t → P Done Any (write_ref_error e t)
  unfolding write_ref_error
  k_ref_error e p t h = k_then (c.k_report e p) (c.k_write _ (ascii _ (braced_ascii t h)))

  k_note_if : (b : Bool) (n : Number) → P Done Any (note_if b n)
  unfolding note_if
  k_note_if true n = c.k_merged _
  k_note_if false n = k_done

  k_note_one : (i : Bytes) (v : Value) → P Done Any (note_one i v)
  unfolding note_one
  k_note_one i (textual s) = k_done
  k_note_one i (numeric n) = k_note_if _ n
  k_note_one i nothing = k_done
  k_note_one i wrong = k_done

  k_notes : (ns : List (Bytes × Value)) → P Done Any (note_merges ns)
  unfolding note_merges
  k_notes [] = k_done
  k_notes (e ∷ es) = k_then (k_note_one _ _) (k_notes es)

  k_merges : (vs : List Value) (ns : List (Bytes × Value)) → P Done Any (merges_of vs ns)
  unfolding merges_of
  k_merges [] ns = k_done
  k_merges (textual s ∷ vs) ns = k_done
  k_merges (numeric n ∷ vs) ns = k_notes ns
  k_merges (nothing ∷ vs) ns = k_done
  k_merges (wrong ∷ vs) ns = k_done

  k_call : (g : Given) (o : Option Holder) → P (Option Value) (IfAny (Fine T)) (call g o)
  unfolding call
  k_call g none = c.k_ret none tt
  k_call g (some (Holder.entry e)) = c.k_ret none tt
  k_call g (some Holder.function) = k_then (k_merges _ _) (c.k_ret (some (number_function g.positional g.named)) (number_fine T g.positional g.named))

  k_result : (i : Bytes) → Ascii i → E (reference Referred.function i none) → (o : Option Value) → IfAny (Fine T) o → P Done Any (write_result i o)
  unfolding write_result value_text
  k_result i a r none h = k_ref_error _ r _ (called_ascii i a)
  k_result i a r (some (textual s)) h = c.k_write s h
  k_result i a r (some (numeric n)) h = c.k_write _ (ascii _ (number_ascii n))
  k_result i a r (some nothing) h = c.k_write _ (ascii [] tt)
  k_result i a r (some wrong) h = c.k_write _ (ascii _ (called_ascii i a))

  k_or_wrong : (o : Option Value) → IfAny (Fine T) o → P Value (Fine T) (or_wrong o)
  unfolding or_wrong
  k_or_wrong none h = c.k_ret wrong tt
  k_or_wrong (some v) h = c.k_ret v h

  k_found_or : {m : M Done} (o : Option Value) → (o ≡ none → P Done Any m) → IfAny (Fine T) o → P (Option Value) (IfAny (Fine T)) (found_or m o)
  unfolding found_or
  k_found_or none f h = k_then (f refl) (c.k_ret none tt)
  k_found_or (some v) f h = c.k_ret (some v) h

  k_variable_text : (i : Bytes) → Ascii i → (o : Option Value) → IfAny (Fine T) o → P Done Any (write_variable i o)
  unfolding write_variable value_text
  k_variable_text i a none h = c.k_write _ (ascii _ (braced_ascii (36 ∷ i) (omega arith, a)))
  k_variable_text i a (some (textual s)) h = c.k_write s h
  k_variable_text i a (some (numeric n)) h = c.k_write _ (ascii _ (number_ascii n))
  k_variable_text i a (some nothing) h = c.k_write _ (ascii [] tt)
  k_variable_text i a (some wrong) h = c.k_write _ (ascii [] tt)

  module _ (as' : List (Bytes × Value)) (fine : All (FineNamed T) as') (find : Find) (G : Pattern → Type 0) where
    k_literal : (l : Literal) → All (GoodLeaf T E as' find G) (literal_leaves l) → P Value (Fine T) (literal_value l)
    unfolding literal_value literal_leaves
    k_literal (Literal.string s) h = k_string s h.0
    k_literal (Literal.number n) h = c.k_ret _ tt

    k_named : (ns : Named) → All (GoodLeaf T E as' find G) (named_leaves ns) → P (List (Bytes × Value)) (All (FineNamed T)) (named_values ns)
    unfolding named_values named_leaves
    k_named [] h = c.k_ret [] tt
    k_named (e ∷ es) h =
        c.k_bind (k_literal e.1 (all_left _ (literal_leaves e.1) (named_leaves es) h)) (λ v q.
        c.k_bind (k_named es (all_right _ (literal_leaves e.1) (named_leaves es) h)) (λ r k.
        c.k_ret ((e.0, v) ∷ r) (q, k)))

    k_variable_in : (i : Bytes) → GoodLeaf T E as' find G (Leaf.variable i) → (l : Locals) → FineLocals T l → P (Option Value) (IfAny (Fine T)) (variable_in as' i l)
    unfolding variable_in
    k_variable_in i h none k = k_found_or (first_named i as') (λ e. c.k_report _ (h.1 e)) (first_fine T i as' fine)
    k_variable_in i h (some l) k = k_found_or (first_named i l) (λ e. k_done) (first_fine T i l k)

    k_variable : (i : Bytes) → GoodLeaf T E as' find G (Leaf.variable i) → P (Option Value) (IfAny (Fine T)) (get_variable as' i)
    unfolding get_variable
    k_variable i h = c.k_bind c.k_get (λ l k. k_variable_in i h l k)

    module _ (look : (i : Bytes) → P (Option Holder) (λ o. o ≡ find i) (look_up find i)) where
      k_function : (i : Bytes) (g : Given) → P (Option Value) (IfAny (Fine T)) (call_function find i g)
      unfolding call_function
      k_function i g = c.k_bind (look i) (λ o q. k_call g o)

      module _ (cross : Pattern → Trail → M Done) (kCross : (q : Pattern) → G q → (t : Trail) → P Done Any (cross q t)) (trail : Trail) where
        k_track_if : (b : Bool) (t : Bytes) → Ascii t → (p : Pattern) → G p → P Done Any (track_if cross trail b t p)
        unfolding track_if
        k_track_if true t a p h = k_ref_error _ circles t a
        k_track_if false t a p h = kCross p h _

        k_track : (t : Bytes) → Ascii t → (p : Pattern) → G p → P Done Any (track cross trail t p)
        unfolding track
        k_track t a p h = k_track_if _ t a p h

        k_on_part : (e : Error) → E e → (t : Bytes) → Ascii t → (o : Option Pattern) → ((q : Pattern) → o ≡ some q → G q) → P Done Any (on_part cross trail e t o)
        unfolding on_part
        k_on_part e p t a none h = k_ref_error e p t a
        k_on_part e p t a (some q) h = k_track t a q (h q refl)

        k_message_found : (i : Bytes) (a : Option Bytes) → Ascii i → IfAny Ascii a → E (reference Referred.message i a) → E (no_value i) → (o : Option Entry) → ((e : Entry) (q : Pattern) → o ≡ some e → part_of a e ≡ some q → G q)
            → P Done Any (message_found cross trail i a o)
        unfolding message_found missing_piece
        k_message_found i none h k r z none f = k_ref_error _ r _ (dotted_ascii i none h k)
        k_message_found i (some a) h k r z none f = k_ref_error _ r _ (dotted_ascii i (some a) h k)
        k_message_found i none h k r z (some e) f = k_on_part _ z _ (dotted_ascii i none h k) _ (λ q. f e q refl)
        k_message_found i (some a) h k r z (some e) f = k_on_part _ r _ (dotted_ascii i (some a) h k) _ (λ q. f e q refl)

        k_term_found : (i : Bytes) (a : Option Bytes) → Ascii i → IfAny Ascii a → E (reference Referred.term i a) → (o : Option Entry) → ((e : Entry) (q : Pattern) → o ≡ some e → part_of a e ≡ some q → G q)
            → P Done Any (term_found cross trail i a o)
        unfolding term_found
        k_term_found i a h k r none f = k_ref_error _ r _ (omega arith, dotted_ascii i a h k)
        k_term_found i a h k r (some e) f = k_on_part _ r _ (omega arith, dotted_ascii i a h k) _ (λ q. f e q refl)

        k_message : (i : Bytes) (a : Option Bytes) → GoodLeaf T E as' find G (Leaf.message i a) → P Done Any (write_message cross trail find i a)
        unfolding write_message
        k_message i a h = c.k_bind (look i) (λ o z. k_message_found i a h.0 h.1 h.2 h.3 (as_message o) (λ e q x. h.4 e q (ap as_message (sym z) ∙ x)))

        k_term : (i : Bytes) (a : Option Bytes) → GoodLeaf T E as' find G (Leaf.term i a) → (ns : List (Bytes × Value)) → All (FineNamed T) ns
            → P Done Any (write_term cross trail find i a ns)
        unfolding write_term
        k_term i a h ns k =
            k_then (c.k_set (some ns) k)
            (c.k_bind (look i) (λ o z.
            k_then (k_term_found i a h.0 h.1 h.2 (as_term o) (λ e q x. h.3 e q (ap as_term (sym z) ∙ x))) (c.k_set none tt)))

        module _ (locale : ℕ) (isolating : Bool) where
          abbrev st : Setting
          st = record { locale = locale; isolating = isolating; arguments = as' }

          abbrev Gs : List Leaf → Type 0
          Gs l = All (GoodLeaf T E as' find G) l

          mutual
            unfolding write_pattern leaves_of pushed

            p_walk : (p : Pattern) → Gs (leaves_of p) → P Done Any (write_pattern st find cross trail p)
            p_walk (pattern b es) h = es_walk es _ h

            es_walk : (es : Elements) (iso : Bool) → Gs (elements_leaves es) → P Done Any (write_elements st find cross trail es iso)
            es_walk no_more iso h = k_done
            es_walk (more e es) iso h = k_then (e_walk e iso (all_left _ (element_leaves e) (elements_leaves es) h)) (es_walk es iso (all_right _ (element_leaves e) (elements_leaves es) h))

            e_walk : (e : Element) (iso : Bool) → Gs (element_leaves e) → P Done Any (write_element st find cross trail e iso)
            e_walk (text t) iso h = c.k_bind c.k_dirty (λ d q. k_only_if _ (c.k_write t h.0))
            e_walk (placeable x) iso h = c.k_entered (iso && not (bare x)) (x_walk x h) (k_cut_short _ (ascii _ (braced_ascii _ (error_of_ascii T E as' find G x h))))

            x_walk : (x : Expression) → Gs (expression_leaves x) → P Done Any (write_expression st find cross trail x)
            x_walk (inline x) h = i_walk x h
            x_walk (select x vs) h = c.k_bind (c.k_release (h_walk x (all_left _ (inline_leaves x) (variants_leaves vs) h))) (λ v q. n_walk vs _ (all_right _ (inline_leaves x) (variants_leaves vs) h))

            n_walk : (vs : Variants) (n : Option ℕ) → Gs (variants_leaves vs) → P Done Any (write_nth st find cross trail vs n)
            n_walk no_variant none h = c.k_report _ defaultless
            n_walk no_variant (some n) h = k_done
            n_walk (or v vs) none h = c.k_report _ defaultless
            n_walk (or v vs) (some zero) h = v_walk v (all_left _ (variant_leaves v) (variants_leaves vs) h)
            n_walk (or v vs) (some (suc n)) h = n_walk vs (some n) (all_right _ (variant_leaves v) (variants_leaves vs) h)

            v_walk : (v : Variant) → Gs (variant_leaves v) → P Done Any (write_variant st find cross trail v)
            v_walk (variant k d p) h = p_walk p h

            i_walk : (x : Inline) → Gs (inline_leaves x) → P Done Any (write_inline st find cross trail x)
            i_walk (Inline.string s) h = c.k_write _ h.0
            i_walk (Inline.number n) h = c.k_write _ (ascii _ (literal_ascii n))
            i_walk (variable i) h = c.k_bind (k_variable i h.0) (λ v q. k_variable_text i h.0.0 v q)
            i_walk (Inline.function i xs ns) h = c.k_bind (c.k_release (c.k_bind (g_walk xs ns h.1) (λ g q. k_function i g))) (λ v q. k_result i h.0.0 h.0.1 v q)
            i_walk (Inline.message i a) h = k_message i a h.0
            i_walk (Inline.term i a r) h = c.k_release (c.k_bind (a_walk r h.1) (λ g q. k_term i a h.0 g.named q.named))
            i_walk (nested x) h = x_walk x h

            h_walk : (x : Inline) → Gs (inline_leaves x) → P Value (Fine T) (resolve_inline st find cross trail x)
            h_walk (Inline.string s) h = k_string s h.0
            h_walk (Inline.number n) h = c.k_ret _ tt
            h_walk (variable i) h = c.k_bind (k_variable i h.0) (λ v q. k_or_wrong v q)
            h_walk (Inline.function i xs ns) h = c.k_bind (c.k_release (c.k_bind (g_walk xs ns h.1) (λ g q. k_function i g))) (λ v q. k_or_wrong v q)
            h_walk (Inline.message i a) h = k_held (c.k_capture (k_message i a h.0))
            h_walk (Inline.term i a r) h = k_held (c.k_capture (c.k_release (c.k_bind (a_walk r h.1) (λ g q. k_term i a h.0 g.named q.named))))
            h_walk (nested x) h = k_held (c.k_capture (x_walk x h))

            a_walk : (r : Arguments) → Gs (arguments_leaves r) → P Given (FineGiven T) (term_arguments st find cross trail r)
            a_walk without h = c.k_ret _ (record { positional = tt; named = tt })
            a_walk (with_arguments xs ns) h = g_walk xs ns h

            g_walk : (xs : Inlines) (ns : Named) → Gs (inlines_leaves xs ++ named_leaves ns) → P Given (FineGiven T) (get_arguments st find cross trail xs ns)
            g_walk no_inline ns h = c.k_bind (k_named ns h) (λ n q. c.k_ret _ (record { positional = tt; named = q }))
            g_walk (and x xs) ns h =
                let k = rw append_assoc at h in
                c.k_bind (h_walk x (all_left _ (inline_leaves x) (inlines_leaves xs ++ named_leaves ns) k)) (λ v q.
                c.k_bind (g_walk xs ns (all_right _ (inline_leaves x) (inlines_leaves xs ++ named_leaves ns) k)) (λ g z.
                c.k_ret (pushed v g) (record { positional = (q, z.positional); named = z.named })))

      -- A resolution has the property where every pattern of which G holds has good leaves.
      pub k_resolve : ((q : Pattern) → G q → All (GoodLeaf T E as' find G) (leaves_of q)) → (locale : ℕ) (isolating : Bool) (n : ℕ) (p : Pattern) → G p → (t : Trail)
          → P Done Any (resolve (record { locale = locale; isolating = isolating; arguments = as' }) find n p t)
      unfolding resolve
      k_resolve good l iso zero p h t = k_done
      k_resolve good l iso (suc n) p h t =
          p_walk (λ q u. resolve (record { locale = l; isolating = iso; arguments = as' }) find n q u) (λ q k u. k_resolve good l iso n q k u) t l iso p (good p h)
