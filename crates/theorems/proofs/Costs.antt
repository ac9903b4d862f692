-- How long an error list can get, and how many lookups can find nothing: each placeable's expression adds no more to both than three times its own bytes.
use mathlib.Core.Path.{◌≡◌, refl}
use mathlib.Core.List.{List, [], ◌∷◌}
use mathlib.Core.Bool.{Bool, true, false}
use mathlib.Core.Option.{Option, none, some}
use Prim.Native.Nat.{ℕ, zero, suc, ◌+◌, ◌*◌, ◌≤◌}
use native.Mathlib.Omega.{arith}
use lib.ListN.{length}
use lib.Dec.{ltb}
use Rattle.numbers.specs.Number.{Number}
use Rattle.numbers.specs.Value.{Value, textual, numeric, nothing, wrong}
use Rattle.unescape.specs.Unescape.{has_backslash}
use Rattle.records.specs.Tree.{Literal, Named, Pattern, pattern, Elements, no_more, more, Element, text, placeable, Expression, inline, select, Inline, variable, nested, Arguments, without, with_arguments, Inlines, no_inline, and, Variants, no_variant, or, Variant, variant}
use Rattle.records.specs.Images.{Entry}
use Rattle.records.specs.Encode.{enc_str, enc_optional, enc_pattern, enc_elements, enc_element, enc_expression, enc_inline, enc_arguments, enc_inlines, enc_variants, enc_variant}
use Rattle.records.specs.Errors.{Error, Referred, reference, missing_default, cyclic, enc_error}
use Rattle.entries.specs.Lookup.{Holder, Find, part_of}
use Rattle.resolution.specs.Effect.{Bytes, Effect, put, report, begin, expand, unfound, open_text, keep_text, free, merged, Locals, State, M, Done, ret, ◌>>=◌, ◌>>◌, emit, write, is_dirty, get_locals, set_locals, max_placeables, enter_if, enter, only_if, entered, capture, release}
use Rattle.resolution.specs.Resolve.{Setting, Trail, Given, mark, cut_short, held, string_if, string_value, literal_value, named_values, write_ref_error, look_for, look_up, as_message, as_term, track_if, track, on_part, missing_piece, message_found, term_found, write_message, write_term, note_if, note_one, note_merges, merges_of, call, call_function, write_result, or_wrong, found_or, variable_in, get_variable, write_variable, write_pattern, write_elements, write_element, write_expression, write_nth, write_variant, write_inline, resolve_inline, term_arguments, get_arguments, resolve}
use Rattle.theorems.proofs.Held.{message_held, term_held}
use Rattle.theorems.proofs.Tally.{tally, tally_append}
use Rattle.theorems.proofs.Lengths.{small_length, reference_length, no_value_length, none_length, elements_size, more_size, placeable_size, inline_size, select_size, or_size, variant_size, variable_size, function_size, message_size, term_size, nested_size, arguments_size, and_size}

-- the bytes that an effect adds to the list, and one for a lookup that found nothing
abbrev pub listing : Effect → ℕ
listing (put b) = 0
listing (report e) = length (enc_error e)
listing begin = 0
listing expand = 0
listing unfound = 1
listing open_text = 0
listing keep_text = 0
listing (free n) = 0
listing (merged n) = 0

-- what one placeable may add: three times a resource image's most bytes
abbrev pub most : ℕ
most = 196608

-- what so many placeables may add
abbrev pub allowance : ℕ → ℕ
allowance zero = 0
allowance (suc n) = most + allowance n

-- an action adds no more than w, beside what the placeables may that it begins
pub record Costs (w : ℕ) (A : Type 0) (m : M A) : Type 0 where
  pub bound : (s : State) → tally listing (m s).trace + allowance s.begun ≤ w + allowance (m s).state.begun

more_cost : {v : ℕ} {A : Type 0} {m : M A} (w : ℕ) → v ≤ w → Costs v A m → Costs w A m
more_cost w le h = record { bound = λ s. omega (arith, h.bound s) }

bind_cost : {A B : Type 0} {v w : ℕ} {m : M A} {f : A → M B} → Costs v A m → ((a : A) → Costs w B (f a)) → Costs (v + w) B (m >>= f)
unfolding ◌>>=◌
bind_cost {m = m} {f = f} h k = record { bound = λ s. omega (arith, tally_append listing (m s).trace (f (m s).value (m s).state).trace, h.bound s, (k (m s).value).bound (m s).state) }

then_cost : {A B : Type 0} {v w : ℕ} {m : M A} {n : M B} → Costs v A m → Costs w B n → Costs (v + w) B (m >> n)
unfolding ◌>>◌
then_cost h k = bind_cost h (λ a. k)

-- two actions of which one adds nothing
bind_none : {A B : Type 0} {w : ℕ} {m : M A} {f : A → M B} → Costs w A m → ((a : A) → Costs 0 B (f a)) → Costs w B (m >>= f)
bind_none {w = w} h k = more_cost w (omega arith) (bind_cost h k)

none_bind : {A B : Type 0} {w : ℕ} {m : M A} {f : A → M B} → Costs 0 A m → ((a : A) → Costs w B (f a)) → Costs w B (m >>= f)
none_bind {w = w} h k = more_cost w (omega arith) (bind_cost h k)

then_none : {A B : Type 0} {w : ℕ} {m : M A} {n : M B} → Costs w A m → Costs 0 B n → Costs w B (m >> n)
then_none {w = w} h k = more_cost w (omega arith) (then_cost h k)

none_then : {A B : Type 0} {w : ℕ} {m : M A} {n : M B} → Costs 0 A m → Costs w B n → Costs w B (m >> n)
none_then {w = w} h k = more_cost w (omega arith) (then_cost h k)

ret_cost : {A : Type 0} (a : A) → Costs 0 A (ret a)
unfolding ret
ret_cost a = record { bound = λ s. omega arith }

write_cost : (b : Bytes) → Costs 0 Done (write b)
unfolding write
write_cost b = record { bound = λ s. omega arith }

dirty_cost : Costs 0 Bool is_dirty
unfolding is_dirty
dirty_cost = record { bound = λ s. omega arith }

get_cost : Costs 0 Locals get_locals
unfolding get_locals
get_cost = record { bound = λ s. omega arith }

set_cost : (l : Locals) → Costs 0 Done (set_locals l)
unfolding set_locals
set_cost l = record { bound = λ s. omega arith }

report_cost : (e : Error) → Costs (length (enc_error e)) Done (emit (report e))
unfolding emit
report_cost e = record { bound = λ s. omega arith }

merged_cost : (n : ℕ) → Costs 0 Done (emit (merged n))
unfolding emit
merged_cost n = record { bound = λ s. omega arith }

expand_cost : Costs 0 Done (emit expand)
unfolding emit
expand_cost = record { bound = λ s. omega arith }

capture_cost : {w : ℕ} {m : M Done} → Costs w Done m → Costs w Bytes (capture m)
unfolding capture
capture_cost {m = m} h = record { bound = λ s. omega (arith, h.bound s, tally_append listing (m s).trace (keep_text ∷ [])) }

release_cost : {A : Type 0} {w : ℕ} {m : M A} → Costs w A m → Costs w A (release m)
unfolding release
release_cost {m = m} h = record { bound = λ s. omega (arith, h.bound s, tally_append listing (m s).trace (free (m s).kept ∷ [])) }

-- what was looked up is known to what follows
look_cost : {B : Type 0} {w : ℕ} (o : Option Holder) (f : Option Holder → M B) → Costs w B (f o) → Costs (1 + w) B (look_for o >>= f)
unfolding look_for ◌>>=◌
look_cost none f h = record { bound = λ s. omega (arith, h.bound s) }
look_cost (some x) f h = record { bound = λ s. omega (arith, h.bound s) }

-- a placeable: what it may add is allowed by its being begun
go_cost : {n : M Done} → Costs most Done n → (d few : Bool) → Costs 0 Done (enter_if d few >>= λ go. only_if go n)
unfolding enter_if only_if ret ◌>>=◌
go_cost h true few = record { bound = λ s. omega arith }
go_cost h false false = record { bound = λ s. omega (arith, small_length.2) }
go_cost h false true = record { bound = λ s. omega (arith, h.bound (record { begun = suc s.begun; dirty = false; locals = s.locals })) }

entered_cost : {b m : M Done} → Costs 0 Done b → Costs most Done m → Costs 0 Done (entered b m)
unfolding entered enter ◌>>=◌
entered_cost {b = b} {m = m} h k =
    let i : Costs most Done (b >> (emit expand >> m)) = none_then h (none_then expand_cost k) in
    record { bound = λ s. (go_cost i s.dirty (ltb s.begun max_placeables)).bound s }

only_cost : {w : ℕ} {m : M Done} (b : Bool) → Costs w Done m → Costs w Done (only_if b m)
unfolding only_if
only_cost true h = h
only_cost {w = w} false h = more_cost w (omega arith) (ret_cost tt)

mark_cost : (b : Bool) (t : Bytes) → Costs 0 Done (mark b t)
unfolding mark
mark_cost true t = write_cost t
mark_cost false t = ret_cost tt

cut_cost : (t : Bytes) → Costs 0 Done (cut_short t)
unfolding cut_short
cut_cost t = none_bind dirty_cost (λ d. mark_cost d t)

held_cost : {w : ℕ} {m : M Bytes} → Costs w Bytes m → Costs w Value (held m)
unfolding held
held_cost h = bind_none h (λ b. ret_cost (textual b))

string_if_cost : (b : Bool) (t : Bytes) → Costs 0 Value (string_if b t)
unfolding string_if
string_if_cost true t = held_cost (capture_cost (write_cost _))
string_if_cost false t = ret_cost _

string_cost : (t : Bytes) → Costs 0 Value (string_value t)
unfolding string_value
string_cost t = string_if_cost (has_backslash t) t

literal_cost : (l : Literal) → Costs 0 Value (literal_value l)
unfolding literal_value
literal_cost (Literal.string t) = string_cost t
literal_cost (Literal.number t) = ret_cost _

named_cost : (ns : Named) → Costs 0 (List (Bytes × Value)) (named_values ns)
unfolding named_values
named_cost [] = ret_cost _
named_cost (e ∷ es) = none_bind (literal_cost e.1) (λ v. none_bind (named_cost es) (λ r. ret_cost _))

error_cost : (e : Error) (t : Bytes) → Costs (length (enc_error e)) Done (write_ref_error e t)
unfolding write_ref_error
error_cost e t = then_none (report_cost e) (write_cost _)

note_if_cost : (b : Bool) (n : Number) → Costs 0 Done (note_if b n)
unfolding note_if
note_if_cost true n = merged_cost _
note_if_cost false n = ret_cost tt

note_cost : (i : Bytes) (v : Value) → Costs 0 Done (note_one i v)
unfolding note_one
note_cost i (textual t) = ret_cost tt
note_cost i (numeric n) = note_if_cost _ n
note_cost i nothing = ret_cost tt
note_cost i wrong = ret_cost tt

notes_cost : (ns : List (Bytes × Value)) → Costs 0 Done (note_merges ns)
unfolding note_merges
notes_cost [] = ret_cost tt
notes_cost (e ∷ es) = none_then (note_cost _ _) (notes_cost es)

merges_cost : (vs : List Value) (ns : List (Bytes × Value)) → Costs 0 Done (merges_of vs ns)
unfolding merges_of
merges_cost [] ns = ret_cost tt
merges_cost (textual t ∷ vs) ns = ret_cost tt
merges_cost (numeric n ∷ vs) ns = notes_cost ns
merges_cost (nothing ∷ vs) ns = ret_cost tt
merges_cost (wrong ∷ vs) ns = ret_cost tt

call_cost : (g : Given) (o : Option Holder) → Costs 0 (Option Value) (call g o)
unfolding call
call_cost g none = ret_cost _
call_cost g (some (Holder.entry e)) = ret_cost _
call_cost g (some Holder.function) = none_then (merges_cost _ _) (ret_cost _)

function_cost : (find : Find) (i : Bytes) (g : Given) → Costs 1 (Option Value) (call_function find i g)
unfolding call_function look_up
function_cost find i g = look_cost (find i) (λ o. call g o) (call_cost g (find i))

result_cost : (i : Bytes) (o : Option Value) → Costs (7 + length i) Done (write_result i o)
unfolding write_result
result_cost i none = more_cost (7 + length i) (omega (arith, reference_length Referred.function i none, none_length)) (error_cost (reference Referred.function i none) _)
result_cost i (some (textual t)) = more_cost (7 + length i) (omega arith) (write_cost _)
result_cost i (some (numeric n)) = more_cost (7 + length i) (omega arith) (write_cost _)
result_cost i (some nothing) = more_cost (7 + length i) (omega arith) (write_cost _)
result_cost i (some wrong) = more_cost (7 + length i) (omega arith) (write_cost _)

or_wrong_cost : (o : Option Value) → Costs 0 Value (or_wrong o)
unfolding or_wrong
or_wrong_cost none = ret_cost _
or_wrong_cost (some v) = ret_cost _

found_cost : {w : ℕ} {m : M Done} → Costs w Done m → (o : Option Value) → Costs w (Option Value) (found_or m o)
unfolding found_or
found_cost h none = then_none h (ret_cost none)
found_cost {w = w} h (some v) = more_cost w (omega arith) (ret_cost (some v))

in_cost : (as' : List (Bytes × Value)) (i : Bytes) (l : Locals) → Costs (7 + length i) (Option Value) (variable_in as' i l)
unfolding variable_in
in_cost as' i none = found_cost (more_cost (7 + length i) (omega (arith, reference_length Referred.variable i none, none_length)) (report_cost (reference Referred.variable i none))) _
in_cost as' i (some l) = found_cost (more_cost (7 + length i) (omega arith) (ret_cost tt)) _

variable_cost : (as' : List (Bytes × Value)) (i : Bytes) → Costs (7 + length i) (Option Value) (get_variable as' i)
unfolding get_variable
variable_cost as' i = none_bind get_cost (λ l. in_cost as' i l)

variable_text_cost : (i : Bytes) (o : Option Value) → Costs 0 Done (write_variable i o)
unfolding write_variable
variable_text_cost i none = write_cost _
variable_text_cost i (some v) = write_cost _

-- a pattern of no more bytes than a resource image has
abbrev pub ImageSized : Pattern → Type 0
ImageSized p = 3 * length (enc_pattern p) ≤ most

-- every pattern that a reference can name is one
abbrev pub AllImageSized : Find → Type 0
AllImageSized find = (i : Bytes) (e : Entry) → find i ≡ some (Holder.entry e) → (a : Option Bytes) (p : Pattern) → part_of a e ≡ some p → ImageSized p

module _ (find : Find) (fit : AllImageSized find) (cross : Pattern → Trail → M Done) (trail : Trail) (crossed : (p : Pattern) (t : Trail) → ImageSized p → Costs 0 Done (cross p t)) where
  track_if_cost : (b : Bool) (t : Bytes) (p : Pattern) → ImageSized p → Costs 3 Done (track_if cross trail b t p)
  unfolding track_if
  track_if_cost true t p f = more_cost 3 (omega (arith, small_length.1)) (error_cost cyclic t)
  track_if_cost false t p f = more_cost 3 (omega arith) (crossed p _ f)

  track_cost : (t : Bytes) (p : Pattern) → ImageSized p → Costs 3 Done (track cross trail t p)
  unfolding track
  track_cost t p f = track_if_cost _ t p f

  part_cost : (w : ℕ) (e : Error) (t : Bytes) (o : Option Pattern) → length (enc_error e) ≤ w → 3 ≤ w → ((p : Pattern) → o ≡ some p → ImageSized p)
      → Costs w Done (on_part cross trail e t o)
  unfolding on_part
  part_cost w e t none le l f = more_cost w le (error_cost e t)
  part_cost w e t (some p) le l f = more_cost w l (track_cost t p (f p refl))

  -- what a reference may add: a Reference with its id and attribute
  abbrev reference_most : Bytes → Option Bytes → ℕ
  reference_most i a = 6 + length i + length (enc_optional enc_str a)

  missing_cost : (i : Bytes) (a : Option Bytes) → length (enc_error (missing_piece cross trail i a)) ≤ reference_most i a
  unfolding missing_piece
  missing_cost i none = omega (arith, no_value_length i)
  missing_cost i (some a) = omega (arith, reference_length Referred.message i (some a))

  message_found_cost : (i : Bytes) (a : Option Bytes) (o : Option Entry) → ((e : Entry) (p : Pattern) → o ≡ some e → part_of a e ≡ some p → ImageSized p)
      → Costs (reference_most i a) Done (message_found cross trail i a o)
  unfolding message_found
  message_found_cost i a none f = more_cost (reference_most i a) (omega (arith, reference_length Referred.message i a)) (error_cost (reference Referred.message i a) _)
  message_found_cost i a (some e) f = part_cost (reference_most i a) (missing_piece cross trail i a) _ _ (missing_cost i a) (omega arith) (λ p q. f e p refl q)

  term_found_cost : (i : Bytes) (a : Option Bytes) (o : Option Entry) → ((e : Entry) (p : Pattern) → o ≡ some e → part_of a e ≡ some p → ImageSized p)
      → Costs (reference_most i a) Done (term_found cross trail i a o)
  unfolding term_found
  term_found_cost i a none f = more_cost (reference_most i a) (omega (arith, reference_length Referred.term i a)) (error_cost (reference Referred.term i a) _)
  term_found_cost i a (some e) f = part_cost (reference_most i a) (reference Referred.term i a) _ _ (omega (arith, reference_length Referred.term i a)) (omega arith) (λ p q. f e p refl q)

  message_cost : (i : Bytes) (a : Option Bytes) → Costs (1 + reference_most i a) Done (write_message cross trail find i a)
  unfolding write_message look_up
  message_cost i a = look_cost (find i) (λ o. message_found cross trail i a (as_message o)) (message_found_cost i a (as_message (find i)) (λ e p h q. fit i e (message_held (find i) e h) a p q))

  term_cost : (i : Bytes) (a : Option Bytes) (ns : List (Bytes × Value)) → Costs (1 + reference_most i a) Done (write_term cross trail find i a ns)
  unfolding write_term look_up
  term_cost i a ns =
      let c = term_found_cost i a (as_term (find i)) (λ e p h q. fit i e (term_held (find i) e h) a p q) in
      none_then (set_cost _) (look_cost (find i) (λ o. term_found cross trail i a (as_term o) >> set_locals none) (then_none c (set_cost none)))

  module _ (st : Setting) where
    mutual
      unfolding write_pattern

      p_cost : (p : Pattern) → ImageSized p → Costs 0 Done (write_pattern st find cross trail p)
      p_cost (pattern b es) f = es_cost es _ (omega (arith, elements_size b es))

      es_cost : (es : Elements) (iso : Bool) → 3 * length (enc_elements es) ≤ most → Costs 0 Done (write_elements st find cross trail es iso)
      es_cost no_more iso f = ret_cost tt
      es_cost (more e es) iso f = none_then (e_cost e iso (omega (arith, more_size e es))) (es_cost es iso (omega (arith, more_size e es)))

      e_cost : (e : Element) (iso : Bool) → 3 * length (enc_element e) ≤ most → Costs 0 Done (write_element st find cross trail e iso)
      e_cost (text t) iso f = none_bind dirty_cost (λ d. only_cost _ (write_cost t))
      e_cost (placeable x) iso f =
          entered_cost (mark_cost _ _)
          (more_cost most (omega (arith, placeable_size x)) (then_none (x_cost x (omega (arith, placeable_size x))) (none_then (cut_cost _) (mark_cost _ _))))

      x_cost : (x : Expression) → 3 * length (enc_expression x) ≤ most
          → Costs (3 * length (enc_expression x)) Done (write_expression st find cross trail x)
      x_cost (inline x) f = more_cost (3 * length (enc_expression (inline x))) (omega (arith, inline_size x)) (i_cost x (omega (arith, inline_size x)))
      x_cost (select x vs) f =
          more_cost (3 * length (enc_expression (select x vs))) (omega (arith, select_size x vs))
          (bind_cost (release_cost (h_cost x (omega (arith, select_size x vs)))) (λ v. n_cost vs _ (omega (arith, select_size x vs))))

      n_cost : (vs : Variants) (n : Option ℕ) → 3 * length (enc_variants vs) ≤ most → Costs 3 Done (write_nth st find cross trail vs n)
      n_cost no_variant none f = more_cost 3 (omega (arith, small_length.0)) (report_cost missing_default)
      n_cost no_variant (some n) f = more_cost 3 (omega arith) (ret_cost tt)
      n_cost (or v vs) none f = more_cost 3 (omega (arith, small_length.0)) (report_cost missing_default)
      n_cost (or v vs) (some zero) f = more_cost 3 (omega arith) (v_cost v (omega (arith, or_size v vs)))
      n_cost (or v vs) (some (suc n)) f = n_cost vs (some n) (omega (arith, or_size v vs))

      v_cost : (v : Variant) → 3 * length (enc_variant v) ≤ most → Costs 0 Done (write_variant st find cross trail v)
      v_cost (variant k d p) f = p_cost p (omega (arith, variant_size k d p))

      i_cost : (x : Inline) → 3 * length (enc_inline x) ≤ most → Costs (3 * length (enc_inline x)) Done (write_inline st find cross trail x)
      i_cost (Inline.string t) f = more_cost (3 * length (enc_inline (Inline.string t))) (omega arith) (write_cost _)
      i_cost (Inline.number t) f = more_cost (3 * length (enc_inline (Inline.number t))) (omega arith) (write_cost _)
      i_cost (variable i) f =
          more_cost (3 * length (enc_inline (variable i))) (omega (arith, variable_size i)) (bind_none (variable_cost _ i) (λ v. variable_text_cost i v))
      i_cost (Inline.function i xs ns) f =
          more_cost (3 * length (enc_inline (Inline.function i xs ns))) (omega (arith, function_size i xs ns))
          (bind_cost (release_cost (bind_cost (g_cost xs ns (omega (arith, function_size i xs ns))) (λ g. function_cost find i g))) (λ v. result_cost i v))
      i_cost (Inline.message i a) f = more_cost (3 * length (enc_inline (Inline.message i a))) (omega (arith, message_size i a)) (message_cost i a)
      i_cost (Inline.term i a r) f =
          more_cost (3 * length (enc_inline (Inline.term i a r))) (omega (arith, term_size i a r))
          (release_cost (bind_cost (a_cost r (omega (arith, term_size i a r))) (λ g. term_cost i a g.named)))
      i_cost (nested x) f = more_cost (3 * length (enc_inline (nested x))) (omega (arith, nested_size x)) (x_cost x (omega (arith, nested_size x)))

      h_cost : (x : Inline) → 3 * length (enc_inline x) ≤ most → Costs (3 * length (enc_inline x)) Value (resolve_inline st find cross trail x)
      h_cost (Inline.string t) f = more_cost (3 * length (enc_inline (Inline.string t))) (omega arith) (string_cost t)
      h_cost (Inline.number t) f = more_cost (3 * length (enc_inline (Inline.number t))) (omega arith) (ret_cost _)
      h_cost (variable i) f =
          more_cost (3 * length (enc_inline (variable i))) (omega (arith, variable_size i)) (bind_none (variable_cost _ i) (λ v. or_wrong_cost v))
      h_cost (Inline.function i xs ns) f =
          more_cost (3 * length (enc_inline (Inline.function i xs ns))) (omega (arith, function_size i xs ns))
          (bind_none (release_cost (bind_cost (g_cost xs ns (omega (arith, function_size i xs ns))) (λ g. function_cost find i g))) (λ v. or_wrong_cost v))
      h_cost (Inline.message i a) f =
          more_cost (3 * length (enc_inline (Inline.message i a))) (omega (arith, message_size i a)) (held_cost (capture_cost (message_cost i a)))
      h_cost (Inline.term i a r) f =
          more_cost (3 * length (enc_inline (Inline.term i a r))) (omega (arith, term_size i a r))
          (held_cost (capture_cost (release_cost (bind_cost (a_cost r (omega (arith, term_size i a r))) (λ g. term_cost i a g.named)))))
      h_cost (nested x) f =
          more_cost (3 * length (enc_inline (nested x))) (omega (arith, nested_size x)) (held_cost (capture_cost (x_cost x (omega (arith, nested_size x)))))

      a_cost : (r : Arguments) → 3 * length (enc_arguments r) ≤ most → Costs (3 * length (enc_arguments r)) Given (term_arguments st find cross trail r)
      a_cost without f = more_cost (3 * length (enc_arguments without)) (omega arith) (ret_cost _)
      a_cost (with_arguments xs ns) f =
          more_cost (3 * length (enc_arguments (with_arguments xs ns))) (omega (arith, arguments_size xs ns)) (g_cost xs ns (omega (arith, arguments_size xs ns)))

      g_cost : (xs : Inlines) (ns : Named) → 3 * length (enc_inlines xs) ≤ most
          → Costs (3 * length (enc_inlines xs)) Given (get_arguments st find cross trail xs ns)
      g_cost no_inline ns f = more_cost (3 * length (enc_inlines no_inline)) (omega arith) (none_bind (named_cost ns) (λ n. ret_cost _))
      g_cost (and x xs) ns f =
          more_cost (3 * length (enc_inlines (and x xs))) (omega (arith, and_size x xs))
          (bind_cost (h_cost x (omega (arith, and_size x xs))) (λ v. bind_none (g_cost xs ns (omega (arith, and_size x xs))) (λ g. ret_cost _)))

-- a resolution adds no more than its placeables may
pub resolve_cost : (st : Setting) (find : Find) → AllImageSized find → (n : ℕ) (p : Pattern) (t : Trail) → ImageSized p → Costs 0 Done (resolve st find n p t)
unfolding resolve
resolve_cost st find fit zero p t f = ret_cost tt
resolve_cost st find fit (suc n) p t f = p_cost find fit (λ q u. resolve st find n q u) t (λ q u g. resolve_cost st find fit n q u g) st p f
