-- What is written keeps nothing at the workspace's back: only selectors and arguments do, and those are freed.
use mathlib.Core.Path.{◌≡◌, refl}
use mathlib.Core.List.{List}
use mathlib.Core.Bool.{Bool, true, false, not}
use mathlib.Core.Option.{Option, none, some}
use Prim.Native.Nat.{ℕ, zero, suc}
use native.Mathlib.Omega.{arith}
use lib.Dec.{ltb}
use Rattle.numbers.specs.Value.{Value, textual, numeric, nothing, wrong}
use Rattle.records.specs.Tree.{Pattern, pattern, Elements, no_more, more, Element, text, placeable, Expression, inline, select, Inline, variable, nested, Variants, no_variant, or, Variant, variant}
use Rattle.records.specs.Images.{Entry}
use Rattle.records.specs.Errors.{Error}
use Rattle.entries.specs.Lookup.{Holder, Find}
use Rattle.resolution.specs.Effect.{Bytes, Effect, report, expand, Locals, State, M, Done, ret, ◌>>=◌, ◌>>◌, emit, write, is_dirty, get_locals, set_locals, max_placeables, enter_if, enter, only_if, entered, release}
use Rattle.resolution.specs.Resolve.{Setting, Trail, mark, cut_short, write_ref_error, look_for, look_up, as_message, track_if, track, on_part, message_found, term_found, write_message, write_result, found_or, variable_in, get_variable, write_variable, write_pattern, write_elements, write_element, write_expression, write_nth, write_variant, write_inline, resolve}

-- an action that keeps nothing
abbrev pub Keepless : (A : Type 0) → M A → Type 0
Keepless A m = (s : State) → (m s).kept ≡ 0

then_none : {A B : Type 0} (m : M A) (n : M B) → Keepless A m → Keepless B n → Keepless B (m >> n)
unfolding ◌>>=◌ ◌>>◌
then_none m n h k s = omega (arith, h s, k (m s).state)

bind_none : {A B : Type 0} (m : M A) (f : A → M B) → Keepless A m → ((a : A) → Keepless B (f a)) → Keepless B (m >>= f)
unfolding ◌>>=◌
bind_none m f h k s = omega (arith, h s, k (m s).value (m s).state)

release_none : {A : Type 0} (m : M A) → Keepless A (release m)
unfolding release
release_none m s = refl

ret_none : {A : Type 0} (a : A) → Keepless A (ret a)
unfolding ret
ret_none a s = refl

emit_none : (e : Effect) → Keepless Done (emit e)
unfolding emit
emit_none e s = refl

write_none : (b : Bytes) → Keepless Done (write b)
unfolding write
write_none b s = refl

dirty_none : Keepless Bool is_dirty
unfolding is_dirty
dirty_none s = refl

set_none : (l : Locals) → Keepless Done (set_locals l)
unfolding set_locals
set_none l s = refl

only_none : (b : Bool) (m : M Done) → Keepless Done m → Keepless Done (only_if b m)
unfolding only_if
only_none true m h = h
only_none false m h = ret_none tt

enter_if_none : (b few : Bool) → Keepless Bool (enter_if b few)
unfolding enter_if
enter_if_none true few s = refl
enter_if_none false true s = refl
enter_if_none false false s = refl

enter_none : Keepless Bool enter
unfolding enter
enter_none s = enter_if_none s.dirty (ltb s.begun max_placeables) s

entered_none : (b m : M Done) → Keepless Done b → Keepless Done m → Keepless Done (entered b m)
unfolding entered
entered_none b m h k =
    let n = then_none b (emit expand >> m) h (then_none (emit expand) m (emit_none expand) k) in
    bind_none enter (λ go. only_if go (b >> (emit expand >> m))) enter_none (λ go. only_none go _ n)

mark_none : (b : Bool) (t : Bytes) → Keepless Done (mark b t)
unfolding mark
mark_none true t = write_none t
mark_none false t = ret_none tt

cut_none : (t : Bytes) → Keepless Done (cut_short t)
unfolding cut_short
cut_none t = bind_none is_dirty (λ d. mark d t) dirty_none (λ d. mark_none d t)

error_none : (e : Error) (t : Bytes) → Keepless Done (write_ref_error e t)
unfolding write_ref_error
error_none e t = then_none (emit (report e)) (write _) (emit_none _) (write_none _)

look_for_none : (o : Option Holder) → Keepless (Option Holder) (look_for o)
unfolding look_for
look_for_none none s = refl
look_for_none (some h) s = refl

look_none : (find : Find) (i : Bytes) → Keepless (Option Holder) (look_up find i)
unfolding look_up
look_none find i = look_for_none (find i)

result_none : (i : Bytes) (o : Option Value) → Keepless Done (write_result i o)
unfolding write_result
result_none i none = error_none _ _
result_none i (some (textual s)) = write_none _
result_none i (some (numeric n)) = write_none _
result_none i (some nothing) = write_none _
result_none i (some wrong) = write_none _

found_none : (m : M Done) → Keepless Done m → (o : Option Value) → Keepless (Option Value) (found_or m o)
unfolding found_or
found_none m h none = then_none m (ret none) h (ret_none none)
found_none m h (some v) = ret_none _

in_none : (as' : List (Bytes × Value)) (i : Bytes) (l : Locals) → Keepless (Option Value) (variable_in as' i l)
unfolding variable_in
in_none as' i none = found_none _ (emit_none _) _
in_none as' i (some l) = found_none _ (ret_none tt) _

get_none : Keepless Locals get_locals
unfolding get_locals
get_none s = refl

variable_none : (as' : List (Bytes × Value)) (i : Bytes) → Keepless (Option Value) (get_variable as' i)
unfolding get_variable
variable_none as' i = bind_none get_locals (λ l. variable_in as' i l) get_none (λ l. in_none as' i l)

variable_text_none : (i : Bytes) (o : Option Value) → Keepless Done (write_variable i o)
unfolding write_variable
variable_text_none i none = write_none _
variable_text_none i (some v) = write_none _

module _ (find : Find) (cross : Pattern → Trail → M Done) (trail : Trail) (h : (p : Pattern) (t : Trail) → Keepless Done (cross p t)) where
  track_if_none : (b : Bool) (t : Bytes) (p : Pattern) → Keepless Done (track_if cross trail b t p)
  unfolding track_if
  track_if_none true t p = error_none _ _
  track_if_none false t p = h p _

  track_none : (t : Bytes) (p : Pattern) → Keepless Done (track cross trail t p)
  unfolding track
  track_none t p = track_if_none _ t p

  part_none : (e : Error) (t : Bytes) (o : Option Pattern) → Keepless Done (on_part cross trail e t o)
  unfolding on_part
  part_none e t none = error_none _ _
  part_none e t (some p) = track_none t p

  message_found_none : (i : Bytes) (a : Option Bytes) (o : Option Entry) → Keepless Done (message_found cross trail i a o)
  unfolding message_found
  message_found_none i a none = error_none _ _
  message_found_none i a (some e) = part_none _ _ _

  term_found_none : (i : Bytes) (a : Option Bytes) (o : Option Entry) → Keepless Done (term_found cross trail i a o)
  unfolding term_found
  term_found_none i a none = error_none _ _
  term_found_none i a (some e) = part_none _ _ _

  message_none : (i : Bytes) (a : Option Bytes) → Keepless Done (write_message cross trail find i a)
  unfolding write_message
  message_none i a = bind_none (look_up find i) (λ o. message_found cross trail i a (as_message o)) (look_none find i) (λ o. message_found_none i a (as_message o))

  module _ (st : Setting) where
    mutual
      unfolding write_pattern

      p_none : (p : Pattern) → Keepless Done (write_pattern st find cross trail p)
      p_none (pattern b es) = es_none es _

      es_none : (es : Elements) (iso : Bool) → Keepless Done (write_elements st find cross trail es iso)
      es_none no_more iso = ret_none tt
      es_none (more e es) iso = then_none _ _ (e_none e iso) (es_none es iso)

      e_none : (e : Element) (iso : Bool) → Keepless Done (write_element st find cross trail e iso)
      e_none (text t) iso = bind_none is_dirty (λ d. only_if (not d) (write t)) dirty_none (λ d. only_none _ _ (write_none t))
      e_none (placeable x) iso = entered_none _ _ (mark_none _ _) (then_none _ _ (x_none x) (then_none _ _ (cut_none _) (mark_none _ _)))

      x_none : (x : Expression) → Keepless Done (write_expression st find cross trail x)
      x_none (inline x) = i_none x
      x_none (select x vs) = bind_none _ _ (release_none _) (λ v. n_none vs _)

      n_none : (vs : Variants) (n : Option ℕ) → Keepless Done (write_nth st find cross trail vs n)
      n_none no_variant none = emit_none _
      n_none no_variant (some n) = ret_none tt
      n_none (or v vs) none = emit_none _
      n_none (or v vs) (some zero) = v_none v
      n_none (or v vs) (some (suc n)) = n_none vs (some n)

      v_none : (v : Variant) → Keepless Done (write_variant st find cross trail v)
      v_none (variant k d p) = p_none p

      i_none : (x : Inline) → Keepless Done (write_inline st find cross trail x)
      i_none (Inline.string s) = write_none _
      i_none (Inline.number n) = write_none _
      i_none (variable i) = bind_none (get_variable st.arguments i) (λ v. write_variable i v) (variable_none _ i) (λ v. variable_text_none i v)
      i_none (Inline.function i xs ns) = bind_none _ _ (release_none _) (λ v. result_none i v)
      i_none (Inline.message i a) = message_none i a
      i_none (Inline.term i a r) = release_none _
      i_none (nested x) = x_none x

-- a resolution keeps nothing
pub keeps_none : (st : Setting) (find : Find) (n : ℕ) (p : Pattern) (t : Trail) → Keepless Done (resolve st find n p t)
unfolding resolve
keeps_none st find zero p t = ret_none tt
keeps_none st find (suc n) p t = p_none find (λ q u. resolve st find n q u) t (λ q u. keeps_none st find n q u) st p
