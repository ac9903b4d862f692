-- Actions one after the other, as equations; and what a writer leaves at the workspace's back: nothing.
use mathlib.Core.Path.{◌≡◌, refl, ap, sym, ◌∙◌, fun_ext}
use mathlib.Core.List.{List, [], ◌∷◌, ◌++◌, append_assoc}
use mathlib.Core.Bool.{Bool, true, false, not}
use mathlib.Core.Option.{Option, none, some}
use Prim.Native.Nat.{ℕ, zero, suc, ◌+◌}
use native.Mathlib.Omega.{arith}
use lib.Dec.{ltb}
use Rattle.numbers.specs.Value.{Value, textual, numeric, nothing, wrong}
use Rattle.records.specs.Tree.{Named, Pattern, pattern, Elements, no_more, more, Element, text, placeable, Expression, inline, select, Inline, variable, nested, Inlines, no_inline, and, Variants, no_variant, or, Variant, variant}
use Rattle.records.specs.Images.{Entry}
use Rattle.records.specs.Errors.{Error}
use Rattle.entries.specs.Lookup.{Holder, Find, part_of}
use Rattle.resolution.specs.Effect.{Bytes, Trace, unfound, Locals, State, Out, M, Done, ret, ◌>>=◌, ◌>>◌, emit, write, is_dirty, get_locals, max_placeables, enter_if, enter, only_if, entered, release}
use Rattle.resolution.specs.Resolve.{Setting, Trail, mark, cut_short, named_values, write_ref_error, look_for, look_up, as_term, as_message, track_if, track, on_part, message_found, term_found, write_message, Given, pushed, write_result, found_or, variable_in, get_variable, write_variable, write_pattern, write_elements, write_element, write_expression, write_nth, write_variant, write_inline, resolve_inline, get_arguments, resolve}
use Rattle.records.specs.Names.{first_named}
use Rattle.resolver.specs.Relations.Members.{positional_values}

abbrev out : {A : Type 0} → Trace → Bytes → ℕ → State → A → Out A
out t x k s a = record { trace = t; text = x; kept = k; state = s; value = a }

module _ {A B : Type 0} where
  pub ret_bind : (a : A) (f : A → M B) → ret a >>= f ≡ f a
  unfolding ret ◌>>=◌
  ret_bind a f = fun_ext (λ s. let q = f a s in let e : 0 + q.kept ≡ q.kept = omega arith in ap (λ (n : ℕ). out q.trace q.text n q.state q.value) e)

  pub bind_same : (m : M A) (f g : A → M B) → ((a : A) → f a ≡ g a) → m >>= f ≡ m >>= g
  bind_same m f g h = ap (λ (k : A → M B). m >>= k) (fun_ext h)

pub bind_assoc : {A B C : Type 0} (m : M A) (f : A → M B) (g : B → M C) → m >>= f >>= g ≡ m >>= λ a. (f a >>= g)
unfolding ◌>>=◌
bind_assoc m f g = fun_ext (λ s.
    let r = m s in
    let q = f r.value r.state in
    let p = g q.value q.state in
    let e : r.kept + q.kept + p.kept ≡ r.kept + (q.kept + p.kept) = omega arith in
    ap (λ (t : Trace). out t (r.text ++ q.text ++ p.text) (r.kept + q.kept + p.kept) p.state p.value) (append_assoc r.trace q.trace p.trace)
    ∙ ap (λ (t : Bytes). out (r.trace ++ (q.trace ++ p.trace)) t (r.kept + q.kept + p.kept) p.state p.value) (append_assoc r.text q.text p.text)
    ∙ ap (λ (n : ℕ). out (r.trace ++ (q.trace ++ p.trace)) (r.text ++ (q.text ++ p.text)) n p.state p.value) e)

-- a lookup: found, or counted as unfound
module _ {B : Type 0} (find : Find) (i : Bytes) (f : Option Holder → M B) where
  pub look_found : (h : Holder) → find i ≡ some h → look_up find i >>= f ≡ f (some h)
  unfolding look_up look_for ret
  look_found h e = ap (λ (o : Option Holder). look_for o >>= f) e ∙ ret_bind (some h) f

  pub look_lost : find i ≡ none → look_up find i >>= f ≡ (emit unfound >> f none)
  unfolding look_up look_for ◌>>=◌ ◌>>◌ emit
  look_lost e = ap (λ (o : Option Holder). look_for o >>= f) e

-- the arguments of a call: the positional ones, then the named
abbrev pub given : List Value → List (Bytes × Value) → Given
given vs n = record { positional = vs; named = n }

module _ (st : Setting) (find : Find) (cross : Pattern → Trail → M Done) (trail : Trail) (ns : Named) where
  abbrev pub then_named : List Value → M Given
  then_named vs = named_values ns >>= λ n. ret (given vs n)

  pub arguments_are : (xs : Inlines) → get_arguments st find cross trail xs ns ≡ positional_values st find cross trail xs >>= then_named
  unfolding get_arguments positional_values pushed
  arguments_are no_inline = sym (ret_bind [] then_named)
  arguments_are (and x xs) =
      let P = positional_values st find cross trail xs in
      let R = resolve_inline st find cross trail x in
      bind_same R _ _ (λ v. ap (λ (m : M Given). m >>= λ g. ret (pushed v g)) (arguments_are xs)
      ∙ bind_assoc P then_named (λ g. ret (pushed v g))
      ∙ bind_same P _ _ (λ vs. bind_assoc (named_values ns) (λ n. ret (given vs n)) (λ g. ret (pushed v g)) ∙ bind_same (named_values ns) _ _ (λ n. ret_bind (given vs n) (λ g. ret (pushed v g))))
      ∙ bind_same P _ _ (λ vs. sym (ret_bind (v ∷ vs) then_named))
      ∙ sym (bind_assoc P (λ vs. ret (v ∷ vs)) then_named))
      ∙ sym (bind_assoc R (λ v. (P >>= λ vs. ret (v ∷ vs))) then_named)

  -- what follows them goes by their values
  pub arguments_then : {B : Type 0} (F : Given → M B) (xs : Inlines) → get_arguments st find cross trail xs ns >>= F ≡ positional_values st find cross trail xs >>= λ vs. (named_values ns >>= λ n. F (given vs n))
  arguments_then F xs =
      let P = positional_values st find cross trail xs in
      ap (λ (m : M Given). m >>= F) (arguments_are xs) ∙ bind_assoc P then_named F
      ∙ bind_same P _ _ (λ vs. bind_assoc (named_values ns) (λ n. ret (given vs n)) F ∙ bind_same (named_values ns) _ _ (λ n. ret_bind (given vs n) F))

-- nothing stays at the workspace's back where a pattern, an expression, an inline expression is written
quiet_bind : {A B : Type 0} (m : M A) (f : A → M B) (s : State) → (m s).kept ≡ 0 → ((a : A) (q : State) → (f a q).kept ≡ 0) → ((m >>= f) s).kept ≡ 0
unfolding ◌>>=◌
quiet_bind m f s h g = let e = g (m s).value (m s).state in omega arith

quiet_then : {A B : Type 0} (m : M A) (n : M B) (s : State) → (m s).kept ≡ 0 → ((q : State) → (n q).kept ≡ 0) → ((m >> n) s).kept ≡ 0
unfolding ◌>>◌
quiet_then m n s h g = quiet_bind m (λ _. n) s h (λ _ q. g q)

quiet_release : {A : Type 0} (m : M A) (s : State) → (release m s).kept ≡ 0
unfolding release
quiet_release m s = refl

quiet_write : (b : Bytes) (s : State) → (write b s).kept ≡ 0
unfolding write
quiet_write b s = refl

quiet_report : (e : Error) (b : Bytes) (s : State) → (write_ref_error e b s).kept ≡ 0
unfolding write_ref_error emit
quiet_report e b s = quiet_then _ _ s refl (quiet_write _)

quiet_mark : (b : Bool) (t : Bytes) (s : State) → (mark b t s).kept ≡ 0
unfolding mark ret
quiet_mark true t s = quiet_write t s
quiet_mark false t s = refl

quiet_enter : (s : State) → (enter s).kept ≡ 0
unfolding enter enter_if
quiet_enter s = go s.dirty (ltb s.begun max_placeables)
  where
    go : (a b : Bool) → (enter_if a b s).kept ≡ 0
    go true b = refl
    go false true = refl
    go false false = refl

quiet_only : (b : Bool) (m : M Done) → ((q : State) → (m q).kept ≡ 0) → (s : State) → (only_if b m s).kept ≡ 0
unfolding only_if ret
quiet_only true m h s = h s
quiet_only false m h s = refl

quiet_result : (i : Bytes) (o : Option Value) (s : State) → (write_result i o s).kept ≡ 0
unfolding write_result
quiet_result i none s = quiet_report _ _ s
quiet_result i (some (textual t)) s = quiet_write _ s
quiet_result i (some (numeric n)) s = quiet_write _ s
quiet_result i (some nothing) s = quiet_write _ s
quiet_result i (some wrong) s = quiet_write _ s

quiet_found : (m : M Done) (o : Option Value) → ((q : State) → (m q).kept ≡ 0) → (s : State) → (found_or m o s).kept ≡ 0
unfolding found_or ret
quiet_found m none h s = quiet_then m (ret none) s (h s) (λ _. refl)
quiet_found m (some v) h s = refl

quiet_variable : (args : List (Bytes × Value)) (i : Bytes) (s : State) → ((get_variable args i >>= λ o. write_variable i o) s).kept ≡ 0
unfolding get_variable get_locals variable_in ret emit write_variable
quiet_variable args i s = quiet_bind _ _ s (quiet_bind _ _ s refl (λ l q. go l q)) (λ o q. wrote o q)
  where
    go : (l : Locals) (q : State) → (variable_in args i l q).kept ≡ 0
    go none q = quiet_found _ (first_named i args) (λ _. refl) q
    go (some l) q = quiet_found _ (first_named i l) (λ _. refl) q

    wrote : (o : Option Value) (q : State) → (write_variable i o q).kept ≡ 0
    wrote none q = quiet_write _ q
    wrote (some v) q = quiet_write _ q

module _ (st : Setting) (find : Find) (cross : Pattern → Trail → M Done) (quiet : (p : Pattern) (t : Trail) (s : State) → (cross p t s).kept ≡ 0) (t : Trail) where
  quiet_track : (b : Bool) (x : Bytes) (p : Pattern) (s : State) → (track_if cross t b x p s).kept ≡ 0
  unfolding track_if
  quiet_track true x p s = quiet_report _ _ s
  quiet_track false x p s = quiet p _ s

  quiet_part : (e : Error) (x : Bytes) (o : Option Pattern) (s : State) → (on_part cross t e x o s).kept ≡ 0
  unfolding on_part track
  quiet_part e x none s = quiet_report _ _ s
  quiet_part e x (some p) s = quiet_track _ x p s

  quiet_look : {B : Type 0} (o : Option Holder) (f : Option Holder → M B) (s : State) → ((h : Option Holder) (q : State) → (f h q).kept ≡ 0) → ((look_for o >>= f) s).kept ≡ 0
  unfolding look_for
  quiet_look none f s h = quiet_bind (look_for none) f s refl h
  quiet_look (some x) f s h = quiet_bind (look_for (some x)) f s refl h

  quiet_message : (i : Bytes) (a : Option Bytes) (o : Option Entry) (s : State) → (message_found cross t i a o s).kept ≡ 0
  unfolding message_found
  quiet_message i a none s = quiet_report _ _ s
  quiet_message i a (some e) s = quiet_part _ _ (part_of a e) s

  quiet_term : (i : Bytes) (a : Option Bytes) (o : Option Entry) (s : State) → (term_found cross t i a o s).kept ≡ 0
  unfolding term_found
  quiet_term i a none s = quiet_report _ _ s
  quiet_term i a (some e) s = quiet_part _ _ (part_of a e) s

  pub quiet_found_term : (i : Bytes) (a : Option Bytes) (s : State) → ((look_up find i >>= λ o. term_found cross t i a (as_term o)) s).kept ≡ 0
  unfolding look_up
  quiet_found_term i a s = quiet_look (find i) _ s (λ h q. quiet_term i a (as_term h) q)

  mutual
    unfolding write_pattern is_dirty entered cut_short emit ret write_message look_up

    quiet_pattern : (p : Pattern) (s : State) → (write_pattern st find cross t p s).kept ≡ 0
    quiet_pattern (pattern b es) s = quiet_elements es _ s

    quiet_elements : (es : Elements) (iso : Bool) (s : State) → (write_elements st find cross t es iso s).kept ≡ 0
    quiet_elements no_more iso s = refl
    quiet_elements (more e es) iso s = quiet_then _ _ s (quiet_element e iso s) (λ q. quiet_elements es iso q)

    quiet_element : (e : Element) (iso : Bool) (s : State) → (write_element st find cross t e iso s).kept ≡ 0
    quiet_element (text b) iso s = quiet_bind is_dirty _ s refl (λ d q. quiet_only (not d) (write b) (quiet_write b) q)
    quiet_element (placeable x) iso s = quiet_bind enter _ s (quiet_enter s) (λ go q. quiet_only go _ (λ q. quiet_then _ _ q (quiet_mark _ _ q) (λ q. quiet_then _ _ q refl (λ q.
        quiet_then _ _ q (quiet_expression x q) (λ q. quiet_then _ _ q (quiet_bind is_dirty _ q refl (λ d q. quiet_mark d _ q)) (λ q. quiet_mark _ _ q))))) q)

    quiet_expression : (x : Expression) (s : State) → (write_expression st find cross t x s).kept ≡ 0
    quiet_expression (inline x) s = quiet_inline x s
    quiet_expression (select x vs) s = quiet_bind _ _ s (quiet_release _ s) (λ v q. quiet_nth vs _ q)

    quiet_nth : (vs : Variants) (o : Option ℕ) (s : State) → (write_nth st find cross t vs o s).kept ≡ 0
    quiet_nth no_variant none s = refl
    quiet_nth no_variant (some n) s = refl
    quiet_nth (or v vs) none s = refl
    quiet_nth (or v vs) (some zero) s = quiet_variant v s
    quiet_nth (or v vs) (some (suc n)) s = quiet_nth vs (some n) s

    quiet_variant : (v : Variant) (s : State) → (write_variant st find cross t v s).kept ≡ 0
    quiet_variant (variant k d p) s = quiet_pattern p s

    quiet_inline : (x : Inline) (s : State) → (write_inline st find cross t x s).kept ≡ 0
    quiet_inline (Inline.string b) s = quiet_write _ s
    quiet_inline (Inline.number n) s = quiet_write _ s
    quiet_inline (variable i) s = quiet_variable _ i s
    quiet_inline (Inline.function i xs ns) s = quiet_bind _ _ s (quiet_release _ s) (λ v q. quiet_result i v q)
    quiet_inline (Inline.message i a) s = quiet_look (find i) _ s (λ h q. quiet_message i a (as_message h) q)
    quiet_inline (Inline.term i a r) s = quiet_release _ s
    quiet_inline (nested x) s = quiet_expression x s

pub quiet_resolve : (st : Setting) (find : Find) (n : ℕ) (p : Pattern) (t : Trail) (s : State) → (resolve st find n p t s).kept ≡ 0
unfolding resolve ret
quiet_resolve st find zero p t s = refl
quiet_resolve st find (suc n) p t s = quiet_pattern st find (λ q r. resolve st find n q r) (λ q r z. quiet_resolve st find n q r z) t p s
