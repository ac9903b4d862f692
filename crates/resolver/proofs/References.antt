-- References to messages and terms: what holds the Id, the part that is named, and what stands for what is missing.
use Rattle.state.specs.Progress.{refused_of}
use Rattle.records.specs.Relations.Answer.{Next}
use Rattle.std.specs.Prelude.{Some, None}
use mathlib.Core.Path.{◌≡◌, refl, ap, subst, ◌∙◌, sym}
use mathlib.Core.List.{List, ◌∷◌}
use mathlib.Core.Option.{Option, none, some}
use Prim.Native.Nat.{ℕ, ◌+◌, ◌-◌, ◌≤◌}
use native.Mathlib.Omega.{arith}
use lib.ListN.{length, drop, length-take}
use Rattle.records.specs.Got.{got}
use Rattle.records.specs.Bytes.{part, number_at, span_at}
use Rattle.records.specs.Tree.{Pattern, Inline, Arguments}
use Rattle.records.specs.Decode.{id_at, optional_at, term_arguments_at, entry_pattern_at, expression, inline}
use Rattle.records.specs.Images.{Kind, Entry, Store, store_of, entry_at}
use Rattle.records.specs.Errors.{Error, Referred, reference, no_value}
use Rattle.records.proofs.Laws.{after_elim, number_inv, byte_inv}
use Rattle.records.proofs.Views.{id_elim, term_elim, Body, a_string, a_number, is_function, is_message, is_term, is_variable, is_nested, inline_elim}
use Rattle.texts.specs.Relations.Report.{referred_of}
use Rattle.texts.specs.declared.errors.Referred.TheVariants as referred
use Rattle.entries.specs.Lookup.{Holder, find_in, part_of}
use Rattle.entries.specs.Relations.Meets.{HolderAt, is_message_at, term_at, is_function_at, nothing_at, PartAt, part_at, no_part}
use Rattle.entries.specs.declared.Holder.{Holder as Held}
use Rattle.entries.specs.declared.Holder.TheVariants as found
use Rattle.resolution.specs.Effect.{Bytes, report, unfound, M, Done, emit}
use Rattle.resolution.specs.Resolve.{Trail, dotted, error_text, write_ref_error, message_only, term_only, as_message, as_term, on_part, missing_piece, message_found, term_found, write_message}
use Rattle.state.specs.declared.Progress.{Progress}
use Rattle.std.specs.Prelude as rust
use Rattle.state.specs.declared.Referring.{Referring}
use Rattle.resolver.specs.Relations.Meets.{World, world, Runs, Kept, Acts, Env, Setup, find_of, cross_of}
use Rattle.resolver.specs.Relations.Leaves.{ErrorAt, RefErrorAt, ReferenceIs, attribute_in, span_if, reads, unread}
use Rattle.resolver.proofs.Attributes.{span_attribute}
use Rattle.arguments.specs.Relations.Given.{between}
use Rattle.resolver.specs.Relations.Members.{TrackAt, MessageAt, FoundTermAt}
use Rattle.resolver.proofs.Single.Laws.{kept_same, kept_then, runs_then}
use Rattle.resolver.proofs.Single.Steps.{runs_as, runs_over}
use Rattle.resolver.proofs.Binds.{look_found, look_lost}

-- a reference that was read: its Id and its attribute stand past its tag
module _ (s : List ℕ) (at d : ℕ) {i : Bytes} {a : Option Bytes} {f : ℕ} {C : Type 0} where
  pub message_read : inline d s at ≡ got (Inline.message i a) f → ((q : ℕ) → id_at s (at + 1) ≡ got i q → optional_at id_at s q ≡ got a f → C) → C
  message_read h c = inline_elim s at d h (λ tag p hb z v. go tag p (byte_inv s at hb).2 v)
    where
      go : (tag p : ℕ) → p ≡ at + 1 → Body (expression (d - 1)) (inline (d - 1)) s p tag (Inline.message i a) f → C
      go tag p ep (a_string b e q ew) = let z : ◌≡◌ {A = ℕ} 0 1 = cc in absurd (omega arith)
      go tag p ep (a_number b e q ew) = let z : ◌≡◌ {A = ℕ} 0 1 = cc in absurd (omega arith)
      go tag p ep (is_function n q b e hn ha ew) = let z : ◌≡◌ {A = ℕ} 0 1 = cc in absurd (omega arith)
      go tag p ep (is_message n q b e hn ha ew) =
          let en : n ≡ i = cc in let ea : b ≡ a = cc in
          c q (rw (← ep, ← en) hn) (rw (← ea) ha)
      go tag p ep (is_term e q) = term_elim (inline (d - 1)) s p q (λ n q' b g r hn ha hr ew. let z : ◌≡◌ {A = ℕ} 0 1 = cc in absurd (omega arith))
      go tag p ep (is_variable n e q ew) = let z : ◌≡◌ {A = ℕ} 0 1 = cc in absurd (omega arith)
      go tag p ep (is_nested y e q ew) = let z : ◌≡◌ {A = ℕ} 0 1 = cc in absurd (omega arith)

  pub term_read : {r : Arguments} → inline d s at ≡ got (Inline.term i a r) f
      → ((q g : ℕ) → id_at s (at + 1) ≡ got i q → optional_at id_at s q ≡ got a g → term_arguments_at (inline (d - 1)) s g ≡ got r f → C) → C
  term_read {r} h c = inline_elim s at d h (λ tag p hb z v. go tag p (byte_inv s at hb).2 v)
    where
      go : (tag p : ℕ) → p ≡ at + 1 → Body (expression (d - 1)) (inline (d - 1)) s p tag (Inline.term i a r) f → C
      go tag p ep (a_string b e q ew) = let z : ◌≡◌ {A = ℕ} 0 1 = cc in absurd (omega arith)
      go tag p ep (a_number b e q ew) = let z : ◌≡◌ {A = ℕ} 0 1 = cc in absurd (omega arith)
      go tag p ep (is_function n q b e hn ha ew) = let z : ◌≡◌ {A = ℕ} 0 1 = cc in absurd (omega arith)
      go tag p ep (is_message n q b e hn ha ew) = let z : ◌≡◌ {A = ℕ} 0 1 = cc in absurd (omega arith)
      go tag p ep (is_term e q) = term_elim (inline (d - 1)) s p q (λ n q' b g r' hn ha hr ew.
          let en : n ≡ i = cc in let ea : b ≡ a = cc in let eq : r' ≡ r = cc in
          c q' g (rw (← ep, ← en) hn) (rw (← ea) ha) (rw (← eq) hr))
      go tag p ep (is_variable n e q ew) = let z : ◌≡◌ {A = ℕ} 0 1 = cc in absurd (omega arith)
      go tag p ep (is_nested y e q ew) = let z : ◌≡◌ {A = ℕ} 0 1 = cc in absurd (omega arith)

-- past the end nothing is read
pub reference_past : (s : List ℕ) (at : ℕ) → length s ≤ at → ReferenceIs s (at + 1) rust.None
unfolding span_at
reference_past s at h = unread refl (λ n p a f hn ha. id_elim s (at + 1) hn (λ q hs et ei. after_elim (number_at 2 s (at + 1)) _ hs (λ k c hk _. absurd (let z = number_inv s 2 (at + 1) hk in omega arith))))

-- what the code read of a reference
module _ (s : List ℕ) (at : ℕ) {r : rust.Option Referring} (rd : ReferenceIs s at r) where
  -- nothing was read: never
  pub reference_none : {C : Type 0} {n : Bytes} {p : ℕ} {a : Option Bytes} {f : ℕ} → r ≡ rust.None → id_at s at ≡ got n p → optional_at id_at s p ≡ got a f → C
  reference_none {C} {n} {p} {a} {f} er hn ha = go rd
    where
      go : ReferenceIs s at r → C
      go (reads from to has start end e h₀ h₁ h₂ h₃ h) = let z : ◌≡◌ {A = ℕ} 0 1 = cc in absurd (omega arith)
      go (unread e h) = absurd (h n p a f hn ha)

  module _ (x : Referring) (er : r ≡ rust.Some x) where
    abbrev pub name_of : Bytes
    name_of = part s x.from (x.to - x.from)

    pub reference_in : (x.from ≤ x.to) × (x.to ≤ length s) × (x.end ≤ length s)
    reference_in = go rd
      where
        go : ReferenceIs s at r → (x.from ≤ x.to) × (x.to ≤ length s) × (x.end ≤ length s)
        go (reads from to has start end e h₀ h₁ h₂ h₃ h) =
            let ex : record { from = from; to = to; attribute = span_if has start end; end = end } ≡ x = cc in
            subst (λ (y : Referring). (y.from ≤ y.to) × (y.to ≤ length s) × (y.end ≤ length s)) ex (h₀, h₁, h₃)
        go (unread e h) = let z : ◌≡◌ {A = ℕ} 0 1 = cc in absurd (omega arith)

    pub reference_is : {n : Bytes} {p : ℕ} {a : Option Bytes} {f : ℕ} → id_at s at ≡ got n p → optional_at id_at s p ≡ got a f
        → (n ≡ name_of) × (x.to - x.from ≤ 255) × (a ≡ attribute_in s x.attribute) × (x.end ≡ f)
    reference_is {n} {p} {a} {f} hn ha = go rd
      where
        go : ReferenceIs s at r → (n ≡ name_of) × (x.to - x.from ≤ 255) × (a ≡ attribute_in s x.attribute) × (x.end ≡ f)
        go (reads from to has start end e h₀ h₁ h₂ h₃ h) =
            let ex : record { from = from; to = to; attribute = span_if has start end; end = end } ≡ x = cc in
            let t = h n p a f hn ha in
            subst (λ (y : Referring). (n ≡ part s y.from (y.to - y.from)) × (y.to - y.from ≤ 255) × (a ≡ attribute_in s y.attribute) × (y.end ≡ f)) ex
            (t.0, t.1, t.2 ∙ sym (span_attribute s start end h₂ h₃ has), t.4)
        go (unread e h) = let z : ◌≡◌ {A = ℕ} 0 1 = cc in absurd (omega arith)

-- what holds an Id, by the code's answer
module _ {s : List ℕ} {o : Option Holder} {h : rust.Option Held} {C : Type 0} where
  pub known_message : {q : ℕ} → HolderAt s o h → h ≡ rust.Some (found.Message q) → ((x : Entry) (f : ℕ) → o ≡ some (Holder.entry x) → x.kind ≡ Kind.message → entry_at s q ≡ got x f → C) → C
  known_message {q} (is_message_at q' x f e eo ek hx) eh c = let eq : q' ≡ q = cc in c x f eo ek (rw (← eq) hx)
  known_message (term_at q' x f e eo ek hx) eh c = let z : ◌≡◌ {A = ℕ} 0 1 = cc in absurd (omega arith)
  known_message (is_function_at e eo) eh c = let z : ◌≡◌ {A = ℕ} 0 1 = cc in absurd (omega arith)
  known_message (nothing_at e eo) eh c = let z : ◌≡◌ {A = ℕ} 0 1 = cc in absurd (omega arith)

  pub known_term : {q : ℕ} → HolderAt s o h → h ≡ rust.Some (found.Term q) → ((x : Entry) (f : ℕ) → o ≡ some (Holder.entry x) → x.kind ≡ Kind.term → entry_at s q ≡ got x f → C) → C
  known_term {q} (term_at q' x f e eo ek hx) eh c = let eq : q' ≡ q = cc in c x f eo ek (rw (← eq) hx)
  known_term (is_message_at q' x f e eo ek hx) eh c = let z : ◌≡◌ {A = ℕ} 0 1 = cc in absurd (omega arith)
  known_term (is_function_at e eo) eh c = let z : ◌≡◌ {A = ℕ} 0 1 = cc in absurd (omega arith)
  known_term (nothing_at e eo) eh c = let z : ◌≡◌ {A = ℕ} 0 1 = cc in absurd (omega arith)

  pub known_function : HolderAt s o h → h ≡ rust.Some found.Function → (o ≡ some Holder.function → C) → C
  known_function (is_message_at q' x f e eo ek hx) eh c = let z : ◌≡◌ {A = ℕ} 0 1 = cc in absurd (omega arith)
  known_function (term_at q' x f e eo ek hx) eh c = let z : ◌≡◌ {A = ℕ} 0 1 = cc in absurd (omega arith)
  known_function (is_function_at e eo) eh c = c eo
  known_function (nothing_at e eo) eh c = let z : ◌≡◌ {A = ℕ} 0 1 = cc in absurd (omega arith)

  pub known_nothing : HolderAt s o h → h ≡ rust.None → (o ≡ none → C) → C
  known_nothing (is_message_at q' x f e eo ek hx) eh c = let z : ◌≡◌ {A = ℕ} 0 1 = cc in absurd (omega arith)
  known_nothing (term_at q' x f e eo ek hx) eh c = let z : ◌≡◌ {A = ℕ} 0 1 = cc in absurd (omega arith)
  known_nothing (is_function_at e eo) eh c = let z : ◌≡◌ {A = ℕ} 0 1 = cc in absurd (omega arith)
  known_nothing (nothing_at e eo) eh c = c eo

known_part : {s : List ℕ} {o : Option Pattern} {r : Next} {q : ℕ} {C : Type 0} → PartAt s o r → r ≡ Some q → ((p : Pattern) (f : ℕ) → o ≡ some p → entry_pattern_at s q ≡ got p f → C) → C
known_part {q = q} (part_at q' p f e eo hp) er c = let eq : q' ≡ q = cc in c p f eo (rw (← eq) hp)
known_part (no_part e eo) er c = let z : ◌≡◌ {A = ℕ} 0 1 = cc in absurd (omega arith)

missing_part : {s : List ℕ} {o : Option Pattern} {r : Next} {C : Type 0} → PartAt s o r → r ≡ None → (o ≡ none → C) → C
missing_part (part_at q' p f e eo hp) er c = let z : ◌≡◌ {A = ℕ} 0 1 = cc in absurd (omega arith)
missing_part (no_part e eo) er c = c eo

-- an entry by its kind
module _ (x : Entry) where
  as_message_law : x.kind ≡ Kind.message → as_message (some (Holder.entry x)) ≡ some x
  unfolding as_message message_only
  as_message_law h = ap (λ (k : Kind). message_only k x) h

  no_message : x.kind ≡ Kind.term → as_message (some (Holder.entry x)) ≡ none
  unfolding as_message message_only
  no_message h = ap (λ (k : Kind). message_only k x) h

  as_term_law : x.kind ≡ Kind.term → as_term (some (Holder.entry x)) ≡ some x
  unfolding as_term term_only
  as_term_law h = ap (λ (k : Kind). term_only k x) h

  no_term : x.kind ≡ Kind.message → as_term (some (Holder.entry x)) ≡ none
  unfolding as_term term_only
  no_term h = ap (λ (k : Kind). term_only k x) h

-- the writing of a message or term that was found
module _ (cross : Pattern → Trail → M Done) (t : Trail) (i : Bytes) (a : Option Bytes) (x : Entry) where
  of_message : {o : Option Pattern} → x.kind ≡ Kind.message → part_of a x ≡ o → message_found cross t i a (as_message (some (Holder.entry x))) ≡ on_part cross t (missing_piece cross t i a) (dotted i a) o
  unfolding message_found
  of_message h p = ap (message_found cross t i a) (as_message_law x h) ∙ ap (on_part cross t (missing_piece cross t i a) (dotted i a)) p

  of_term : {o : Option Pattern} → x.kind ≡ Kind.term → part_of a x ≡ o → term_found cross t i a (as_term (some (Holder.entry x))) ≡ on_part cross t (reference Referred.term i a) (45 ∷ dotted i a) o
  unfolding term_found
  of_term h p = ap (term_found cross t i a) (as_term_law x h) ∙ ap (on_part cross t (reference Referred.term i a) (45 ∷ dotted i a)) p

-- a message reference
module _ (e : Env) (at : ℕ) where
  pub message_over : (w : World) → ((refused_of w.st) ≡ 0 → ⊥) → MessageAt e at w w
  message_over w h = record { kept = kept_same w; runs = λ u d i a f k n t here. runs_over _ w h }

  pub found_term_over : (w : World) → ((refused_of w.st) ≡ 0 → ⊥) → FoundTermAt e at w w
  found_term_over w h = record { kept = kept_same w; runs = λ u d i a r f k n t here. runs_over _ w h }

  module _ {r : rust.Option Referring} (rd : ReferenceIs e.store (at + 1) r) where
    pub message_unread : (w : World) → r ≡ rust.None → MessageAt e at w w
    message_unread w er = record { kept = kept_same w; runs = λ u d i a f k n t here. message_read e.store at d k (λ q hn ha. reference_none e.store (at + 1) rd er hn ha) }

    pub found_term_unread : (w : World) → r ≡ rust.None → FoundTermAt e at w w
    found_term_unread w er = record { kept = kept_same w; runs = λ u d i a r f k n t here. term_read e.store at d k (λ q g hn ha hr. reference_none e.store (at + 1) rd er hn ha) }

    module _ (y : Referring) (er : r ≡ rust.Some y) {h : rust.Option Held}
        (hold : (st : Store) (f : ℕ) → store_of e.store ≡ got st f → HolderAt e.store (find_in st.items (part e.store y.from (y.to - y.from))) h) where
      -- what holds the Id of the reference
      holder : (u : Setup e) {i : Bytes} {p : ℕ} {a : Option Bytes} {g : ℕ} → id_at e.store (at + 1) ≡ got i p → optional_at id_at e.store p ≡ got a g → HolderAt e.store (find_of e u i) h
      holder u hn ha = rw (reference_is e.store (at + 1) rd y er hn ha).0 (hold u.held u.used u.held_at)

      asks : {i : Bytes} {p : ℕ} {a : Option Bytes} {g : ℕ} → id_at e.store (at + 1) ≡ got i p → optional_at id_at e.store p ≡ got a g → a ≡ attribute_in e.store y.attribute
      asks hn ha = (reference_is e.store (at + 1) rd y er hn ha).2

      -- the error of a reference
      module _ {x l w x' l' w' : List ℕ} {st s' : Progress} (t : List ℕ) where
        module _ (re : RefErrorAt e.store at (referred_of referred.Message) x l w st x' l' w' s') where
          message_error : (d : ℕ) {i : Bytes} {a : Option Bytes} {f : ℕ} → inline d e.store at ≡ got (Inline.message i a) f → Runs (write_ref_error (reference Referred.message i a) (dotted i a)) (world e.store x l w t st) (world e.store x' l' w' t s')
          unfolding referred_of
          message_error d {i} {a} {f} k = re.message refl t d i a f k

          pub message_term : {q : ℕ} → h ≡ rust.Some (found.Term q) → MessageAt e at (world e.store x l w t st) (world e.store x' l' w' t s')
          unfolding write_message message_found
          message_term eh = record {
            kept = re.kept t;
            runs = λ u d i a f k n tr here. message_read e.store at d k (λ q hn ha. known_term (holder u hn ha) eh (λ z g eo ek hz.
                runs_as (look_found (find_of e u) i _ (Holder.entry z) eo ∙ ap (message_found (cross_of e u n) tr i a) (no_message z ek)) (message_error d k)));
          }

          pub message_function : h ≡ rust.Some found.Function → MessageAt e at (world e.store x l w t st) (world e.store x' l' w' t s')
          unfolding write_message message_found as_message
          message_function eh = record {
            kept = re.kept t;
            runs = λ u d i a f k n tr here. message_read e.store at d k (λ q hn ha. known_function (holder u hn ha) eh (λ eo.
                runs_as (look_found (find_of e u) i _ Holder.function eo) (message_error d k)));
          }

          pub message_lost : {s0 : Progress} → h ≡ rust.None → ((i x l w t : List ℕ) → Acts (emit unfound) (world i x l w t s0) (world i x l w t st)) → MessageAt e at (world e.store x l w t s0) (world e.store x' l' w' t s')
          unfolding write_message message_found as_message
          message_lost {s0} eh c =
              let c1 = c e.store x l w t in
              record {
                kept = kept_then c1.kept (re.kept t);
                runs = λ u d i a f k n tr here. message_read e.store at d k (λ q hn ha. known_nothing (holder u hn ha) eh (λ eo.
                    runs_as (look_lost (find_of e u) i _ eo) (runs_then c1.runs (re.kept t) (λ _. message_error d k))));
              }

        module _ (re : RefErrorAt e.store at (referred_of referred.Term) x l w st x' l' w' s') where
          term_error : (d : ℕ) {i : Bytes} {a : Option Bytes} {r : Arguments} {f : ℕ} → inline d e.store at ≡ got (Inline.term i a r) f → Runs (write_ref_error (reference Referred.term i a) (45 ∷ dotted i a)) (world e.store x l w t st) (world e.store x' l' w' t s')
          unfolding referred_of
          term_error d {i} {a} {r} {f} k = re.term refl t d i a r f k

          pub found_term_message : {q : ℕ} → h ≡ rust.Some (found.Message q) → FoundTermAt e at (world e.store x l w t st) (world e.store x' l' w' t s')
          unfolding term_found
          found_term_message eh = record {
            kept = re.kept t;
            runs = λ u d i a r f k n tr here. term_read e.store at d k (λ q g hn ha hr. known_message (holder u hn ha) eh (λ z g' eo ek hz.
                runs_as (look_found (find_of e u) i _ (Holder.entry z) eo ∙ ap (term_found (cross_of e u n) tr i a) (no_term z ek)) (term_error d k)));
          }

          pub found_term_function : h ≡ rust.Some found.Function → FoundTermAt e at (world e.store x l w t st) (world e.store x' l' w' t s')
          unfolding term_found as_term
          found_term_function eh = record {
            kept = re.kept t;
            runs = λ u d i a r f k n tr here. term_read e.store at d k (λ q g hn ha hr. known_function (holder u hn ha) eh (λ eo.
                runs_as (look_found (find_of e u) i _ Holder.function eo) (term_error d k)));
          }

          pub found_term_lost : {s0 : Progress} → h ≡ rust.None → ((i x l w t : List ℕ) → Acts (emit unfound) (world i x l w t s0) (world i x l w t st)) → FoundTermAt e at (world e.store x l w t s0) (world e.store x' l' w' t s')
          unfolding term_found as_term
          found_term_lost {s0} eh c =
              let c1 = c e.store x l w t in
              record {
                kept = kept_then c1.kept (re.kept t);
                runs = λ u d i a r f k n tr here. term_read e.store at d k (λ q g hn ha hr. known_nothing (holder u hn ha) eh (λ eo.
                    runs_as (look_lost (find_of e u) i _ eo) (runs_then c1.runs (re.kept t) (λ _. term_error d k))));
              }

      -- the part that a reference to a message names
      module _ (entry : ℕ) {rn : Next} (pt : (x : Entry) (f : ℕ) → entry_at e.store entry ≡ got x f → PartAt e.store (part_of (attribute_in e.store y.attribute) x) rn) where
        named_part : {i : Bytes} {p : ℕ} {a : Option Bytes} {g : ℕ} → id_at e.store (at + 1) ≡ got i p → optional_at id_at e.store p ≡ got a g
            → (x : Entry) (f : ℕ) → entry_at e.store entry ≡ got x f → PartAt e.store (part_of a x) rn
        named_part hn ha x f hx = rw (asks hn ha) (pt x f hx)

        pub message_track : {q : ℕ} {w v : World} → h ≡ rust.Some (found.Message entry) → rn ≡ Some q → TrackAt e at q w v → MessageAt e at w v
        unfolding write_message on_part error_text
        message_track eh en g = record {
          kept = g.kept;
          runs = λ u d i a f k n t here. message_read e.store at d k (λ q hn ha. known_message (holder u hn ha) eh (λ z j eo ek hz. known_part (named_part hn ha z j hz) en (λ p j' ep hp.
              runs_as (look_found (find_of e u) i _ (Holder.entry z) eo ∙ of_message (cross_of e u n) t i a z ek ep) (g.runs u d (Inline.message i a) f k p j' hp n t here))));
        }

        pub found_term_track : {q : ℕ} {w v : World} → h ≡ rust.Some (found.Term entry) → rn ≡ Some q → TrackAt e at q w v → FoundTermAt e at w v
        unfolding on_part error_text
        found_term_track eh en g = record {
          kept = g.kept;
          runs = λ u d i a r f k n t here. term_read e.store at d k (λ q g' hn ha hr. known_term (holder u hn ha) eh (λ z j eo ek hz. known_part (named_part hn ha z j hz) en (λ p j' ep hp.
              runs_as (look_found (find_of e u) i _ (Holder.entry z) eo ∙ of_term (cross_of e u n) t i a z ek ep) (g.runs u d (Inline.term i a r) f k p j' hp n t here))));
        }

        module _ {x l w x' l' w' : List ℕ} {st s' : Progress} (t : List ℕ) where
          pub found_term_no_part : h ≡ rust.Some (found.Term entry) → rn ≡ None → RefErrorAt e.store at (referred_of referred.Term) x l w st x' l' w' s' → FoundTermAt e at (world e.store x l w t st) (world e.store x' l' w' t s')
          unfolding on_part
          found_term_no_part eh en re = record {
            kept = re.kept t;
            runs = λ u d i a r f k n tr here. term_read e.store at d k (λ q g hn ha hr. known_term (holder u hn ha) eh (λ z j eo ek hz. missing_part (named_part hn ha z j hz) en (λ ep.
                runs_as (look_found (find_of e u) i _ (Holder.entry z) eo ∙ of_term (cross_of e u n) tr i a z ek ep) (term_error t re d k))));
          }

          pub message_no_attribute : {place : ℕ × ℕ} → h ≡ rust.Some (found.Message entry) → rn ≡ None → y.attribute ≡ rust.Some place → RefErrorAt e.store at (referred_of referred.Message) x l w st x' l' w' s' → MessageAt e at (world e.store x l w t st) (world e.store x' l' w' t s')
          unfolding write_message on_part missing_piece
          message_no_attribute {place} eh en has re = record {
            kept = re.kept t;
            runs = λ u d i a f k n tr here. message_read e.store at d k (λ q hn ha. known_message (holder u hn ha) eh (λ z j eo ek hz. missing_part (named_part hn ha z j hz) en (λ ep.
                let ea : a ≡ some (between e.store place.0 place.1) = asks hn ha ∙ ap (attribute_in e.store) has in
                let ei : missing_piece (cross_of e u n) tr i a ≡ reference Referred.message i a = rw ea in
                runs_as (look_found (find_of e u) i _ (Holder.entry z) eo ∙ of_message (cross_of e u n) tr i a z ek ep ∙ ap (λ (o : Error). write_ref_error o (dotted i a)) ei) (message_error t re d k))));
          }

        pub message_no_value : {x l w l1 x' w' : List ℕ} {st s1 s' : Progress} (t : List ℕ) → h ≡ rust.Some (found.Message entry) → rn ≡ None → y.attribute ≡ rust.None
            → ((i x w t : List ℕ) → Kept (world i x l w t st) (world i x l1 w t s1)) × (length (part e.store y.from (y.to - y.from)) ≤ 255
            → (i x w t : List ℕ) → Acts (emit (report (no_value (part e.store y.from (y.to - y.from))))) (world i x l w t st) (world i x l1 w t s1))
            → ErrorAt e.store at x w s1 x' w' s' → MessageAt e at (world e.store x l w t st) (world e.store x' l1 w' t s')
        unfolding write_message on_part missing_piece error_text write_ref_error
        message_no_value {x} {l} {w} {l1} {x'} {w'} {st} {s1} {s'} t eh en has lst b =
            record {
              kept = kept_then (lst.0 e.store x w t) (b.kept l1 t);
              runs = λ u d i a f k n tr here. message_read e.store at d k (λ q hn ha. known_message (holder u hn ha) eh (λ z j eo ek hz. missing_part (named_part hn ha z j hz) en (λ ep.
                  let is = reference_is e.store (at + 1) rd y er hn ha in
                  let ea : a ≡ none = asks hn ha ∙ ap (attribute_in e.store) has in
                  let short = is.1 in
                  let len : length (part e.store y.from (y.to - y.from)) ≤ 255 = (let m = length-take (y.to - y.from) (drop y.from e.store) in omega arith) in
                  let ei : missing_piece (cross_of e u n) tr i a ≡ no_value (part e.store y.from (y.to - y.from)) = rw ea (ap no_value is.0) in
                  runs_as (look_found (find_of e u) i _ (Holder.entry z) eo ∙ of_message (cross_of e u n) tr i a z ek ep ∙ ap (λ (o : Error). write_ref_error o (dotted i a)) ei)
                  (runs_then (lst.1 len e.store x w t).runs (b.kept l1 t) (λ _. b.runs l1 t d (Inline.message i a) f k)))));
            }
