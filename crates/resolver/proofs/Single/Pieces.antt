-- The text of an error, piece by piece: what the pieces of an expression are, by its tag.
use mathlib.Core.Path.{◌≡◌, refl, ap, sym, subst, ◌∙◌}
use mathlib.Core.List.{List, [], ◌∷◌, ◌++◌, append_assoc}
use mathlib.Core.Bool.{Bool, true, false}
use mathlib.Core.Option.{Option}
use Prim.Native.Nat.{ℕ, ◌-◌, ◌≤◌}
use native.Mathlib.Omega.{arith}
use lib.ListN.{length}
use Rattle.records.specs.Got.{got, bad}
use Rattle.records.specs.Bytes.{part, byte_at, str_at}
use Rattle.records.specs.Tree.{Inline}
use Rattle.records.specs.Decode.{id_at, optional_at, expression, inline}
use Rattle.records.proofs.Views.{both, never, id_str, term_elim, Body, a_string, a_number, is_function, is_message, is_term, is_variable, is_nested, inline_elim}
use Rattle.records.specs.Optional.{option_of}
use Rattle.arguments.specs.Relations.Given.{between, between_if}
use Rattle.arguments.proofs.Laws.{between_in}
use Rattle.resolution.specs.Effect.{Bytes, write}
use Rattle.resolution.specs.Resolve.{dotted, braced, error_text}
use Rattle.state.specs.declared.Progress.{Progress}
use Rattle.state.specs.declared.Referring.{Referring}
use Rattle.std.specs.Prelude as rust
use Rattle.resolver.specs.declared.scope.error.Pieces.{Pieces}
use Rattle.resolver.specs.Relations.Meets.{World, world, Acts}
use Rattle.resolver.specs.Relations.Leaves.{ErrorAt, error_words, pieces_text, nameless, parted_pieces, reference_pieces, PiecesAt, ReferenceIs, span_if, reads, unread}
use Rattle.resolver.proofs.Single.Laws.{append_nil}
use Rattle.resolver.proofs.Single.Steps.{runs_as, acts_as}
use Rattle.resolver.proofs.Single.Puts.{acts_join}

-- no part of a list
no_part : (s : List ℕ) → between s 0 0 ≡ []
no_part s = between_in s 0 0 (omega arith) (omega arith)

-- the pieces, one by one
module _ (i : List ℕ) (p : Pieces) {h n j a : Bytes} (eh : between error_words p.head p.head_end ≡ h) (en : between i p.from p.to ≡ n) (ej : between error_words p.joint p.joint_end ≡ j) (ea : between i p.start p.end ≡ a) where
  pieces_are : pieces_text error_words i p ≡ (h ++ (n ++ j)) ++ (a ++ (125 ∷ []))
  unfolding pieces_text
  pieces_are = rw (eh, en, ej, ea)

-- a name without an attribute, and one with it
bare_text : (h n : Bytes) → (h ++ (n ++ [])) ++ ([] ++ (125 ∷ [])) ≡ h ++ (n ++ (125 ∷ []))
bare_text h n = ap (λ (b : Bytes). (h ++ b) ++ (125 ∷ [])) (append_nil n) ∙ append_assoc h n (125 ∷ [])

attributed : (h n a : Bytes) → (h ++ (n ++ (46 ∷ []))) ++ (a ++ (125 ∷ [])) ≡ h ++ ((n ++ (46 ∷ a)) ++ (125 ∷ []))
attributed h n a = simp append_assoc

module _ (i : List ℕ) (h k from to start end : ℕ) (w n : Bytes) (lo : from ≤ to) (hi : to ≤ length i) (en : n ≡ part i from (to - from)) (ew : between error_words h k ≡ w) where
  parted : (has : Bool) (a : Option Bytes) → start ≤ end → end ≤ length i → a ≡ option_of has (part i start (end - start))
      → w ++ (dotted n a ++ (125 ∷ [])) ≡ pieces_text error_words i (parted_pieces (span_if has start end) h k (record { from = from; to = to; attribute = span_if has start end; end = end }))
  unfolding parted_pieces option_of dotted between between_if
  parted true a l m e =
      let id : between i from to ≡ n = between_in i from to lo hi ∙ sym en in
      let t = pieces_are i (parted_pieces (rust.Some (start, end)) h k (record { from = from; to = to; attribute = rust.Some (start, end); end = end })) ew id refl (between_in i start end l m) in
      ap (λ (o : Option Bytes). w ++ (dotted n o ++ (125 ∷ []))) e ∙ sym (t ∙ attributed w n (part i start (end - start)))
  parted false a l m e =
      let id : between i from to ≡ n = between_in i from to lo hi ∙ sym en in
      let t = pieces_are i (parted_pieces rust.None h k (record { from = from; to = to; attribute = rust.None; end = end })) ew id refl (no_part i) in
      ap (λ (o : Option Bytes). w ++ (dotted n o ++ (125 ∷ []))) e ∙ sym (t ∙ bare_text w n)

-- the text of a reference that was read
reference_text : (i : List ℕ) (p h k : ℕ) (w : Bytes) (r : rust.Option Referring) → between error_words h k ≡ w → ReferenceIs i p r
    → (n : Bytes) (q : ℕ) (a : Option Bytes) (f : ℕ) → id_at i p ≡ got n q → optional_at id_at i q ≡ got a f → w ++ (dotted n a ++ (125 ∷ [])) ≡ pieces_text error_words i (reference_pieces h k r)
unfolding reference_pieces
reference_text i p h k w r ew (reads from to has start end er lo hi l m is) n q a f hn ha =
    let t = is n q a f hn ha in
    parted i h k from to start end w n lo hi t.0 ew has a l m t.2 ∙ sym (ap (λ (y : rust.Option Referring). pieces_text error_words i (reference_pieces h k y)) er)
reference_text i p h k w r ew (unread er nv) n q a f hn ha = absurd (nv n q a f hn ha)

module _ (s : List ℕ) (at : ℕ) where
  pub pieces_none : {p : Pieces} → byte_at s at ≡ bad → PiecesAt s at p
  pieces_none h = record { reads = λ d i f q. inline_elim s at d q (λ tag p hb z b. never h hb) }

  module _ (tag p : ℕ) (h : byte_at s at ≡ got tag p) where
    pieces_by : {q : Pieces} → ((d : ℕ) (i : Inline) (f : ℕ) → Body (expression (d - 1)) (inline (d - 1)) s p tag i f → braced (error_text i) ≡ pieces_text error_words s q) → PiecesAt s at q
    pieces_by e = record {
      reads = λ d i f q. inline_elim s at d q (λ tag' p' hb z v. both h hb (λ et ep.
          e d i f (subst (λ (j : ℕ). Body (expression (d - 1)) (inline (d - 1)) s j tag i f) (sym ep) (subst (λ (j : ℕ). Body (expression (d - 1)) (inline (d - 1)) s p' j i f) (sym et) v))));
    }

    -- a message or a term: its name, and its attribute
    pub pieces_message : {r : rust.Option Referring} {q : Pieces} → tag ≡ 4 → ReferenceIs s p r → q ≡ reference_pieces 0 1 r → PiecesAt s at q
    unfolding braced error_text between between_if
    pieces_message {r} {q} k is eq = pieces_by (λ d i f b. go d i f b ∙ sym (ap (pieces_text error_words s) eq))
      where
        go : (d : ℕ) (i : Inline) (f : ℕ) → Body (expression (d - 1)) (inline (d - 1)) s p tag i f → braced (error_text i) ≡ pieces_text error_words s (reference_pieces 0 1 r)
        go d i f (a_string b e q ew) = absurd (omega arith)
        go d i f (a_number b e q ew) = absurd (omega arith)
        go d i f (is_function n q b e hn ha ew) = absurd (omega arith)
        go d i f (is_message n q b e hn ha ew) = ap (λ (y : Inline). braced (error_text y)) ew ∙ reference_text s p 0 1 (123 ∷ []) r refl is n q b f hn ha
        go d i f (is_term e q) = absurd (omega arith)
        go d i f (is_variable n e q ew) = absurd (omega arith)
        go d i f (is_nested y e q ew) = absurd (omega arith)

    pub pieces_term : {r : rust.Option Referring} {q : Pieces} → tag ≡ 5 → ReferenceIs s p r → q ≡ reference_pieces 4 6 r → PiecesAt s at q
    unfolding braced error_text between between_if
    pieces_term {r} {q} k is eq = pieces_by (λ d i f b. go d i f b ∙ sym (ap (pieces_text error_words s) eq))
      where
        go : (d : ℕ) (i : Inline) (f : ℕ) → Body (expression (d - 1)) (inline (d - 1)) s p tag i f → braced (error_text i) ≡ pieces_text error_words s (reference_pieces 4 6 r)
        go d i f (a_string b e q ew) = absurd (omega arith)
        go d i f (a_number b e q ew) = absurd (omega arith)
        go d i f (is_function n q b e hn ha ew) = absurd (omega arith)
        go d i f (is_message n q b e hn ha ew) = absurd (omega arith)
        go d i f (is_term e q) = term_elim (inline (d - 1)) s p q (λ n q' b g r' hn ha hr ew. ap (λ (y : Inline). braced (error_text y)) ew ∙ reference_text s p 4 6 (123 ∷ 45 ∷ []) r refl is n q' b g hn ha)
        go d i f (is_variable n e q ew) = absurd (omega arith)
        go d i f (is_nested y e q ew) = absurd (omega arith)

    -- a function, a variable: by the Str that its name is
    module _ {a e : ℕ} (lo : a ≤ e) (hi : e ≤ length s) (g : str_at s p ≡ got (part s a (e - a)) e) where
      pub pieces_function : tag ≡ 3 → PiecesAt s at (record { head = 0; head_end = 1; from = a; to = e; joint = 9; joint_end = 11; start = 0; end = 0 })
      unfolding braced error_text between between_if
      pieces_function k = pieces_by (λ d i f b. go d i f b ∙ sym (pieces_are s (record { head = 0; head_end = 1; from = a; to = e; joint = 9; joint_end = 11; start = 0; end = 0 }) refl (between_in s a e lo hi) refl (no_part s)))
        where
          go : (d : ℕ) (i : Inline) (f : ℕ) → Body (expression (d - 1)) (inline (d - 1)) s p tag i f → braced (error_text i) ≡ ((123 ∷ []) ++ (part s a (e - a) ++ (40 ∷ 41 ∷ []))) ++ ([] ++ (125 ∷ []))
          go d i f (a_string t q hs ew) = absurd (omega arith)
          go d i f (a_number t q hs ew) = absurd (omega arith)
          go d i f (is_function n q t e' hn ha ew) = both g (id_str s p hn) (λ eb _. ap (λ (y : Inline). braced (error_text y)) ew ∙ ap (λ (b : Bytes). 123 ∷ (b ++ (40 ∷ 41 ∷ [])) ++ (125 ∷ [])) (sym eb))
          go d i f (is_message n q t e' hn ha ew) = absurd (omega arith)
          go d i f (is_term e' q) = absurd (omega arith)
          go d i f (is_variable n e' q ew) = absurd (omega arith)
          go d i f (is_nested y e' q ew) = absurd (omega arith)

      pub pieces_variable : tag ≡ 6 → PiecesAt s at (record { head = 6; head_end = 8; from = a; to = e; joint = 0; joint_end = 0; start = 0; end = 0 })
      unfolding braced error_text between between_if
      pieces_variable k = pieces_by (λ d i f b. go d i f b ∙ sym (pieces_are s (record { head = 6; head_end = 8; from = a; to = e; joint = 0; joint_end = 0; start = 0; end = 0 }) refl (between_in s a e lo hi) refl (no_part s) ∙ bare_text (123 ∷ 36 ∷ []) (part s a (e - a))))
        where
          go : (d : ℕ) (i : Inline) (f : ℕ) → Body (expression (d - 1)) (inline (d - 1)) s p tag i f → braced (error_text i) ≡ (123 ∷ 36 ∷ []) ++ (part s a (e - a) ++ (125 ∷ []))
          go d i f (a_string t q hs ew) = absurd (omega arith)
          go d i f (a_number t q hs ew) = absurd (omega arith)
          go d i f (is_function n q t e' hn ha ew) = absurd (omega arith)
          go d i f (is_message n q t e' hn ha ew) = absurd (omega arith)
          go d i f (is_term e' q) = absurd (omega arith)
          go d i f (is_variable n e' q ew) = both g (id_str s p q) (λ eb _. ap (λ (y : Inline). braced (error_text y)) ew ∙ ap (λ (b : Bytes). 123 ∷ 36 ∷ b ++ (125 ∷ [])) (sym eb))
          go d i f (is_nested y e' q ew) = absurd (omega arith)

    -- `???`, of a literal or an inline placeable
    nameless_text : pieces_text error_words s nameless ≡ 123 ∷ 63 ∷ 63 ∷ 63 ∷ 125 ∷ []
    unfolding between between_if
    nameless_text = pieces_are s nameless refl (no_part s) refl (no_part s)

    pub pieces_unnamed : {q : Pieces} → (tag ≡ 4 → ⊥) → (tag ≡ 5 → ⊥) → (tag ≡ 3 → str_at s p ≡ bad) → (tag ≡ 6 → str_at s p ≡ bad) → q ≡ nameless → PiecesAt s at q
    unfolding braced error_text
    pieces_unnamed {q} n4 n5 b3 b6 eq = pieces_by (λ d i f b. go d i f b ∙ sym (ap (pieces_text error_words s) eq ∙ nameless_text))
      where
        go : (d : ℕ) (i : Inline) (f : ℕ) → Body (expression (d - 1)) (inline (d - 1)) s p tag i f → braced (error_text i) ≡ 123 ∷ 63 ∷ 63 ∷ 63 ∷ 125 ∷ []
        go d i f (a_string t q hs ew) = rw ew
        go d i f (a_number t q hs ew) = rw ew
        go d i f (is_function n q t e hn ha ew) = never (b3 e) (id_str s p hn)
        go d i f (is_message n q t e hn ha ew) = absurd (n4 e)
        go d i f (is_term e q) = absurd (n5 e)
        go d i f (is_variable n e q ew) = never (b6 e) (id_str s p q)
        go d i f (is_nested y e q ew) = rw ew

pub reference_bad : (h k : ℕ) {r : rust.Option Referring} → r ≡ rust.None → nameless ≡ reference_pieces h k r
unfolding reference_pieces
reference_bad h k e = rw e

pub reference_is : (h k : ℕ) {r : rust.Option Referring} {x : Referring} → r ≡ rust.Some x → {place : rust.Option (ℕ × ℕ)} → x.attribute ≡ place → parted_pieces place h k x ≡ reference_pieces h k r
unfolding reference_pieces
reference_is h k {x = x} e f = ap (λ (b : rust.Option (ℕ × ℕ)). parted_pieces b h k x) (sym f) ∙ sym (ap (reference_pieces h k) e)

-- the pieces written one after the other
pub pieces_written : (w i : List ℕ) (p : Pieces) {h n j a : Bytes} {u v z : World} → h ≡ between w p.head p.head_end → n ≡ between i p.from p.to → j ≡ between w p.joint p.joint_end → a ≡ between i p.start p.end
    → Acts (write (h ++ (n ++ j))) u v → Acts (write (a ++ (125 ∷ []))) v z → Acts (write (pieces_text w i p)) u z
unfolding pieces_text
pieces_written w i p eh en ej ea x y = acts_as (ap write (rw (eh, en, ej, ea))) (acts_join _ _ x y)

-- the pieces written are the error
pub error_written : {s : List ℕ} {at : ℕ} {x w x' w' : List ℕ} {st r : Progress} {p : Pieces} → PiecesAt s at p → ((l t : List ℕ) → Acts (write (pieces_text error_words s p)) (world s x l w t st) (world s x' l w' t r)) → ErrorAt s at x w st x' w' r
error_written h a = record { kept = λ l t. (a l t).kept; runs = λ l t d y f q. runs_as (ap write (h.reads d y f q)) (a l t).runs }
