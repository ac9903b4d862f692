-- The records of the marked entries, as they are written; the list with its header.
use Rattle.records.specs.Relations.Answer.{Next}
use Rattle.std.specs.Prelude.{Some, None}
use mathlib.Core.Path.{◌≡◌, refl, ap, sym, subst, ◌∙◌}
use mathlib.Core.Bool.{Bool, true, false}
use mathlib.Core.List.{List, [], ◌∷◌, ◌++◌, append-nil, append_assoc}
use Prim.Native.Nat.{ℕ, ◌+◌, ◌-◌, ◌≤◌, ◌<◌}
use native.Mathlib.Omega.{arith}
use lib.ListN.{length, get_or, drop, take, length-append}
use lib.Dec.{eqb}
use borrow.Author.Tests.{eq-eqb, ne_eqb, le-leb}
use Rattle.records.specs.Relations.Answer.{next_of}
use Rattle.records.specs.Got.{got, bad}
use Rattle.records.specs.Bytes.{part, byte_at, number_at, span_at, to_be}
use Rattle.records.specs.Encode.{enc_all, enc_whole}
use Rattle.records.specs.Errors.{Error, overriding, enc_error, enc_errors}
use Rattle.records.specs.Decode.{many}
use Rattle.records.specs.Images.{Kind, Entry, max_image, entry_at, resource_of}
use Rattle.records.proofs.Views.{both, never, many_nil}
use Rattle.buffers.specs.Relations.Append.{over, Wrote, full}
use Rattle.texts.specs.Relations.Report.{kind_of, recorded, room_for, header, headed}
use Rattle.std.specs.Prelude.{Ok, Err}
use Rattle.std.specs.Result.{result_unwrap_or}
use Rattle.buffers.proofs.Place.{over_none, then_over, length_over, attempt_no}
use Rattle.texts.proofs.Recording.{recorded_at, room_by_size, length_u32, headed_done}
use Rattle.listing.specs.declared.Tally.{Tally}
use Rattle.entries.specs.Outline.{behind, entry_outline}
use Rattle.entries.specs.Repeats.{repeat_if}
use Rattle.entries.specs.Relations.Marked.{marked}
use Rattle.listing.specs.Relations.Tallies.{counted, Tallies}
use Rattle.listing.specs.Relations.Lists.{kind_by, record_of, ListsEntry, Lists, lists_all, lists_short}
use Rattle.entries.proofs.Open.{entry_parts, entry_kind, whole_resource}
use Rattle.entries.proofs.Lengths.{id_short}
use Rattle.entries.proofs.Decoded.{first_endless, turn_ends}
use Rattle.listing.proofs.Tallying.{enc_repeat, one_size, marked_size}
use lib.Seq.{length-take-le, drop_at}
use Rattle.growth.specs.Items.{at_front}
use Rattle.growth.proofs.Items.{over_front, over_is}

-- the record of one entry
module _ (image : List ℕ) (at mark : ℕ) (list : List ℕ) (to : ℕ) where
  pub lists_none : (mark ≡ 1 → ⊥) → ListsEntry image at mark list to to list
  unfolding repeat_if enc_all
  lists_none h =
      let e = ne_eqb mark 1 h in
      record { same = refl; lists = λ x f hx l b. rw e ((omega arith), sym (over_none list to)) }

  pub lists_bad : {r : ℕ} → byte_at image at ≡ bad → ListsEntry image at mark list to r list
  lists_bad h = record { same = refl; lists = λ x f hx l b. entry_kind image at hx (λ p hb _. never h hb) (λ p hb _. never h hb) }

  pub lists_no_id : {r : ℕ} → behind 1 span_at image at ≡ bad → ListsEntry image at mark list to r list
  lists_no_id h = record { same = refl; lists = λ x f hx l b. entry_parts image at hx (λ a i j hi _ _ _. never h hi) }

  module _ (b p a e : ℕ) (hb : byte_at image at ≡ got b p) (hi : behind 1 span_at image at ≡ got a e) where
    kind_is : {x : Entry} {f : ℕ} → entry_at image at ≡ got x f → kind_of (kind_by (eqb b 1)) ≡ x.kind
    unfolding kind_of kind_by
    kind_is {x} hx =
        entry_kind image at hx
        (λ p' hb' ek. both hb hb' (λ eb _. rw (eq-eqb b 1 eb) (sym ek)))
        (λ p' hb' ek. both hb hb' (λ eb _. rw (ne_eqb b 1 (λ z. omega arith)) (sym ek)))

    id_is' : {x : Entry} {f : ℕ} → entry_at image at ≡ got x f → x.id ≡ part image a (e - a)
    id_is' hx = entry_parts image at hx (λ a' e' _ hi' ei _ _. both hi hi' (λ ea ee. rw (ea, ee) ei))

    record_is : {x : Entry} {f : ℕ} → entry_at image at ≡ got x f → eqb mark 1 ≡ true → record_of mark x ≡ enc_error (overriding (kind_of (kind_by (eqb b 1))) (part image a (e - a)))
    unfolding repeat_if enc_all
    record_is {x} hx y = rw y (append-nil (enc_error (overriding x.kind x.id)) ∙ ap (λ (k : Kind). enc_error (overriding k x.id)) (sym (kind_is hx)) ∙ ap (λ (t : List ℕ). enc_error (overriding (kind_of (kind_by (eqb b 1))) t)) (id_is' hx))

    lists_one : {w : Wrote} {k : _} {q : ℕ} {out : List ℕ} → mark ≡ 1 → k ≡ kind_by (eqb b 1) → (w, out) ≡ recorded list to (overriding (kind_of k) (part image a (e - a))) → w ≡ Ok q → ListsEntry image at mark list to q out
    lists_one {w} {k} {q} {out} y ek h v =
        let h' : (w, out) ≡ recorded list to (overriding (kind_of (kind_by (eqb b 1))) (part image a (e - a))) = h ∙ ap (λ (z : _). recorded list to (overriding (kind_of z) (part image a (e - a)))) ek in
        let g = recorded_at list to (overriding (kind_of (kind_by (eqb b 1))) (part image a (e - a))) h' v in
        record {
          same = ap length g.3 ∙ length_over list to (enc_error (overriding (kind_of (kind_by (eqb b 1))) (part image a (e - a)))) g.0;
          lists = λ x f hx l m. rw (record_is hx (eq-eqb mark 1 y)) (g.2, g.3);
        }

    lists_full : {w : Wrote} {k : _} {out : List ℕ} {r : ℕ} → mark ≡ 1 → k ≡ kind_by (eqb b 1) → (w, out) ≡ recorded list to (overriding (kind_of k) (part image a (e - a))) → w ≡ full → ListsEntry image at mark list to r out
    unfolding recorded
    lists_full {w} {k} {out} {r} y ek h v =
        let h' : (w, out) ≡ recorded list to (overriding (kind_of (kind_by (eqb b 1))) (part image a (e - a))) = h ∙ ap (λ (z : _). recorded list to (overriding (kind_of z) (part image a (e - a)))) ek in
        let g = attempt_no list to (enc_error (overriding (kind_of (kind_by (eqb b 1))) (part image a (e - a)))) (room_for (length list) to (length (enc_error (overriding (kind_of (kind_by (eqb b 1))) (part image a (e - a)))))) h' v in
        record {
          same = ap length g.1;
          lists = λ x f hx l m.
              let er : length (record_of mark x) ≡ length (enc_error (overriding (kind_of (kind_by (eqb b 1))) (part image a (e - a)))) = ap length (record_is hx (eq-eqb mark 1 y)) in
              let sz : length (record_of mark x) ≡ 6 + length x.id = one_size (eqb mark 1) x ∙ ap (λ (t : Bool). counted t (6 + length x.id)) (eq-eqb mark 1 y) in
              let sh = id_short image at hx in
              let le : to + length (enc_error (overriding (kind_of (kind_by (eqb b 1))) (part image a (e - a)))) ≤ length list = omega arith in
              let t : room_for (length list) to (length (enc_error (overriding (kind_of (kind_by (eqb b 1))) (part image a (e - a))))) ≡ true =
              room_by_size (length list) to (length (enc_error (overriding (kind_of (kind_by (eqb b 1))) (part image a (e - a))))) (omega arith) (omega arith) ∙ le-leb _ _ le in
              let z : true ≡ false = sym t ∙ g.0 in
              let z' : ◌≡◌ {A = ℕ} 0 1 = cc in
              absurd (omega arith);
        }

    -- the same, as the code goes on
    pub lists_put : {w : Wrote} {k : _} {out : List ℕ} {r : ℕ} → mark ≡ 1 → k ≡ kind_by (eqb b 1) → (w, out) ≡ recorded list to (overriding (kind_of k) (part image a (e - a))) → r ≡ result_unwrap_or w to → ListsEntry image at mark list to r out
    lists_put {w = Ok q} y ek h v = rw v (lists_one y ek h refl)
    lists_put {w = Err x} y ek h v = lists_full y ek h refl

-- the list of the entries from a position on
module _ (image marks : List ℕ) where
  pub record ListFrom (n k at : ℕ) (list : List ℕ) (to : ℕ) (out : List ℕ) : Type 0 where
    pub says : (es : List Entry) (f : ℕ) → many [] ◌∷◌ n entry_at image at ≡ got es f → to + length (enc_all enc_error (marked marks k es)) ≤ length list → to + length (enc_all enc_error (marked marks k es)) ≤ 4294967295
        → out ≡ over list to (enc_all enc_error (marked marks k es))

  pub list_none : {n k at to : ℕ} {list : List ℕ} → n ≤ 0 → ListFrom n k at list to list
  unfolding marked enc_all
  list_none {n} {k} {at} {to} {list} z = record { says = λ es f q l b. many_nil [] ◌∷◌ entry_at image n at z q (λ el _. rw el (sym (over_none list to))) }

  pub list_stuck : {n k at to : ℕ} {list out : List ℕ} {o : Next} → 0 < n → o ≡ next_of (entry_outline image at) → o ≡ None → ListFrom n k at list to out
  list_stuck {n} {k} {at} z is b = record { says = λ es f q l _. first_endless image n at z q is b }

  pub list_next : (count : ℕ) {k at i m to to' : ℕ} {list list' out : List ℕ} {o : Next} → k < count → m ≡ get_or marks k 0 → ListsEntry image at m list to to' list'
      → o ≡ next_of (entry_outline image at) → o ≡ Some i → ListFrom (count - (k + 1)) (k + 1) i list' to' out → ListFrom (count - k) k at list to out
  unfolding marked
  list_next count {k} {at} {i} {m} {to} {to'} {list} {list'} {out} lt em y₀ is w rest = record {
    says = λ es f q l b.
        let y : ListsEntry image at (get_or marks k 0) list to to' list' = subst (λ (j : ℕ). ListsEntry image at j list to to' list') em y₀ in
        turn_ends image count k at lt q is w (λ x es' hx hl el.
        let en : enc_all enc_error (marked marks k es) ≡ record_of (get_or marks k 0) x ++ enc_all enc_error (marked marks (k + 1) es') =
        ap (λ (t : List Entry). enc_all enc_error (marked marks k t)) el ∙ enc_repeat (eqb (get_or marks k 0) 1) x (marked marks (k + 1) es') in
        let ln : length (enc_all enc_error (marked marks k es)) ≡ length (record_of (get_or marks k 0) x) + length (enc_all enc_error (marked marks (k + 1) es')) =
        ap length en ∙ length-append (record_of (get_or marks k 0) x) (enc_all enc_error (marked marks (k + 1) es')) in
        let g = y.lists x i hx (omega arith) (omega arith) in
        let g0 = g.0 in
        let sm = y.same in
        let ih = rest.says es' f hl (omega arith) (omega arith) in
        ih ∙ then_over list to (record_of (get_or marks k 0) x) (enc_all enc_error (marked marks (k + 1) es')) g.1 g0 (omega arith) ∙ ap (over list to) (sym en));
  }

  abbrev pub ListsMarked : List ℕ → List ℕ → Type 0
  ListsMarked list out = (es : List Entry) (f : ℕ) → resource_of image ≡ got es f → 5 + length (enc_all enc_error (marked marks 0 es)) ≤ length list → out ≡ over list 5 (enc_all enc_error (marked marks 0 es))

  pub list_no_count : (list out : List ℕ) → number_at 2 image 5 ≡ bad → ListsMarked list out
  list_no_count list out h es f hr l = whole_resource image hr (λ k hk _ _ _ _. never h hk)

  pub list_start : (list out : List ℕ) {count start : ℕ} → number_at 2 image 5 ≡ got count start → ListFrom (count - 0) 0 start list 5 out → ListsMarked list out
  unfolding max_image
  list_start list out {count} {start} h w es f hr l =
      whole_resource image hr (λ k hk hm _ le _.
      both h hk (λ ek es'.
      let ec : count - 0 ≡ k = omega arith in
      let z = marked_size image marks k 0 7 hm in
      w.says es f (rw (ec, es') hm) l (omega arith)))

-- the list that a plain addition leaves
pub list_headed : (l : List ℕ) (errors : List Error) {a b : List ℕ} → 5 + length (enc_all enc_error errors) ≤ length l → 5 + length (enc_all enc_error errors) < 4294967296
    → a ≡ over l 5 (enc_all enc_error errors) → b ≡ headed a (5 + length (enc_all enc_error errors)) → b ≡ at_front (enc_errors errors) l
unfolding at_front enc_errors enc_whole header
list_headed l errors {a} {b} h g p q =
    let E : List ℕ = enc_all enc_error errors in
    let n : length a ≡ length l = ap length p ∙ length_over l 5 E h in
    let H : List ℕ = to_be 4 (5 + length E) ++ (1 ∷ []) in
    let lH : length H ≡ 5 = length-append (to_be 4 (5 + length E)) (1 ∷ []) ∙ omega (arith, length_u32 (5 + length E)) in
    let x : b ≡ H ++ drop 5 a = q ∙ headed_done a (5 + length E) (omega arith) g ∙ over_front a H 5 lH in
    let d5 : drop 5 a ≡ E ++ drop (5 + length E) l = ap (drop 5) (p ∙ over_is l 5 E) ∙ drop_at (take 5 l) (E ++ drop (5 + length E) l) 5 (length-take-le 5 l (omega arith)) in
    let e4 : 4 + length (1 ∷ E) ≡ 5 + length E = omega arith in
    let ll : length (to_be 4 (4 + length (1 ∷ E)) ++ (1 ∷ E)) ≡ 5 + length E = length-append (to_be 4 (4 + length (1 ∷ E))) (1 ∷ E) ∙ omega (arith, length_u32 (4 + length (1 ∷ E))) in
    x ∙ ap (λ (t : List ℕ). H ++ t) d5 ∙ group (to_be 4 (5 + length E)) E (drop (5 + length E) l)
    ∙ ap (λ (k : ℕ). (to_be 4 k ++ (1 ∷ E)) ++ drop (5 + length E) l) (sym e4) ∙ ap (λ (k : ℕ). (to_be 4 (4 + length (1 ∷ E)) ++ (1 ∷ E)) ++ drop k l) (sym ll)
  where
    group : (u v t : List ℕ) → (u ++ (1 ∷ [])) ++ (v ++ t) ≡ (u ++ (1 ∷ v)) ++ t
    group u v t = simp append_assoc

pub errors_length : (errors : List Error) → length (enc_errors errors) ≡ 5 + length (enc_all enc_error errors)
unfolding enc_errors enc_whole
errors_length errors = length-append (to_be 4 (4 + length (1 ∷ enc_all enc_error errors))) (1 ∷ enc_all enc_error errors) ∙ omega (arith, length_u32 (4 + length (1 ∷ enc_all enc_error errors)))

-- the records that were tallied are those of the repeated entries
module _ {m r : List Error} {t : Tally} (y : Tallies m t) (e : m ≡ r) where
  pub tally_count : t.count ≡ length r
  tally_count = y.count ∙ ap length e

  pub tally_size : 5 + t.size ≡ length (enc_errors r)
  tally_size = ap (λ (n : ℕ). 5 + n) (y.size ∙ ap (λ (z : List Error). length (enc_all enc_error z)) e) ∙ sym (errors_length r)

  pub list_done : (l : List ℕ) {a b : List ℕ} → 5 + t.size ≤ length l → 5 + t.size < 4294967296 → a ≡ over l 5 (enc_all enc_error m) → b ≡ headed a (5 + t.size) → b ≡ at_front (enc_errors r) l
  list_done l {a} {b} h g p q =
      let ez : t.size ≡ length (enc_all enc_error r) = y.size ∙ ap (λ (z : List Error). length (enc_all enc_error z)) e in
      list_headed l r (omega arith) (omega arith) (p ∙ ap (λ (z : List Error). over l 5 (enc_all enc_error z)) e) (q ∙ ap (λ (n : ℕ). headed a (5 + n)) ez)

-- the list of what was tallied
pub listed_short : (l : List ℕ) {m : List Error} {t : Tally} → Tallies m t → length l < 5 + t.size → Lists m l full l
listed_short l {m} {t} y h = let z : 5 + t.size ≡ length (enc_errors m) = tally_size y refl in lists_short refl (omega arith) refl

pub listed_all : (l : List ℕ) {m : List Error} {t : Tally} {a b : List ℕ} → Tallies m t → 5 + t.size ≤ length l → 5 + t.size < 4294967296
    → a ≡ over l 5 (enc_all enc_error m) → b ≡ headed a (5 + t.size) → Lists m l (Ok t.count) b
listed_all l {m} {t} y h g p q =
    let z : 5 + t.size ≡ length (enc_errors m) = tally_size y refl in
    lists_all (ap Ok (tally_count y refl)) (omega arith) (list_done y refl l h g p q)
