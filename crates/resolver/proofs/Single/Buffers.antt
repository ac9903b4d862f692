-- What the writers of lent buffers leave, as the steps of writing and listing want it.
use Rattle.state.specs.Progress.{refused_of}
use mathlib.Core.Path.{◌≡◌, refl, ap, sym, subst, ◌∙◌}
use mathlib.Core.List.{List, [], ◌++◌}
use mathlib.Core.Bool.{true, false}
use mathlib.Core.Logic.{⊎_elim, ◌⊎◌, inl, inr}
use mathlib.Core.Option.{Option, some, none}
use Prim.Native.Nat.{ℕ, ◌+◌, ◌≤◌, ◌<◌, min}
use native.Mathlib.Omega.{arith}
use lib.ListN.{length, take, drop}
use borrow.Author.Tests.{leb-false}
use Rattle.numbers.specs.Number.{Number, in_range, number_text, ranged_text}
use Rattle.numbers.specs.Value.{Value, numeric, value_text}
use Rattle.decimals.specs.Relations.Shown.{shown, told}
use Rattle.decimals.specs.declared.types.Number as CodeNumber
use Rattle.decimals.proofs.Shown.{count_there}
use Rattle.decimals.proofs.Writing.{ranged_in}
use Rattle.records.specs.Errors.{Error, Referred, no_value, reference, enc_error}
use Rattle.resolver.proofs.Attributes.{Short}
use Rattle.texts.specs.Relations.Report.{plain_of, room_for, recorded}
use Rattle.texts.specs.declared.errors.Plain.{Plain}
use Rattle.buffers.specs.Relations.Append.{Wrote, full}
use Rattle.std.specs.Prelude.{Ok, Err}
use Rattle.buffers.proofs.Place.{length_over, take_over, drop_over}
use Rattle.texts.proofs.Recording.{room_by_size, recorded_at, recorded_no, plain_length, no_value_length, bare_length, attribute_length}
use Rattle.resolution.specs.Effect.{report, emit}
use Rattle.state.specs.declared.Progress.{Progress}
use Rattle.values.specs.declared.Value as CodeValue
use Rattle.values.specs.declared.Value.TheVariants as val
use Rattle.arguments.specs.Relations.Given.{between}
use Rattle.arguments.proofs.Laws.{between_in}
use Rattle.resolver.specs.Relations.Meets.{world, Kept, Acts, Holds, in_store, in_args, in_work, a_number, is_nothing, a_wrong, text_inside, bytes_of}
use Rattle.state.specs.Setters.{list_s, max_unfound}
use Rattle.writes.specs.Written.{list_after}
use Rattle.writes.proofs.Laws.{list_at, list_full as list-full-at}
use Rattle.resolver.proofs.Single.Puts.{le_or_lt, list_full, list_in, error_some}

-- what a writer answers
wrote_or : (a : Wrote) → ((e : ℕ) × (a ≡ Ok e)) ⊎ (a ≡ full)
wrote_or (Ok e) = inl (e, refl)
wrote_or (Err x) = inr refl

-- a record on the list, or no room for it
listed_begun : (a : Wrote) (st : Progress) → (list_after a st).begun ≡ st.begun
unfolding list_after
listed_begun (Ok e) st = refl
listed_begun (Err x) st = refl

no_room : (size at n : ℕ) → n ≤ 65537 → room_for size at n ≡ false → min size 4294967295 < at + n
no_room size at n h e =
    ⊎_elim (λ (f : at + n ≤ 4294967295). let g = leb-false (at + n) size (sym (room_by_size size at n h f) ∙ e) in omega arith)
    (λ (f : 4294967295 < at + n). omega arith)
    (le_or_lt (at + n) 4294967295)

module _ (i x l w t : List ℕ) (st : Progress) (er : Error) {l' : List ℕ} {a : Wrote} {r : Progress} (z : (refused_of st) ≡ 0) (is : (a, l') ≡ recorded l st.list_at er) (e : r ≡ list_after a st) where
  pub record_kept : Kept (world i x l w t st) (world i x l' w t r)
  record_kept = let b : r.begun ≡ st.begun = ap (λ (s : Progress). s.begun) e ∙ listed_begun a st in record { begun = omega arith; over = λ f. absurd (f z) }

  pub record_listed : length (enc_error er) ≤ 65537 → Acts (emit (report er)) (world i x l w t st) (world i x l' w t r)
  record_listed h =
      ⊎_elim
      (λ (q : (p : ℕ) × (a ≡ Ok p)).
      let g = recorded_at l st.list_at er is q.1 in
      let len : length l' ≡ length l = ap length g.3 ∙ length_over l st.list_at (enc_error er) g.0 in
      let front : take (st.list_at + length (enc_error er)) l' ≡ take st.list_at l ++ enc_error er = ap (take (st.list_at + length (enc_error er))) g.3 ∙ take_over l st.list_at (enc_error er) (let k = g.0 in omega arith) in
      let rest : drop (st.list_at + length (enc_error er)) l' ≡ drop (st.list_at + length (enc_error er)) l = ap (drop (st.list_at + length (enc_error er))) g.3 ∙ drop_over l st.list_at (enc_error er) (let k = g.0 in omega arith) in
      let s : list_s (st.list_at + length (enc_error er)) (min (st.errors + 1) max_unfound) st ≡ r = sym (e ∙ sym (list_at st q.1 refl) ∙ ap (λ (n : ℕ). list_s n (min (st.errors + 1) max_unfound) st) g.2) in
      subst (λ (v : Progress). Acts (emit (report er)) (world i x l w t st) (world i x l' w t v)) s (list_in i x l w t st er refl z (error_some er) g.0 g.1 refl len front rest))
      (λ (q : a ≡ full).
      let g = recorded_no l st.list_at er is q in
      let full = no_room (length l) st.list_at (length (enc_error er)) h g.0 in
      subst (λ (y : List ℕ). Acts (emit (report er)) (world i x l w t st) (world i x y w t r)) (sym g.1) (list_full i x l w t st er z (λ _ _. full) (e ∙ sym (list-full-at st q refl))))
      (wrote_or a)

-- the records of names of at most 255 bytes are short
pub plain_short : (k : Plain) → length (enc_error (plain_of k)) ≤ 65537
plain_short k = let a = plain_length k in omega arith

pub no_value_short : (n : List ℕ) → length n ≤ 255 → length (enc_error (no_value n)) ≤ 65537
no_value_short n h = let a = no_value_length n in omega arith

pub reference_short : (k : Referred) (n : List ℕ) (o : Option (List ℕ)) → length n ≤ 255 → Short o → length (enc_error (reference k n o)) ≤ 65537
reference_short k n (some m) h g = let a = attribute_length n k m in let b = g m refl in omega arith
reference_short k n none h g = let a = bare_length n k in omega arith

-- the text of a number that the code holds
pub shown_text_law : (x : Number) → in_range x ≡ true → ranged_text (told (shown x)) ≡ value_text (numeric x)
unfolding in_range number_text value_text
shown_text_law x h = ranged_in (told (shown x)) (rw count_there h) ∙ rw count_there

-- a value's text in the store or in the arguments, and where it has none in either
module _ (i a : List ℕ) where
  pub text_in_store : {b e : ℕ} {c : CodeValue.Value} → c ≡ val.Store b e → between i b e ≡ text_inside i a c
  unfolding text_inside
  text_in_store h = rw h

  pub text_in_args : {b e : ℕ} {c : CodeValue.Value} → c ≡ val.Args b e → between a b e ≡ text_inside i a c
  unfolding text_inside
  text_in_args h = rw h

  pub text_in_none : (c : CodeValue.Value) → ((b e : ℕ) → c ≡ val.Store b e → ⊥) → ((b e : ℕ) → c ≡ val.Args b e → ⊥) → [] ≡ text_inside i a c
  unfolding text_inside
  text_in_none (val.Store b e) h k = absurd (h b e refl)
  text_in_none (val.Args b e) h k = absurd (k b e refl)
  text_in_none (val.Work b e) h k = refl
  text_in_none (val.Number n) h k = refl
  text_in_none val.Nothing h k = refl
  text_in_none val.Wrong h k = refl

-- the bytes that are written for a value are its text
module _ (i a w : List ℕ) where
  pub bytes_work : {b e : ℕ} {c : CodeValue.Value} → c ≡ val.Work b e → between w b e ≡ bytes_of i a w c
  unfolding bytes_of
  bytes_work h = rw h

  pub bytes_number : {n : CodeNumber.Number} {c : CodeValue.Value} → c ≡ val.Number n → ranged_text (told n) ≡ bytes_of i a w c
  unfolding bytes_of
  bytes_number h = rw h

  pub bytes_text : (c : CodeValue.Value) → ((b e : ℕ) → c ≡ val.Work b e → ⊥) → ((n : CodeNumber.Number) → c ≡ val.Number n → ⊥) → text_inside i a c ≡ bytes_of i a w c
  unfolding bytes_of
  bytes_text (val.Store b e) h k = refl
  bytes_text (val.Args b e) h k = refl
  bytes_text (val.Work b e) h k = absurd (h b e refl)
  bytes_text (val.Number n) h k = absurd (k n refl)
  bytes_text val.Nothing h k = refl
  bytes_text val.Wrong h k = refl

  pub bytes_held : (low : ℕ) {c : CodeValue.Value} {v : Value} → Holds i a w low c v → bytes_of i a w c ≡ value_text v
  unfolding bytes_of text_inside value_text
  bytes_held low (in_store b e p lo hi r) = ap (bytes_of i a w) p ∙ between_in i b e lo hi ∙ sym (ap value_text r)
  bytes_held low (in_args b e p lo hi r) = ap (bytes_of i a w) p ∙ between_in a b e lo hi ∙ sym (ap value_text r)
  bytes_held low (in_work b e p l lo hi r) = ap (bytes_of i a w) p ∙ between_in w b e lo hi ∙ sym (ap value_text r)
  bytes_held low (a_number n p q r) = ap (bytes_of i a w) p ∙ shown_text_law n q ∙ sym (ap value_text r)
  bytes_held low (is_nothing p r) = ap (bytes_of i a w) p ∙ sym (ap value_text r)
  bytes_held low (a_wrong p r) = ap (bytes_of i a w) p ∙ sym (ap value_text r)
