-- Entries that repeat an id: what the marks say.
use Rattle.records.specs.Relations.Answer.{Next}
use Rattle.std.specs.Prelude.{Some, None}
use mathlib.Core.Path.{◌≡◌, refl, ap, sym, subst, ◌∙◌}
use mathlib.Core.Bool.{Bool, true, false, ◌||◌}
use mathlib.Core.List.{List, [], ◌∷◌, ◌++◌}
use Prim.Native.Nat.{ℕ, zero, suc, ◌+◌, ◌*◌, ◌-◌, ◌≤◌, ◌<◌}
use native.Mathlib.Numerals.{add-one}
use native.Mathlib.Omega.{arith}
use lib.ListN.{length, get_or, set}
use lib.Seq.{get_or-set_same, get_or-set_other}
use lib.Dec.{eqb}
use mir.Val.{bool_byte}
use borrow.Author.Tests.{eq-eqb, ne_eqb}
use Rattle.records.specs.Got.{got, bad, Parser}
use Rattle.records.specs.Relations.Answer.{next_of}
use Rattle.records.specs.Bytes.{part, number_at, span_at}
use Rattle.decimals.specs.Bytes.{same_bytes}
use Rattle.records.specs.Decode.{many}
use Rattle.records.specs.Images.{Entry, Store, max_image, is_some, entry_at, store_of, resource_of}
use Rattle.records.proofs.Laws.{after_is, after_elim, got_elim}
use Rattle.records.proofs.Views.{both, never, as_elim, many_cons, many_nil}
use Rattle.entries.specs.Lookup.{Holder, Find, first_entry, find_in}
use Rattle.records.specs.Optional.{or_else, option_of}
use Rattle.entries.specs.Outline.{behind, entry_outline}
use Rattle.entries.specs.Repeats.{is_held, repeat_if, repeats_from, repeats}
use Rattle.repeats.specs.Relations.Seen.{seen_after}
use Rattle.entries.specs.Relations.Marked.{marked}
use Rattle.entries.proofs.Open.{whole_resource}
use Rattle.entries.proofs.Lengths.{entry_size}
use Rattle.entries.proofs.Decoded.{first_unread, first_endless, turn_ends, id_there}

pub or_true : (b : Bool) → b || true ≡ true
or_true true = refl
or_true false = refl

-- held after entries: by one of them, or before
pub held_after : (find : Find) (seen : List (List ℕ)) (pre : List Entry) (i : List ℕ) → is_held find (seen_after seen pre) i ≡ is_some (first_entry i pre) || is_held find seen i
unfolding seen_after is_held first_entry is_some option_of or_else
held_after find seen [] i = refl
held_after find seen (e ∷ es) i = held_after find (e.id ∷ seen) es i ∙ go (same_bytes e.id i)
  where
    go : (b : Bool) → is_some (first_entry i es) || (b || is_held find seen i) ≡ is_some (or_else (option_of b (Holder.entry e)) (first_entry i es)) || is_held find seen i
    go true = or_true (is_some (first_entry i es))
    go false = refl

module _ (find : Find) (pre : List Entry) (i : List ℕ) where
  pub mark_among : true ≡ is_some (first_entry i pre) → eqb 1 1 ≡ is_held find (seen_after [] pre) i
  mark_among h = eq-eqb 1 1 refl ∙ ap (λ (b : Bool). b || is_held find [] i) h ∙ sym (held_after find [] pre i)

  mark_held : false ≡ is_some (first_entry i pre) → true ≡ is_some (find i) → eqb 1 1 ≡ is_held find (seen_after [] pre) i
  unfolding is_held
  mark_held h k = eq-eqb 1 1 refl ∙ k ∙ ap (λ (b : Bool). b || is_some (find i)) h ∙ sym (held_after find [] pre i)

  mark_free : false ≡ is_some (first_entry i pre) → false ≡ is_some (find i) → eqb 0 1 ≡ is_held find (seen_after [] pre) i
  unfolding is_held
  mark_free h k = ne_eqb 0 1 (λ z. omega arith) ∙ k ∙ ap (λ (b : Bool). b || is_some (find i)) h ∙ sym (held_after find [] pre i)

  -- the same, as the code has it
  pub mark_else : false ≡ is_some (first_entry i pre) → {t : Bool} → t ≡ is_some (find i) → eqb (bool_byte t) 1 ≡ is_held find (seen_after [] pre) i
  mark_else h {t = true} k = mark_held h k
  mark_else h {t = false} k = mark_free h k

-- one read more at the end
pub many_snoc : {A : Type 0} (p : Parser A) (s : List ℕ) (k at : ℕ) {l : List A} {i : ℕ} {x : A} {e : ℕ} → many [] ◌∷◌ k p s at ≡ got l i → p s i ≡ got x e → many [] ◌∷◌ (suc k) p s at ≡ got (l ++ (x ∷ [])) e
unfolding many
many_snoc p s zero at {l} {i} {x} {e} h hx =
    got_elim h (λ el ei.
    let hx' : p s at ≡ got x e = subst (λ (z : ℕ). p s z ≡ got x e) (sym ei) hx in
    after_is (p s at) _ hx' ∙ after_is (many [] ◌∷◌ zero p s e) _ refl ∙ ap (λ (z : List _). got (z ++ (x ∷ [])) e) el)
many_snoc p s (suc k) at {l} {i} {x} {e} h hx =
    after_elim (p s at) _ h (λ a j ha h.
    as_elim (λ (r : List _). a ∷ r) _ h (λ l' hl w.
    after_is (p s at) _ ha ∙ after_is (many [] ◌∷◌ (suc k) p s j) _ (many_snoc p s k j hl hx) ∙ ap (λ (z : List _). got (z ++ (x ∷ [])) e) (sym w)))

seen_snoc : (seen : List (List ℕ)) (pre : List Entry) (x : Entry) → seen_after seen (pre ++ (x ∷ [])) ≡ x.id ∷ seen_after seen pre
unfolding seen_after
seen_snoc seen [] x = refl
seen_snoc seen (e ∷ es) x = seen_snoc (e.id ∷ seen) es x

-- the marks of the entries from a position on, behind those of k entries, where what R says holds
module _ (s image : List ℕ) (start : ℕ) (R : Store → Type 0) where
  abbrev pub MarkFrom : ℕ → ℕ → ℕ → List ℕ → List ℕ → Type 0
  MarkFrom n k at marks out = (st : Store) (u : ℕ) → store_of s ≡ got st u → R st → (pre : List Entry) → many [] ◌∷◌ k entry_at image start ≡ got pre at → (es : List Entry) (f : ℕ) → many [] ◌∷◌ n entry_at image at ≡ got es f
      → (marked out k es ≡ repeats_from (find_in st.items) (seen_after [] pre) es) × ((j : ℕ) → j < k → get_or out j 0 ≡ get_or marks j 0)

  pub marks_none : (n k at : ℕ) (marks : List ℕ) → n ≤ 0 → MarkFrom n k at marks marks
  unfolding marked repeats_from
  marks_none n k at marks z st u hs rs pre hp es f q = many_nil [] ◌∷◌ entry_at image n at z q (λ el _. (rw el, λ j h. refl))

  pub marks_bad : (n k at : ℕ) (marks out : List ℕ) → 0 < n → behind 1 span_at image at ≡ bad → MarkFrom n k at marks out
  marks_bad n k at marks out z h st u hs rs pre hp es f q = first_unread image n at z q h

  pub marks_stuck : (n k at : ℕ) (marks out : List ℕ) {r : Next} → 0 < n → r ≡ next_of (entry_outline image at) → r ≡ None → MarkFrom n k at marks out
  marks_stuck n k at marks out z is b st u hs rs pre hp es f q = first_endless image n at z q is b

  abbrev pub Marks : ℕ → ℕ → ℕ → ℕ → ℕ → Type 0
  Marks m k at a e = (st : Store) (f : ℕ) (pre : List Entry) → store_of s ≡ got st f → R st → many [] ◌∷◌ k entry_at image start ≡ got pre at → eqb m 1 ≡ is_held (find_in st.items) (seen_after [] pre) (part image a (e - a))

  pub marks_next : (count k at : ℕ) (marks : List ℕ) (m : ℕ) (marks' out : List ℕ) {a e i : ℕ} {r : Next} → k < count → k < length marks → behind 1 span_at image at ≡ got a e → Marks m k at a e → marks' ≡ set marks k m
      → r ≡ next_of (entry_outline image at) → r ≡ Some i → MarkFrom (count - (k + 1)) (k + 1) i marks' out → MarkFrom (count - k) k at marks out
  unfolding marked repeats_from
  marks_next count k at marks m marks' out {a} {e} {i} lt lm h hm hs' is w rest st u hs rs pre hp es f q =
      turn_ends image count k at lt q is w (λ x es' hx hl el.
      let hp' : many [] ◌∷◌ (k + 1) entry_at image start ≡ got (pre ++ (x ∷ [])) i = rw add-one (many_snoc entry_at image k start hp hx) in
      let ih = rest st u hs rs (pre ++ (x ∷ [])) hp' es' f hl in
      let ei : x.id ≡ part image a (e - a) = id_there image at h hx in
      let here : get_or out k 0 ≡ m = ih.1 k (omega arith) ∙ ap (λ (l : List ℕ). get_or l k 0) hs' ∙ get_or-set_same marks k m 0 lm in
      let test : eqb (get_or out k 0) 1 ≡ is_held (find_in st.items) (seen_after [] pre) x.id =
      ap (λ (z : ℕ). eqb z 1) here ∙ hm st u pre hs rs hp ∙ ap (λ (t : List ℕ). is_held (find_in st.items) (seen_after [] pre) t) (sym ei) in
      let tail : marked out (k + 1) es' ≡ repeats_from (find_in st.items) (x.id ∷ seen_after [] pre) es' = ih.0 ∙ ap (λ (t : List (List ℕ)). repeats_from (find_in st.items) t es') (seen_snoc [] pre x) in (
        (ap (marked out k) el ∙ ap (λ (b : Bool). repeat_if b x (marked out (k + 1) es')) test ∙ ap (repeat_if (is_held (find_in st.items) (seen_after [] pre) x.id) x) tail ∙ sym (ap (repeats_from (find_in st.items) (seen_after [] pre)) el)),
        (λ j' lj. ih.1 j' (omega arith) ∙ ap (λ (l : List ℕ). get_or l j' 0) hs' ∙ get_or-set_other marks k j' m 0 (λ z. let z' : j' ≡ k = z in omega arith)),
      ))

-- how many entries an image can have
entries_bytes : (s : List ℕ) (n at : ℕ) {es : List Entry} {f : ℕ} → many [] ◌∷◌ n entry_at s at ≡ got es f → at + n * 6 ≤ f
entries_bytes s zero at h = many_nil [] ◌∷◌ entry_at s zero at (omega arith) h (λ _ ef. omega arith)
entries_bytes s (suc n) at {es} {f} h =
    many_cons [] ◌∷◌ entry_at s (suc n) at (omega arith) h (λ x e es' hx hl _.
    let m : suc n - 1 ≡ n = omega arith in
    let ih = entries_bytes s n e (subst (λ (j : ℕ). many [] ◌∷◌ j entry_at s e ≡ got es' f) m hl) in
    let b = entry_size s at hx in let b0 = b.0 in
    omega arith)

-- what the marks are for
abbrev pub MarksRepeats : List ℕ → List ℕ → (Store → Type 0) → List ℕ → Type 0
MarksRepeats s image R out = (st : Store) (u : ℕ) (es : List Entry) (f : ℕ) → store_of s ≡ got st u → resource_of image ≡ got es f → R st → marked out 0 es ≡ repeats (find_in st.items) es

pub marks_no_count : (s image : List ℕ) (R : Store → Type 0) (out : List ℕ) → number_at 2 image 5 ≡ bad → MarksRepeats s image R out
marks_no_count s image R out h st u es f hs hr rs = whole_resource image hr (λ k hk _ _ _ _. never h hk)

-- an image with more entries is none
pub marks_many : (s image : List ℕ) (R : Store → Type 0) (out : List ℕ) {count start : ℕ} → number_at 2 image 5 ≡ got count start → 10921 < count → MarksRepeats s image R out
unfolding max_image
marks_many s image R out {count} h l st u es f hs hr rs =
    whole_resource image hr (λ k hk hm _ le _. both h hk (λ ek _. let b = entries_bytes image k 7 hm in absurd (omega arith)))

pub marks_start : (s image : List ℕ) (R : Store → Type 0) (marks out : List ℕ) {count start : ℕ} → number_at 2 image 5 ≡ got count start → MarkFrom s image start R (count - 0) 0 start marks out → MarksRepeats s image R out
unfolding repeats many seen_after
marks_start s image R marks out {count} {start} h w st u es f hs hr rs =
    whole_resource image hr (λ k hk hm _ _ _.
    both h hk (λ ek es'.
    let ec : count - 0 ≡ k = omega arith in
    (w st u hs rs [] refl es f (rw (ec, es') hm)).0))
