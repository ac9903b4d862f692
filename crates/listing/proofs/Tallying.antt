-- The tally of the records of the marked entries.
use Rattle.records.specs.Relations.Answer.{Next, Num, num_of}
use Rattle.std.proofs.Common.{Fits, w8}
use Rattle.std.specs.Prelude.{Some, None}
use mathlib.Core.Path.{◌≡◌, refl, ap, sym, subst, ◌∙◌}
use mathlib.Core.Bool.{Bool, true, false}
use mathlib.Core.List.{List, [], ◌∷◌, ◌++◌, append-nil}
use Prim.Native.Nat.{ℕ, zero, suc, ◌+◌, ◌-◌, ◌≤◌, ◌<◌}
use native.Mathlib.Omega.{arith}
use lib.ListN.{length, get_or, length-append}
use lib.Dec.{eqb}
use borrow.Author.Tests.{eq-eqb, ne_eqb}
use Rattle.records.specs.Relations.Answer.{next_of}
use Rattle.records.specs.Got.{got, bad}
use Rattle.records.specs.Bytes.{number_at, span_at}
use Rattle.records.specs.Encode.{enc_all}
use Rattle.records.specs.Errors.{Error, overriding, enc_error}
use Rattle.records.specs.Decode.{many}
use Rattle.records.specs.Images.{Entry, max_image, entry_at, resource_of}
use Rattle.records.proofs.Views.{both, never, many_cons, many_nil, num_is}
use Rattle.texts.proofs.Recording.{overriding_length}
use Rattle.listing.specs.declared.Tally.{Tally}
use Rattle.entries.specs.Outline.{behind, entry_outline}
use Rattle.entries.specs.Repeats.{repeat_if}
use Rattle.entries.specs.Relations.Marked.{marked}
use Rattle.listing.specs.Relations.Tallies.{counted, Tallied, Tallies}
use Rattle.entries.proofs.Open.{whole_resource}
use Rattle.entries.proofs.Decoded.{first_unread, first_endless, turn_ends}
use Rattle.entries.proofs.Lengths.{id_length, entry_size, id_small, u16_small}

-- numbers of two bytes, as the code reads them
module _ (s : List ℕ) (bytes : (i : ℕ) → Fits w8 (get_or s i 0)) where
  pub few : (at : ℕ) {r : Num} {n e : ℕ} → r ≡ num_of (number_at 2 s at) → r ≡ Some (n, e) → n < 65536
  few at is h = u16_small s at (λ i. omega (arith, bytes i)) (num_is is h)

  pub short : (at : ℕ) {r : Num} {a e : ℕ} → r ≡ num_of (behind 1 span_at s at) → r ≡ Some (a, e) → e - a < 65536
  short at is h = id_small s at (λ i. omega (arith, bytes i)) (num_is is h)

-- records of entries
repeat_length : (b : Bool) (x : Entry) (l : List Error) → length (repeat_if b x l) ≡ counted b 1 + length l
unfolding repeat_if
repeat_length true x l = omega arith
repeat_length false x l = omega arith

pub enc_repeat : (b : Bool) (x : Entry) (l : List Error) → enc_all enc_error (repeat_if b x l) ≡ enc_all enc_error (repeat_if b x []) ++ enc_all enc_error l
unfolding repeat_if enc_all
enc_repeat true x l = ap (λ (t : List ℕ). t ++ enc_all enc_error l) (sym (append-nil (enc_error (overriding x.kind x.id))))
enc_repeat false x l = refl

pub one_size : (b : Bool) (x : Entry) → length (enc_all enc_error (repeat_if b x [])) ≡ counted b (6 + length x.id)
unfolding repeat_if enc_all
one_size true x = ap length (append-nil (enc_error (overriding x.kind x.id))) ∙ sym (overriding_length x.id x.kind)
one_size false x = refl

repeat_size : (b : Bool) (x : Entry) (l : List Error) → length (enc_all enc_error (repeat_if b x l)) ≡ counted b (6 + length x.id) + length (enc_all enc_error l)
repeat_size b x l = ap length (enc_repeat b x l) ∙ length-append (enc_all enc_error (repeat_if b x [])) (enc_all enc_error l) ∙ ap (λ (n : ℕ). n + length (enc_all enc_error l)) (one_size b x)

counted_most : (b : Bool) (n : ℕ) → counted b n ≤ n
counted_most true n = omega arith
counted_most false n = omega arith

pub marked_size : (s marks : List ℕ) (n k at : ℕ) {es : List Entry} {f : ℕ} → many [] ◌∷◌ n entry_at s at ≡ got es f → at + length (enc_all enc_error (marked marks k es)) ≤ f
unfolding marked enc_all
marked_size s marks zero k at {es} {f} h = many_nil [] ◌∷◌ entry_at s zero at (omega arith) h (λ el ef. rw el (none-size f at ef))
  where
    none-size : (f at : ℕ) → f ≡ at → at + length (enc_all enc_error []) ≤ f
    none-size f at ef = omega arith
marked_size s marks (suc n) k at {es} {f} h =
    many_cons [] ◌∷◌ entry_at s (suc n) at (omega arith) h (λ x e es' hx hl el.
    let m : suc n - 1 ≡ n = omega arith in
    let ih = marked_size s marks n (k + 1) e (subst (λ (j : ℕ). many [] ◌∷◌ j entry_at s e ≡ got es' f) m hl) in
    let z = entry_size s at hx in let z0 = z.0 in
    let b = counted_most (eqb (get_or marks k 0) 1) (6 + length x.id) in
    let r = repeat_size (eqb (get_or marks k 0) 1) x (marked marks (k + 1) es') in
    rw el (omega arith))

-- the tally of the entries from a position on
module _ (image marks : List ℕ) where
  pub record TallyFrom (n k at : ℕ) (t r : Tally) : Type 0 where
    pub says : (es : List Entry) (f : ℕ) → many [] ◌∷◌ n entry_at image at ≡ got es f → (r.count ≡ t.count + length (marked marks k es)) × (r.size ≡ t.size + length (enc_all enc_error (marked marks k es)))

  pub tally_none : {n k at : ℕ} {t : Tally} → n ≤ 0 → TallyFrom n k at t t
  unfolding marked enc_all
  tally_none {n} {k} {at} {t} z = record { says = λ es f q. many_nil [] ◌∷◌ entry_at image n at z q (λ el _. rw el (omega arith, omega arith)) }

  pub tally_bad : {n k at : ℕ} {t r : Tally} → 0 < n → behind 1 span_at image at ≡ bad → TallyFrom n k at t r
  tally_bad {n} {k} {at} z h = record { says = λ es f q. first_unread image n at z q h }

  pub tally_stuck : {n k at : ℕ} {t r : Tally} {o : Next} → 0 < n → o ≡ next_of (entry_outline image at) → o ≡ None → TallyFrom n k at t r
  tally_stuck {n} {k} {at} z is b = record { says = λ es f q. first_endless image n at z q is b }

  pub tally_next : (count : ℕ) {k at a e i m : ℕ} {t t' r : Tally} {o : Next} → k < count → behind 1 span_at image at ≡ got a e → m ≡ get_or marks k 0 → Tallied t m (e - a) t'
      → o ≡ next_of (entry_outline image at) → o ≡ Some i → TallyFrom (count - (k + 1)) (k + 1) i t' r → TallyFrom (count - k) k at t r
  unfolding marked
  tally_next count {k} {at} {a} {e} {i} {m} {t} {t'} {r} lt h em y₀ is w rest = record {
    says = λ es f q.
        let y : Tallied t (get_or marks k 0) (e - a) t' = subst (λ (j : ℕ). Tallied t j (e - a) t') em y₀ in
        turn_ends image count k at lt q is w (λ x es' hx hl el.
        let ih = rest.says es' f hl in
        let i0 = ih.0 in let i1 = ih.1 in
        let y0 = y.count in
        let y1 : t'.size ≡ t.size + counted (eqb (get_or marks k 0) 1) (6 + length x.id) = y.size ∙ ap (λ (n : ℕ). t.size + counted (eqb (get_or marks k 0) 1) (6 + n)) (sym (id_length image at h hx)) in
        let c0 = repeat_length (eqb (get_or marks k 0) 1) x (marked marks (k + 1) es') in
        let c1 = repeat_size (eqb (get_or marks k 0) 1) x (marked marks (k + 1) es') in
        rw el (omega arith, omega arith));
  }

  pub tally_no_count : {r : Tally} → number_at 2 image 5 ≡ bad → (es : List Entry) (f : ℕ) → resource_of image ≡ got es f → Tallies (marked marks 0 es) r
  tally_no_count h es f hr = whole_resource image hr (λ k hk _ _ _ _. never h hk)

  pub tally_start : {count start : ℕ} {r : Tally} → number_at 2 image 5 ≡ got count start → TallyFrom (count - 0) 0 start (record { count = 0; size = 0 }) r → (es : List Entry) (f : ℕ) → resource_of image ≡ got es f → Tallies (marked marks 0 es) r
  tally_start {count} {start} {r} h w es f hr =
      whole_resource image hr (λ k hk hm _ _ _.
      both h hk (λ ek es'.
      let ec : count - 0 ≡ k = omega arith in
      let v = w.says es f (rw (ec, es') hm) in
      let v0 = v.0 in let v1 = v.1 in
      record { count = omega arith; size = omega arith }))

-- a tally with one record more
pub tally_one : (t : Tally) (mark n : ℕ) → mark ≡ 1 → Tallied t mark n (record { count = t.count + 1; size = t.size + (6 + n) })
tally_one t mark n h = record {
  count = ap (λ (b : Bool). t.count + counted b 1) (sym (eq-eqb mark 1 h));
  size = ap (λ (b : Bool). t.size + counted b (6 + n)) (sym (eq-eqb mark 1 h));
  few = omega arith;
  small = omega arith;
}

pub tally_same : (t : Tally) (mark n : ℕ) → (mark ≡ 1 → ⊥) → Tallied t mark n t
tally_same t mark n h = record {
  count = let e : counted (eqb mark 1) 1 ≡ 0 = ap (λ (b : Bool). counted b 1) (ne_eqb mark 1 h) in omega arith;
  size = let e : counted (eqb mark 1) (6 + n) ≡ 0 = ap (λ (b : Bool). counted b (6 + n)) (ne_eqb mark 1 h) in omega arith;
  few = omega arith;
  small = omega arith;
}

pub tally_small : (image marks : List ℕ) {es : List Entry} {f : ℕ} {t : Tally} → resource_of image ≡ got es f → Tallies (marked marks 0 es) t → t.size ≤ 65536
unfolding max_image
tally_small image marks {es} {f} hr y = whole_resource image hr (λ k _ hm _ le _. let z = marked_size image marks k 0 7 hm in let e = y.size in omega arith)
