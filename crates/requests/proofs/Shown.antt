-- Where a request was read, the outline gives its parts; and whatever bytes there are, what the outline gives lies in them.
use mathlib.Core.Path.{◌≡◌, refl, ap, sym, subst, ◌∙◌}
use mathlib.Core.List.{List}
use mathlib.Core.Option.{some}
use Prim.Native.Nat.{ℕ, ◌+◌, ◌-◌, ◌≤◌}
use native.Mathlib.Omega.{arith}
use lib.ListN.{length}
use Rattle.records.specs.Got.{Got, got, bad, test, pick}
use Rattle.records.specs.Bytes.{part, byte_at, bytes_at, number_at, span_at}
use Rattle.records.specs.Decode.{id_at}
use Rattle.records.proofs.Laws.{after_is, after_elim, test_elim, got_elim, bytes_inv, span_in}
use Rattle.records.proofs.Views.{pick_elim, both, never, id_elim, optional_elim}
use Rattle.requests.specs.declared.Spans.{Spans}
use Rattle.std.specs.Prelude.{Option, Some, None}
use Rattle.requests.specs.Image.{Request, arguments_bytes_at, request_at}
use Rattle.requests.specs.Relations.Outline.{spans, image_spans, attribute_spans, spans_at, asked_of}
use Rattle.requests.specs.Relations.Shown.{SpanIn, Inside, Shows}
use Rattle.requests.proofs.Views.{arguments_bytes_elim, request_elim}

-- what the code's answer says of the outline
asked_is : (g : Got Spans) {x : Option Spans} {q : Spans} {C : Type 0} → x ≡ asked_of g → x ≡ Some q → ((e : ℕ) → g ≡ got q e → C) → C
unfolding asked_of
asked_is (got p e) {q = q} is h k =
    let w : ◌≡◌ {A = Option Spans} (Some p) (Some q) = sym is ∙ h in
    let v : p ≡ q = cc in
    k e (ap (λ (j : Spans). got j e) v)
asked_is bad {q = q} is h k = let w : ◌≡◌ {A = Option Spans} None (Some q) = sym is ∙ h in let z : ◌≡◌ {A = ℕ} 0 1 = cc in absurd (omega arith)

asked_none : (g : Got Spans) {x : Option Spans} → x ≡ asked_of g → x ≡ None → g ≡ bad
unfolding asked_of
asked_none (got p e) is h = let w : ◌≡◌ {A = Option Spans} (Some p) None = sym is ∙ h in cc
asked_none bad is h = refl

-- the parts lie in the bytes
module _ (s : List ℕ) where
  image_inside : (i j : ℕ) (a : Option (ℕ × ℕ)) (at : ℕ) {q : Spans} {e : ℕ} → image_spans i j a s at ≡ got q e → i ≤ j → j ≤ length s → SpanIn s a → Inside s q
  unfolding image_spans spans
  image_inside i j a at h l m o =
      after_elim (number_at 4 s at) _ h (λ n p _ h.
      after_elim (bytes_at n s at) _ h (λ b f hb h.
      let k = bytes_inv s at n hb in
      let x : at + n ≤ length s = k.0 in
      let y : f ≡ at + n = k.2 in
      got_elim h (λ u _. subst (Inside s) u (record { id_on = l; id_in = m; attribute = o; image_on = omega arith; image_in = omega arith }))))

  attribute_inside : (i j at : ℕ) {q : Spans} {e : ℕ} → attribute_spans i j s at ≡ got q e → i ≤ j → j ≤ length s → Inside s q
  unfolding attribute_spans
  attribute_inside i j at h l m =
      after_elim (byte_at s at) _ h (λ f p _ h.
      pick_elim _ _ _ h
      (λ _ h. image_inside i j None p h l m tt)
      (λ _ h. test_elim _ _ h (λ _ h. after_elim (span_at s p) _ h (λ a k ha h. image_inside i j (Some (a, k)) k h l m (span_in s p ha)))))

  pub spans_inside : (at : ℕ) {q : Spans} {e : ℕ} → spans_at s at ≡ got q e → Inside s q
  unfolding spans_at
  spans_inside at h = after_elim (span_at s at) _ h (λ i j hi h. let k = span_in s at hi in attribute_inside i j j h k.0 k.1)

  -- the same, by what the code answered
  pub asked_inside : (at : ℕ) {x : Option Spans} {q : Spans} → x ≡ asked_of (spans_at s at) → x ≡ Some q → Inside s q
  asked_inside at is h = asked_is (spans_at s at) is h (λ e g. spans_inside at g)

-- the parts of a request that was read
module _ (s : List ℕ) where
  -- its image
  image_shows : (i j : ℕ) (a : Option (ℕ × ℕ)) (at : ℕ) {b : List ℕ} {e : ℕ} → arguments_bytes_at s at ≡ got b e
      → (image_spans i j a s at ≡ got (spans i j a at e) e) × (part s at (e - at) ≡ b)
  unfolding image_spans
  image_shows i j a at {b} {e} h =
      arguments_bytes_elim s at h (λ n p hn _ _ hb.
      let k = bytes_inv s at n hb in
      let y : e ≡ at + n = k.2 in
      let m : e - at ≡ n = omega arith in
      (after_is (number_at 4 s at) _ hn ∙ after_is (bytes_at n s at) _ hb, ap (λ (l : ℕ). part s at l) m ∙ sym k.1))

  -- a Flag of 0, and a Flag of 1
  plain_spans : (i j at : ℕ) {p : ℕ} → byte_at s at ≡ got 0 p → attribute_spans i j s at ≡ image_spans i j None s p
  unfolding attribute_spans pick
  plain_spans i j at h = after_is (byte_at s at) _ h

  attribute_spans_law : (i j at : ℕ) {p a e : ℕ} → byte_at s at ≡ got 1 p → span_at s p ≡ got a e → attribute_spans i j s at ≡ image_spans i j (Some (a, e)) s e
  unfolding attribute_spans pick test
  attribute_spans_law i j at {p} h k = after_is (byte_at s at) _ h ∙ after_is (span_at s p) _ k

  -- what the outline gives of a request
  abbrev pub Outlined : (at : ℕ) (r : Request) (e : ℕ) → Type 0
  Outlined at r e = (q : Spans) × (spans_at s at ≡ got q e) × (q.end ≡ e) × Shows s q r

  pub request_spans : (at : ℕ) {r : Request} {e : ℕ} → request_at s at ≡ got r e → Outlined at r e
  unfolding spans_at spans
  request_spans at {r} {e} h =
      request_elim s at h (λ i p a q b hi ha hb w.
      id_elim s at hi (λ f hf ef _.
      subst (λ (z : Request). Outlined at z e) (sym w)
      (optional_elim id_at s p ha
      (λ hz o.
      let g = image_shows f p None q hb in
      (spans f p None q e, after_is (span_at s at) _ hf ∙ plain_spans f p p hz ∙ g.0, refl, record { id = sym ef; attribute = sym o; image = g.1 }))
      (λ k t ho ht o.
      id_elim s k ht (λ c hc ec _.
      let g = image_shows f p (Some (c, q)) q hb in
      (spans f p (Some (c, q)) q e, after_is (span_at s at) _ hf ∙ attribute_spans_law f p p ho hc ∙ g.0, refl, record { id = sym ef; attribute = ap some (sym ec) ∙ sym o; image = g.1 }))))))

  -- the same, by what the code answered
  pub asked_shows : (at : ℕ) {x : Option Spans} {q : Spans} {r : Request} {e : ℕ} → x ≡ asked_of (spans_at s at) → x ≡ Some q → request_at s at ≡ got r e → (q.end ≡ e) × Shows s q r
  asked_shows at {q = q} {r} {e} is h g =
      let k = request_spans at g in
      asked_is (spans_at s at) is h (λ f w. both k.1 w (λ u _. subst (λ (z : Spans). (z.end ≡ e) × Shows s z r) u (k.2, k.3)))

  pub asked_never : (at : ℕ) {x : Option Spans} {r : Request} {e : ℕ} {C : Type 0} → x ≡ asked_of (spans_at s at) → x ≡ None → request_at s at ≡ got r e → C
  asked_never at is h g = let k = request_spans at g in never (asked_none (spans_at s at) is h) k.1
