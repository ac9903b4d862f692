-- What is known where a resource, a function record, an item or a store was read; and that each lies in the bytes.
use mathlib.Core.Path.{◌≡◌, ap, sym, subst, ◌∙◌}
use mathlib.Core.List.{List, [], ◌∷◌}
use Prim.Native.Nat.{ℕ, ◌+◌, ◌-◌, ◌≤◌, ◌<◌}
use native.Mathlib.Omega.{arith}
use lib.ListN.{length, get_or}
use borrow.Author.Tests.{eqb-true, ltb-true, leb-true, lt-ltb}
use Rattle.records.specs.Got.{got, Parser, test}
use Rattle.records.specs.Bytes.{part, byte_at, bytes_at, number_at, span_at}
use Rattle.records.specs.Decode.{many, flag_at, optional_at, id_at, entry_pattern_at}
use Rattle.records.specs.Images.{Kind, Entry, Item, Store, max_image, max_store, max_items, one_at, attributes_at, entry_at, resource_at, function_at, item_at, locale_at, store_of, whole_of, resource_of}
use Rattle.records.proofs.Laws.{after_is, after_elim, test_elim, got_elim, bytes_in, bytes_inv, number_inv}
use Rattle.records.proofs.Views.{pick_elim, as_elim, byte_tag, kind_elim, one_elim, id_elim, flag_elim, entry_elim}
use Rattle.entries.specs.Outline.{behind}
use Rattle.entries.proofs.Inside.{Within, further, Stays, byte_stays, id_stays, many_stays, entry_stays}

-- a byte, as one of any bytes
pub byte_bytes : (s : List ℕ) (at : ℕ) {b e : ℕ} → byte_at s at ≡ got b e → bytes_at 1 s at ≡ got (part s at 1) e
unfolding byte_at
byte_bytes s at {b} {e} h =
    test_elim _ _ h (λ t h. got_elim h (λ _ w.
    let k = ltb-true at (length s) t in
    bytes_in s at 1 (omega arith) ∙ ap (λ (j : ℕ). got (part s at 1) j) w))

pub byte_in : (s : List ℕ) (at : ℕ) → at < length s → byte_at s at ≡ got (get_or s at 0) (at + 1)
unfolding byte_at test
byte_in s at h = simp (lt-ltb _ _ h)

pub byte_end : (s : List ℕ) (at : ℕ) {b e : ℕ} → byte_at s at ≡ got b e → (at + 1 ≤ length s) × (e ≡ at + 1)
byte_end s at h = let k = bytes_inv s at 1 (byte_bytes s at h) in (k.0, k.2)

pub behind_is : {A : Type 0} (n : ℕ) (p : Parser A) (s : List ℕ) (at : ℕ) {bs : List ℕ} {i : ℕ} → bytes_at n s at ≡ got bs i → behind n p s at ≡ p s i
unfolding behind
behind_is n p s at h = after_is (bytes_at n s at) _ h

-- an entry: where its Id stands, and what follows
pub entry_parts : {C : Type 0} (s : List ℕ) (at : ℕ) {x : Entry} {f : ℕ} → entry_at s at ≡ got x f
    → ((a e r : ℕ) → behind 1 span_at s at ≡ got a e → x.id ≡ part s a (e - a) → optional_at entry_pattern_at s e ≡ got x.value r → attributes_at s r ≡ got x.attributes f → C) → C
entry_parts s at {x} h c =
    entry_elim s at h (λ p q r hk hn hv ha _.
    let kb : bytes_at 1 s at ≡ got (part s at 1) p = kind_elim s at hk (λ hb _. byte_bytes s at hb) (λ hb _. byte_bytes s at hb) in
    id_elim s p hn (λ a hs ei _. c a q r (behind_is 1 span_at s at kb ∙ hs) ei hv ha))

-- an entry's kind byte
pub entry_kind : {C : Type 0} (s : List ℕ) (at : ℕ) {x : Entry} {f : ℕ} → entry_at s at ≡ got x f
    → ((p : ℕ) → byte_at s at ≡ got 1 p → x.kind ≡ Kind.message → C) → ((p : ℕ) → byte_at s at ≡ got 2 p → x.kind ≡ Kind.term → C) → C
entry_kind s at h c d = entry_elim s at h (λ p q r hk _ _ _ _. kind_elim s at hk (λ hb e. c p hb e) (λ hb e. d p hb e))

-- a resource: its length, its count and its entries
pub resource_parts : {C : Type 0} (s : List ℕ) (at : ℕ) {es : List Entry} {f : ℕ} → resource_at s at ≡ got es f
    → ((n q k r : ℕ) → number_at 4 s at ≡ got n q → f ≡ at + n → n ≤ max_image → behind 5 (number_at 2) s at ≡ got k r → r ≡ at + 7 → many [] ◌∷◌ k entry_at s r ≡ got es f → Within s at f → C) → C
unfolding resource_at
resource_parts s at {es} {f} h c =
    after_elim (number_at 4 s at) _ h (λ n p hn h.
    test_elim _ _ h (λ t h.
    after_elim (one_at s p) _ h (λ v q ho h.
    after_elim (number_at 2 s q) _ h (λ k r hk h.
    after_elim (many [] ◌∷◌ k entry_at s r) _ h (λ l e hm h.
    test_elim _ _ h (λ w h. got_elim h (λ ex ef.
    one_elim s p ho (λ hb _.
    let i = number_inv s 4 at hn in let i0 = i.0 in let i1 = i.1 in
    let j = byte_end s p hb in let j0 = j.0 in let j1 = j.1 in
    let m = number_inv s 2 q hk in let m0 = m.0 in let m1 = m.1 in
    let q5 : at + 5 ≡ q = omega arith in
    let b5 : bytes_at 5 s at ≡ got (part s at 5) q = bytes_in s at 5 (omega arith) ∙ ap (λ (z : ℕ). got (part s at 5) z) q5 in
    let hm' : many [] ◌∷◌ k entry_at s r ≡ got es f = hm ∙ ap (λ (z : List Entry). got z e) ex ∙ ap (λ (z : ℕ). got es z) ef in
    let st = many_stays s [] ◌∷◌ entry_at (entry_stays s) k r es f (omega arith) hm' in
    let s0 = st.on in
    c n p k r hn (sym ef ∙ eqb-true e (at + n) w) (leb-true n max_image t) (behind_is 5 (number_at 2) s at b5 ∙ hk) (omega arith) hm'
    (record { on = omega arith; end = st.end })))))))))

-- a function record: its length and where its Id stands
pub function_parts : {C : Type 0} (s : List ℕ) (at : ℕ) {i : List ℕ} {f : ℕ} → function_at s at ≡ got i f
    → ((n q a : ℕ) → number_at 4 s at ≡ got n q → f ≡ at + n → behind 6 span_at s at ≡ got a f → i ≡ part s a (f - a) → Within s at f → C) → C
unfolding function_at
function_parts s at {i} {f} h c =
    after_elim (number_at 4 s at) _ h (λ n p hn h.
    after_elim (one_at s p) _ h (λ v q hv h.
    after_elim (one_at s q) _ h (λ w r hw h.
    after_elim (id_at s r) _ h (λ x e hx h.
    test_elim _ _ h (λ t h. got_elim h (λ ex ef.
    one_elim s p hv (λ hb _. one_elim s q hw (λ hd _.
    let hx' : id_at s r ≡ got i f = hx ∙ ap (λ (z : List ℕ). got z e) ex ∙ ap (λ (z : ℕ). got i z) ef in
    id_elim s r hx' (λ a hs ei _.
    let k = number_inv s 4 at hn in let k0 = k.0 in let k1 = k.1 in
    let j = byte_end s p hb in let j0 = j.0 in let j1 = j.1 in
    let m = byte_end s q hd in let m0 = m.0 in let m1 = m.1 in
    let r6 : at + 6 ≡ r = omega arith in
    let b6 : bytes_at 6 s at ≡ got (part s at 6) r = bytes_in s at 6 (omega arith) ∙ ap (λ (z : ℕ). got (part s at 6) z) r6 in
    let st = id_stays s r i f (omega arith) hx' in
    let s0 = st.on in
    c n p a hn (sym ef ∙ eqb-true e (at + n) t) (behind_is 6 span_at s at b6 ∙ hs) ei (record { on = omega arith; end = st.end }))))))))))

-- an item, by its mode
pub item_cases : {C : Type 0} (s : List ℕ) (at : ℕ) {x : Item} {f : ℕ} → item_at s at ≡ got x f
    → ((p : ℕ) (es : List Entry) → byte_at s at ≡ got 1 p → resource_at s p ≡ got es f → x ≡ Item.plain es → C)
    → ((p : ℕ) (es : List Entry) → byte_at s at ≡ got 2 p → resource_at s p ≡ got es f → x ≡ Item.overriding es → C)
    → ((p : ℕ) (i : List ℕ) → byte_at s at ≡ got 3 p → function_at s p ≡ got i f → x ≡ Item.function i → C) → C
unfolding item_at
item_cases s at h c d g =
    after_elim (byte_at s at) _ h (λ m p hb h.
    pick_elim _ _ _ h (λ t h. as_elim _ _ h (λ es q w. c p es (byte_tag hb t) q w)) (λ _ h.
    pick_elim _ _ _ h (λ t h. as_elim _ _ h (λ es q w. d p es (byte_tag hb t) q w)) (λ _ h.
    test_elim _ _ h (λ t h. as_elim _ _ h (λ i q w. g p i (byte_tag hb t) q w)))))

-- whatever it is: a mode byte and a record of a stated length
pub item_record : {C : Type 0} (s : List ℕ) (at : ℕ) {x : Item} {f : ℕ} → item_at s at ≡ got x f
    → ((m p n q : ℕ) → byte_at s at ≡ got m p → number_at 4 s p ≡ got n q → f ≡ p + n → Within s p f → C) → C
item_record s at h c =
    item_cases s at h
    (λ p es hb hr _. resource_parts s p hr (λ n q k r hn ef _ _ _ _ w. c 1 p n q hb hn ef w))
    (λ p es hb hr _. resource_parts s p hr (λ n q k r hn ef _ _ _ _ w. c 2 p n q hb hn ef w))
    (λ p i hb hr _. function_parts s p hr (λ n q a hn ef _ _ w. c 3 p n q hb hn ef w))

pub item_stays : (s : List ℕ) → Stays s item_at
item_stays s at x f l h = item_record s at h (λ m p n q hb hn ef w. further (byte_stays s at m p l hb) w)

-- a store: its used length, its count and its items
pub store_parts : {C : Type 0} (s : List ℕ) {st : Store} {u : ℕ} → store_of s ≡ got st u
    → ((k : ℕ) → number_at 4 s 0 ≡ got u 4 → u ≤ max_store → number_at 2 s 7 ≡ got k 9 → k ≤ max_items → many [] ◌∷◌ k item_at s 9 ≡ got st.items u → 9 ≤ u → u ≤ length s → C) → C
unfolding store_of locale_at
store_parts s {st} {u} h c =
    after_elim (number_at 4 s 0) _ h (λ n p hn h.
    test_elim _ _ h (λ t h.
    after_elim (one_at s p) _ h (λ v q hv h.
    after_elim (locale_at s q) _ h (λ lo r hl h.
    after_elim (flag_at s r) _ h (λ fl j hf h.
    after_elim (number_at 2 s j) _ h (λ k w hk h.
    test_elim _ _ h (λ t' h.
    after_elim (many [] ◌∷◌ k item_at s w) _ h (λ is e hm h.
    test_elim _ _ h (λ t'' h. got_elim h (λ ex ef.
    one_elim s p hv (λ hb _.
    after_elim (byte_at s q) _ hl (λ lb r' hlb hl. test_elim _ _ hl (λ _ hl. got_elim hl (λ _ er.
    let a = number_inv s 4 0 hn in let a0 = a.0 in let a1 = a.1 in
    let b = byte_end s p hb in let b0 = b.0 in let b1 = b.1 in
    let d = byte_end s q hlb in let d0 = d.0 in let d1 = d.1 in
    let g = flag_elim s r hf (λ hx _. byte_end s r hx) (λ hx _. byte_end s r hx) in let g0 = g.0 in let g1 = g.1 in
    let i = number_inv s 2 j hk in let i0 = i.0 in let i1 = i.1 in
    let p4 : p ≡ 4 = omega arith in
    let j7 : j ≡ 7 = omega arith in
    let w9 : w ≡ 9 = omega arith in
    let en : n ≡ u = sym (eqb-true e n t'') ∙ ef in
    let hm' : many [] ◌∷◌ k item_at s 9 ≡ got st.items u =
    subst (λ (z : ℕ). many [] ◌∷◌ k item_at s z ≡ got is e) w9 hm ∙ ap (λ (z : Store). got z.items e) ex ∙ ap (λ (z : ℕ). got st.items z) ef in
    let st' = many_stays s [] ◌∷◌ item_at (item_stays s) k 9 st.items u (omega arith) hm' in
    c k
    (hn ∙ ap (λ (z : ℕ). got z p) en ∙ ap (λ (z : ℕ). got u z) p4)
    (subst (λ (z : ℕ). z ≤ max_store) en (leb-true n max_store t))
    (subst (λ (z : ℕ). number_at 2 s z ≡ got k w) j7 hk ∙ ap (λ (z : ℕ). got k z) w9)
    (leb-true k max_items t')
    hm' st'.on st'.end))))))))))))))

-- a resource that is all of its slice
pub whole_resource : {C : Type 0} (s : List ℕ) {es : List Entry} {f : ℕ} → resource_of s ≡ got es f
    → ((k : ℕ) → number_at 2 s 5 ≡ got k 7 → many [] ◌∷◌ k entry_at s 7 ≡ got es f → f ≡ length s → f ≤ max_image → 7 ≤ f → C) → C
unfolding resource_of whole_of behind
whole_resource s {es} {f} h c =
    after_elim (resource_at s 0) _ h (λ l e hr h.
    test_elim _ _ h (λ t h. got_elim h (λ ex ef.
    let hr' : resource_at s 0 ≡ got es f = hr ∙ ap (λ (z : List Entry). got z e) ex ∙ ap (λ (z : ℕ). got es z) ef in
    resource_parts s 0 hr' (λ n q k r hn en le hk er hm w.
    after_elim (bytes_at 5 s 0) _ hk (λ bs i hb hk.
    let x = bytes_inv s 0 5 hb in let x2 = x.2 in
    let i5 : i ≡ 5 = omega arith in
    let r7 : r ≡ 7 = omega arith in
    let w2 = number_inv s 2 i hk in let w20 = w2.0 in
    let hm' : many [] ◌∷◌ k entry_at s 7 ≡ got es f = subst (λ (z : ℕ). many [] ◌∷◌ k entry_at s z ≡ got es f) r7 hm in
    let st = many_stays s [] ◌∷◌ entry_at (entry_stays s) k 7 es f (omega arith) hm' in
    c k (subst (λ (z : ℕ). number_at 2 s z ≡ got k r) i5 hk ∙ ap (λ (z : ℕ). got k z) r7) hm' (sym ef ∙ eqb-true e (length s) t)
    (omega arith) st.on)))))
