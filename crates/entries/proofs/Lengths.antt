-- How long an entry and its Id are, in bytes.
use mathlib.Core.Path.{◌≡◌, ap}
use mathlib.Core.Bool.{Bool, true, false, ◌&&◌}
use mathlib.Core.List.{List, [], ◌∷◌}
use mathlib.Core.Option.{Option}
use Prim.Native.Nat.{ℕ, ◌+◌, ◌-◌, ◌≤◌, ◌<◌}
use native.Mathlib.Omega.{arith}
use lib.ListN.{length, get_or, drop, length-take, length-drop}
use lib.Dec.{eqb, leb}
use borrow.Author.Tests.{leb-true}
use Rattle.records.specs.Got.{got}
use Rattle.records.specs.Bytes.{part, bytes_at, number_at, span_at}
use Rattle.decimals.specs.Bytes.{run}
use Rattle.rules.specs.Rules.{is_id, id_step}
use Rattle.records.specs.Decode.{optional_at, entry_pattern_at}
use Rattle.records.specs.Images.{Entry, attributes_at, entry_at}
use Rattle.records.proofs.Laws.{after_elim, got_elim, bytes_inv, number2, number_inv}
use Rattle.records.proofs.Views.{both, optional_elim, attributes_elim, entry_elim, id_elim}
use Rattle.entries.specs.Outline.{behind}
use Rattle.entries.proofs.Inside.{entry_pattern_stays, many_stays, attribute_stays}
use Rattle.entries.proofs.Open.{byte_end, entry_parts}

-- numbers of two bytes
pub u16_small : (s : List ℕ) (at : ℕ) {n e : ℕ} → ((i : ℕ) → get_or s i 0 < 256) → number_at 2 s at ≡ got n e → n < 65536
u16_small s at {n} {e} b h =
    let i = number_inv s 2 at h in let i0 = i.0 in
    both (number2 s at i0) h (λ en _. let x = b at in let y = b (at + 1) in omega arith)

pub id_small : (s : List ℕ) (at : ℕ) {a e : ℕ} → ((i : ℕ) → get_or s i 0 < 256) → behind 1 span_at s at ≡ got a e → e - a < 65536
unfolding behind span_at
id_small s at {a} {e} b h =
    after_elim (bytes_at 1 s at) _ h (λ bs i _ h.
    after_elim (number_at 2 s i) _ h (λ n p hn h.
    after_elim (bytes_at n s p) _ h (λ bs' j hb h.
    got_elim h (λ ea ee.
    let w = bytes_inv s p n hb in let w2 = w.2 in
    let x = u16_small s i b hn in
    omega arith))))

-- where an Id stands
id_place : (s : List ℕ) (at : ℕ) {a e : ℕ} → behind 1 span_at s at ≡ got a e → (a ≡ at + 3) × (a ≤ e) × (e ≤ length s)
unfolding behind span_at
id_place s at {a} {e} h =
    after_elim (bytes_at 1 s at) _ h (λ bs i hb h.
    after_elim (number_at 2 s i) _ h (λ n p hn h.
    after_elim (bytes_at n s p) _ h (λ bs' j hj h.
    got_elim h (λ ea ee.
    let u = bytes_inv s at 1 hb in let u2 = u.2 in
    let v = number_inv s 2 i hn in let v1 = v.1 in
    let w = bytes_inv s p n hj in let w0 = w.0 in let w2 = w.2 in
    (omega arith, omega arith, omega arith)))))

pub id_length : (s : List ℕ) (at : ℕ) {a e : ℕ} {x : Entry} {f : ℕ} → behind 1 span_at s at ≡ got a e → entry_at s at ≡ got x f → length x.id ≡ e - a
id_length s at {a} {e} {x} h hx =
    entry_parts s at hx (λ a' e' _ hi ei _ _. both h hi (λ ea ee.
    let w = id_place s at hi in let w1 = w.1 in let w2 = w.2 in
    let t = length-take (e' - a') (drop a' s) in
    let d = length-drop a' s in
    let l : length x.id ≡ length (part s a' (e' - a')) = ap length ei in
    omega arith))

value_size : (s : List ℕ) (at : ℕ) {v : Option _} {e : ℕ} → at ≤ length s → optional_at entry_pattern_at s at ≡ got v e → (at + 1 ≤ e) × (e ≤ length s)
value_size s at {v} {e} l h =
    optional_elim entry_pattern_at s at h (λ hb _. let w = byte_end s at hb in let w0 = w.0 in let w1 = w.1 in (omega arith, omega arith))
    (λ i a hb ha _.
    let w = byte_end s at hb in let w0 = w.0 in let w1 = w.1 in
    let st = entry_pattern_stays s i a e (omega arith) ha in let s0 = st.on in let s1 = st.end in
    (omega arith, omega arith))

attributes_size : (s : List ℕ) (at : ℕ) {v : List _} {e : ℕ} → attributes_at s at ≡ got v e → (at + 2 ≤ e) × (e ≤ length s)
attributes_size s at {v} {e} h =
    attributes_elim s at h (λ k p hk hm.
    let w = number_inv s 2 at hk in let w0 = w.0 in let w1 = w.1 in
    let st = many_stays s [] ◌∷◌ _ (attribute_stays s) k p v e (omega arith) hm in let s0 = st.on in let s1 = st.end in
    (omega arith, omega arith))

-- an entry is at least as long as its record
pub entry_size : (s : List ℕ) (at : ℕ) {x : Entry} {e : ℕ} → entry_at s at ≡ got x e → (at + (6 + length x.id) ≤ e) × (e ≤ length s)
entry_size s at {x} {e} h =
    entry_parts s at h (λ a i r hi ei hv ha.
    let w = id_place s at hi in let w0 = w.0 in let w1 = w.1 in let w2 = w.2 in
    let l = id_length s at hi h in
    let v = value_size s i w2 hv in let v0 = v.0 in
    let t = attributes_size s r ha in let t0 = t.0 in let t1 = t.1 in
    (omega arith, omega arith))

-- an entry takes at least a byte
pub entry_on : (s : List ℕ) (at : ℕ) {x : Entry} {e : ℕ} → entry_at s at ≡ got x e → at < e
entry_on s at h = let z = entry_size s at h in let z0 = z.0 in omega arith

-- an Id is short
and_right : (a b : Bool) → a && b ≡ true → b ≡ true
and_right true b h = h
and_right false b h = let z : ◌≡◌ {A = ℕ} 0 1 = cc in absurd (omega arith)

pub short_id : (t : List ℕ) → is_id t ≡ true → length t ≤ 255
unfolding is_id
short_id t h = leb-true (length t) 255 (and_right (eqb (run id_step 0 t) 1) (leb (length t) 255) h)

pub id_short : (s : List ℕ) (at : ℕ) {x : Entry} {f : ℕ} → entry_at s at ≡ got x f → length x.id ≤ 255
id_short s at {x} h = entry_elim s at h (λ p q r _ hn _ _ _. id_elim s p hn (λ a _ _ ok. short_id x.id ok))
