-- Bytes that stand at a position.
use mathlib.Core.Path.{◌≡◌, refl, ap, sym, subst, ◌∙◌}
use mathlib.Core.List.{List, [], ◌∷◌, ◌++◌, append_assoc}
use Prim.Native.Nat.{ℕ, zero, suc, ◌+◌, ◌-◌, ◌≤◌, ◌<◌}
use native.Mathlib.Omega.{arith}
use lib.ListN.{length, take, drop, get_or, length-drop, length-append, take-append-drop}
use lib.Seq.{drop-drop, take-append_seam, drop-append_seam, length-take-le, drop-cons}
use Rattle.records.specs.Bytes.{part}
use Rattle.layout.specs.Exact.{Stands, Octets}

pub octets_of : (s : List ℕ) → ((i : ℕ) → i < length s → get_or s i 0 < 256) → Octets s
octets_of [] h = tt
octets_of (x ∷ s) h = (h 0 (omega arith), octets_of s (λ i l. h (suc i) (omega arith)))

octets_drop : (n : ℕ) (s : List ℕ) → Octets s → Octets (drop n s)
octets_drop zero s h = h
octets_drop (suc n) [] h = tt
octets_drop (suc n) (x ∷ s) h = octets_drop n s h.1

octets_take : (n : ℕ) (s : List ℕ) → Octets s → Octets (take n s)
octets_take zero s h = tt
octets_take (suc n) [] h = tt
octets_take (suc n) (x ∷ s) h = (h.0, octets_take n s h.1)

pub octets_part : (s : List ℕ) (at n : ℕ) → Octets s → Octets (part s at n)
octets_part s at n h = octets_take n (drop at s) (octets_drop at s h)

pub length_part : (s : List ℕ) (at n : ℕ) → at + n ≤ length s → length (part s at n) ≡ n
length_part s at n h = length-take-le n (drop at s) (simp length-drop (omega arith))

pub append_nil : (a : List ℕ) → a ++ [] ≡ a
append_nil [] = refl
append_nil (x ∷ a) = ap (λ (w : List ℕ). x ∷ w) (append_nil a)

module _ {s : List ℕ} {at e : ℕ} {bs : List ℕ} where
  -- how many they are
  pub stands_length : Stands s at e bs → at + length bs ≡ e
  stands_length h =
      let o = h.on in
      let w = h.within in
      let l : length bs ≡ e - at = ap length (sym h.bytes) ∙ length_part s at (e - at) (omega arith) in
      omega arith

  -- what is there from at on
  pub stands_drop : Stands s at e bs → drop at s ≡ bs ++ drop e s
  stands_drop h =
      let o = h.on in
      let m : at + (e - at) ≡ e = omega arith in
      sym (take-append-drop (e - at) (drop at s)) ∙ ap (λ (l : List ℕ). l ++ drop (e - at) (drop at s)) h.bytes
      ∙ ap (λ (l : List ℕ). bs ++ l) (drop-drop (e - at) at s ∙ ap (λ (j : ℕ). drop j s) m)

pub stands_of : {s : List ℕ} {at : ℕ} (bs r : List ℕ) → at ≤ length s → drop at s ≡ bs ++ r → Stands s at (at + length bs) bs
stands_of {s} {at} bs r l h =
    let q : length s - at ≡ length bs + length r = sym (length-drop at s) ∙ ap length h ∙ length-append bs r in
    let m : at + length bs - at ≡ length bs = omega arith in
    record { on = omega arith; within = omega arith; bytes = ap (λ (j : ℕ). part s at j) m ∙ ap (take (length bs)) h ∙ take-append_seam bs r }

-- nothing stands everywhere
pub stands_none : (s : List ℕ) (at : ℕ) → at ≤ length s → Stands s at at []
stands_none s at l =
    let m : at - at ≡ 0 = omega arith in
    record { on = omega arith; within = l; bytes = ap (λ (j : ℕ). part s at j) m }

pub none_ends : {s : List ℕ} {at e : ℕ} → Stands s at e [] → at ≡ e
none_ends h = let l = stands_length h in omega arith

-- one after the other
pub join : {s x y : List ℕ} {a b c : ℕ} → Stands s a b x → Stands s b c y → Stands s a c (x ++ y)
join {s} {x} {y} {a} {b} {c} h k =
    let o = h.on in
    let p = k.on in
    let w = k.within in
    let d : drop a s ≡ (x ++ y) ++ drop c s = stands_drop h ∙ ap (λ (l : List ℕ). x ++ l) (stands_drop k) ∙ sym (append_assoc x y (drop c s)) in
    let m : a + length (x ++ y) ≡ c = rw length-append (omega (arith, stands_length h, stands_length k)) in
    subst (λ (j : ℕ). Stands s a j (x ++ y)) m (stands_of (x ++ y) _ (omega arith) d)

-- and back: where the first ends, the second starts
pub split : {s : List ℕ} (x : List ℕ) {y : List ℕ} {a c : ℕ} {Z : Type 0} → Stands s a c (x ++ y) → ((b : ℕ) → Stands s a b x → Stands s b c y → Z) → Z
split {s} x {y} {a} {c} h k =
    let o = h.on in
    let w = h.within in
    let d : drop a s ≡ x ++ (y ++ drop c s) = stands_drop h ∙ append_assoc x y (drop c s) in
    let f : Stands s a (a + length x) x = stands_of x _ (omega arith) d in
    let g : drop (a + length x) s ≡ y ++ drop c s = sym (drop-drop (length x) a s) ∙ ap (drop (length x)) d ∙ drop-append_seam x (y ++ drop c s) in
    let m : a + length x + length y ≡ c = omega (arith, stands_length h, length-append x y) in
    k (a + length x) f (subst (λ (j : ℕ). Stands s (a + length x) j y) m (stands_of y _ f.within g))

-- at the front of a list, and inside one
pub stands_front : (bs r : List ℕ) → Stands (bs ++ r) 0 (length bs) bs
stands_front bs r =
    let m : 0 + length bs ≡ length bs = omega arith in
    subst (λ (j : ℕ). Stands (bs ++ r) 0 j bs) m (stands_of bs r (omega arith) refl)

pub stands_inside : (pre bs r : List ℕ) → Stands (pre ++ (bs ++ r)) (length pre) (length pre + length bs) bs
stands_inside pre bs r = stands_of bs r (rw length-append (omega arith)) (drop-append_seam pre (bs ++ r))

-- a byte
pub stands_byte : (s : List ℕ) (at : ℕ) → at < length s → Stands s at (at + 1) (get_or s at 0 ∷ [])
stands_byte s at l = stands_of (get_or s at 0 ∷ []) _ (omega arith) (drop-cons s at 0 l)

pub byte_is : {s : List ℕ} {at e x : ℕ} {y : List ℕ} → Stands s at e (x ∷ y) → get_or s at 0 ≡ x
byte_is {s} {at} {e} {x} {y} h =
    let w = h.within in
    let l : at < length s = omega (arith, stands_length h) in
    let d : get_or s at 0 ∷ drop (suc at) s ≡ x ∷ (y ++ drop e s) = sym (drop-cons s at 0 l) ∙ stands_drop h in
    cc

pub bytes_are : {s : List ℕ} {at e : ℕ} {x y : List ℕ} → x ≡ y → Stands s at e x → Stands s at e y
bytes_are p h = record { on = h.on; within = h.within; bytes = h.bytes ∙ p }
