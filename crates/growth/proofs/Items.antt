-- Room for an item, the bytes of an item, and the counts over it.
use mathlib.Core.Path.{◌≡◌, refl, ap, sym, ◌∙◌}
use mathlib.Core.Bool.{Bool, true, false, ◌&&◌}
use mathlib.Core.List.{List, [], ◌∷◌, ◌++◌, append_assoc}
use Prim.Native.Nat.{ℕ, ◌+◌, ◌-◌, ◌≤◌, ◌<◌}
use native.Mathlib.Omega.{arith}
use lib.ListN.{length, set, take, drop, length-append, length-set, length-drop}
use lib.Seq.{length-take-le, take-append-le, drop-append-le, drop_at, take-append-add, drop-append-add, drop-drop, take-add, take-take}
use lib.Dec.{leb}
use borrow.Author.Tests.{le-leb, lt-leb, leb-true, ltb-true}
use Rattle.records.specs.Bytes.{part, to_be}
use Rattle.records.specs.Encode.{enc_str, enc_whole, enc_function}
use Rattle.records.specs.Images.{max_store, max_items}
use Rattle.buffers.specs.Relations.Append.{over}
use Rattle.records.specs.Relations.Write.{over_fit}
use Rattle.records.proofs.Writing.{fits_over, length_fit}
use Rattle.buffers.proofs.Place.{set_over, length_over, then_over, then_set}
use Rattle.texts.proofs.Recording.{length_u16, length_u32, length_str}
use Rattle.growth.specs.Items.{at_front, with_item, has_room, written_if, file_item}

-- room for an item
module _ (size used count n : ℕ) where
  and_left : (a b : Bool) → a && b ≡ true → a ≡ true
  and_left true b h = refl
  and_left false b h = let z : ◌≡◌ {A = ℕ} 0 1 = cc in absurd (omega arith)

  and_right : (a b : Bool) → a && b ≡ true → b ≡ true
  and_right true b h = h
  and_right false b h = let z : ◌≡◌ {A = ℕ} 0 1 = cc in absurd (omega arith)

  pub room_is : has_room size used count n ≡ true → (used + n ≤ size) × (used + n ≤ 1048576) × (count < 256)
  unfolding has_room max_store max_items
  room_is h =
      let r = and_right (leb (used + n) size) _ h in
      (leb-true (used + n) size (and_left (leb (used + n) size) _ h), leb-true (used + n) 1048576 (and_left (leb (used + n) 1048576) _ r), ltb-true count 256 (and_right (leb (used + n) 1048576) _ r))

  pub room_true : {r : Bool} → r ≡ has_room size used count n → r ≡ true → (used + n ≤ size) × (used + n ≤ 1048576) × (count < 256)
  room_true h k = room_is (sym h ∙ k)

-- the bytes of an item
pub resource_written : (d : List ℕ) (at mode : ℕ) (image : List ℕ) {e f : List ℕ} → at + (1 + length image) ≤ length d → e ≡ set d at mode → f ≡ over_fit e (at + 1) image → f ≡ over d at (mode ∷ image)
resource_written d at mode image {e} {f} h p q =
    let a : e ≡ over d at (mode ∷ []) = p ∙ set_over d at mode (omega arith) in
    let l : length e ≡ length d = ap length p ∙ length-set d at mode in
    q ∙ fits_over e (at + 1) image (omega arith) ∙ then_over d at (mode ∷ []) image a (omega arith) (omega arith)

-- a function record behind its mode
module _ (d : List ℕ) (at : ℕ) (id : List ℕ) (h : at + (9 + length id) ≤ length d) where
  function_is : ((((3 ∷ []) ++ to_be 4 (8 + length id)) ++ (1 ∷ [])) ++ (1 ∷ [])) ++ to_be 2 (length id) ++ id ≡ 3 ∷ enc_function id
  unfolding enc_function enc_whole enc_str to_be
  function_is =
      let e : 8 + length id ≡ 4 + length (1 ∷ 1 ∷ to_be 2 (length id) ++ id) = omega (arith, length-append (to_be 2 (length id)) id) in
      ap (λ (n : ℕ). 3 ∷ to_be 4 n ++ (1 ∷ 1 ∷ to_be 2 (length id) ++ id)) e

  pub function_written : {d1 d2 d3 d4 d5 d6 : List ℕ} → d1 ≡ set d at 3 → d2 ≡ over_fit d1 (at + 1) (to_be 4 (8 + length id)) → d3 ≡ set d2 (at + 5) 1 → d4 ≡ set d3 (at + 6) 1
      → d5 ≡ over_fit d4 (at + 7) (to_be 2 (length id)) → d6 ≡ over_fit d5 (at + 9) id → d6 ≡ over d at (3 ∷ enc_function id)
  function_written {d1} {d2} {d3} {d4} {d5} {d6} p1 p2 p3 p4 p5 p6 =
      let l4 = length_u32 (8 + length id) in
      let l2 = length_u16 (length id) in
      let x1 : d1 ≡ over d at (3 ∷ []) = p1 ∙ set_over d at 3 (omega arith) in
      let n1 : length d1 ≡ length d = ap length x1 ∙ length_over d at (3 ∷ []) (omega arith) in
      let a2 : List ℕ = (3 ∷ []) ++ to_be 4 (8 + length id) in
      let m2 : length a2 ≡ 5 = length-append (3 ∷ []) (to_be 4 (8 + length id)) ∙ omega arith in
      let x2 : d2 ≡ over d at a2 = p2 ∙ fits_over d1 (at + 1) (to_be 4 (8 + length id)) (omega arith) ∙ then_over d at (3 ∷ []) (to_be 4 (8 + length id)) x1 (omega arith) (omega arith) in
      let a3 : List ℕ = a2 ++ (1 ∷ []) in
      let m3 : length a3 ≡ 6 = length-append a2 (1 ∷ []) ∙ omega arith in
      let x3 : d3 ≡ over d at a3 = p3 ∙ then_set d at a2 1 x2 (omega arith) (omega arith) in
      let a4 : List ℕ = a3 ++ (1 ∷ []) in
      let m4 : length a4 ≡ 7 = length-append a3 (1 ∷ []) ∙ omega arith in
      let x4 : d4 ≡ over d at a4 = p4 ∙ then_set d at a3 1 x3 (omega arith) (omega arith) in
      let n4 : length d4 ≡ length d = ap length x4 ∙ length_over d at a4 (omega arith) in
      let a5 : List ℕ = a4 ++ to_be 2 (length id) in
      let m5 : length a5 ≡ 9 = length-append a4 (to_be 2 (length id)) ∙ omega arith in
      let x5 : d5 ≡ over d at a5 = p5 ∙ fits_over d4 (at + 7) (to_be 2 (length id)) (omega arith) ∙ then_over d at a4 (to_be 2 (length id)) x4 (omega arith) (omega arith) in
      let n5 : length d5 ≡ length d = ap length p5 ∙ length_fit d4 (at + 7) (to_be 2 (length id)) ∙ n4 in
      p6 ∙ fits_over d5 (at + 9) id (omega arith) ∙ then_over d at a5 id x5 (omega arith) (omega arith) ∙ ap (over d at) function_is

drop_part : (s : List ℕ) (a u : ℕ) → a ≤ u → u ≤ length s → drop a (take u s) ≡ take (u - a) (drop a s)
drop_part s a u h k =
    let e : u ≡ a + (u - a) = omega arith in
    ap (λ (n : ℕ). drop a (take n s)) e ∙ ap (drop a) (take-add a (u - a) s) ∙ drop_at (take a s) (take (u - a) (drop a s)) a (length-take-le a s (omega arith))

pub over_front : (x b : List ℕ) (n : ℕ) → length b ≡ n → over x 0 b ≡ b ++ drop n x
unfolding over
over_front x b n e = let k : 0 + length b ≡ n = omega arith in ap (λ (j : ℕ). b ++ drop j x) k

pub over_is : (x : List ℕ) (k : ℕ) (b : List ℕ) → over x k b ≡ take k x ++ (b ++ drop (k + length b) x)
unfolding over
over_is x k b = append_assoc (take k x) b (drop (k + length b) x)

-- the header of a store, over its used length and its item count
module _ (s : List ℕ) (used count : ℕ) (item : List ℕ) (lo : 9 ≤ used) (fits : used + length item ≤ length s) where
  rest : List ℕ
  rest = item ++ drop (used + length item) s

  whole_is : over s used item ≡ take used s ++ rest
  unfolding over rest
  whole_is = append_assoc (take used s) item (drop (used + length item) s)

  whole_drop : (a : ℕ) → a ≤ used → drop a (over s used item) ≡ take (used - a) (drop a s) ++ rest
  whole_drop a h =
      let f = length-take-le used s (omega arith) in
      ap (drop a) whole_is ∙ drop-append-le a (take used s) rest (omega arith) ∙ ap (λ (l : List ℕ). l ++ rest) (drop_part s a used h (omega arith))

  whole_middle : take 3 (drop 4 (over s used item)) ≡ part s 4 3
  whole_middle =
      let l : length (take (used - 4) (drop 4 s)) ≡ used - 4 = length-take-le (used - 4) (drop 4 s) (omega (arith, length-drop 4 s)) in
      ap (take 3) (whole_drop 4 (omega arith)) ∙ take-append-le 3 (take (used - 4) (drop 4 s)) rest (omega arith) ∙ take-take 3 (used - 4) (drop 4 s) (omega arith)

  item_end : with_item s used count item ≡ (to_be 4 (used + length item) ++ (part s 4 3 ++ (to_be 2 (count + 1) ++ (part s 9 (used - 9) ++ item)))) ++ drop (used + length item) s
  unfolding with_item at_front
  item_end =
      let R : List ℕ = part s 9 (used - 9) in
      let lA : length (to_be 4 (used + length item)) ≡ 4 = length_u32 (used + length item) in
      let lB : length (to_be 2 (count + 1)) ≡ 2 = length_u16 (count + 1) in
      let lM : length (part s 4 3) ≡ 3 = length-take-le 3 (drop 4 s) (omega (arith, length-drop 4 s)) in
      let lR : length R ≡ used - 9 = length-take-le (used - 9) (drop 9 s) (omega (arith, length-drop 9 s)) in
      let e1 : length (R ++ item) ≡ length R + length item = length-append R item in
      let e2 : length (to_be 2 (count + 1) ++ (R ++ item)) ≡ length (to_be 2 (count + 1)) + length (R ++ item) = length-append (to_be 2 (count + 1)) (R ++ item) in
      let e3 : length (part s 4 3 ++ (to_be 2 (count + 1) ++ (R ++ item))) ≡ length (part s 4 3) + length (to_be 2 (count + 1) ++ (R ++ item)) = length-append (part s 4 3) (to_be 2 (count + 1) ++ (R ++ item)) in
      let e4 : length (to_be 4 (used + length item) ++ (part s 4 3 ++ (to_be 2 (count + 1) ++ (R ++ item)))) ≡ used + length item = length-append (to_be 4 (used + length item)) (part s 4 3 ++ (to_be 2 (count + 1) ++ (R ++ item))) ∙ omega arith in
      ap (λ (n : ℕ). (to_be 4 (used + length item) ++ (part s 4 3 ++ (to_be 2 (count + 1) ++ (R ++ item)))) ++ drop n s) e4

  regroup : (a m b r i t : List ℕ) → (a ++ m) ++ (b ++ (r ++ (i ++ t))) ≡ (a ++ (m ++ (b ++ (r ++ i)))) ++ t
  regroup a m b r i t = simp append_assoc

  pub counts_written : {a b : List ℕ} → a ≡ over (over s used item) 0 (to_be 4 (used + length item)) → b ≡ over a 7 (to_be 2 (count + 1)) → b ≡ with_item s used count item
  unfolding rest
  counts_written {a} {b} p q =
      let A : List ℕ = to_be 4 (used + length item) in
      let B : List ℕ = to_be 2 (count + 1) in
      let lA : length A ≡ 4 = length_u32 (used + length item) in
      let lB : length B ≡ 2 = length_u16 (count + 1) in
      let X : List ℕ = over s used item in
      let ea : a ≡ A ++ drop 4 X = p ∙ over_front X A 4 lA in
      let e7 : 7 ≡ length A + 3 = omega arith in
      let e9 : 7 + length B ≡ length A + 5 = omega arith in
      let e45 : 4 + 5 ≡ 9 = refl in
      let t7 : take 7 a ≡ A ++ part s 4 3 = ap (take 7) ea ∙ ap (λ (n : ℕ). take n (A ++ drop 4 X)) e7 ∙ take-append-add A (drop 4 X) 3 ∙ ap (λ (l : List ℕ). A ++ l) whole_middle in
      let d9 : drop (7 + length B) a ≡ part s 9 (used - 9) ++ rest =
      ap (drop (7 + length B)) ea ∙ ap (λ (n : ℕ). drop n (A ++ drop 4 X)) e9 ∙ drop-append-add A (drop 4 X) 5 ∙ drop-drop 5 4 X ∙ whole_drop 9 (omega arith) in
      let last : (A ++ part s 4 3) ++ (B ++ (part s 9 (used - 9) ++ rest)) ≡ (A ++ (part s 4 3 ++ (B ++ (part s 9 (used - 9) ++ item)))) ++ drop (used + length item) s = regroup A (part s 4 3) B (part s 9 (used - 9)) item (drop (used + length item) s) in
      q ∙ over_is a 7 B ∙ ap (λ (l : List ℕ). l ++ (B ++ drop (7 + length B) a)) t7 ∙ ap (λ (l : List ℕ). (A ++ part s 4 3) ++ (B ++ l)) d9 ∙ last ∙ sym item_end

-- what the code's answer on room says
module _ (size used count n : ℕ) {r : Bool} where
  pub no_room : {k : ℕ} → count ≡ k → r ≡ has_room size used count n → r ≡ false → has_room size used k n ≡ false
  no_room e h t = ap (λ (j : ℕ). has_room size used j n) (sym e) ∙ sym h ∙ t

  pub has_room_is : {k : ℕ} → count ≡ k → r ≡ has_room size used count n → r ≡ true → has_room size used k n ≡ true
  has_room_is e h t = ap (λ (j : ℕ). has_room size used j n) (sym e) ∙ sym h ∙ t

-- an item that is filed, or not
module _ (s : List ℕ) (used count : ℕ) (item : List ℕ) where
  pub filed_low : used < 9 → s ≡ file_item s used count item
  unfolding file_item written_if
  filed_low h = rw (lt-leb 9 used h)

  and_false : (a : Bool) → a && false ≡ false
  and_false true = refl
  and_false false = refl

  pub filed_not : {n : ℕ} {r : Bool} → length item ≡ n → r ≡ has_room (length s) used count n → r ≡ false → s ≡ file_item s used count item
  unfolding file_item written_if
  filed_not {n} {r} e h k = rw (e, sym h ∙ k, and_false (leb 9 used))

  pub filed_is : {n : ℕ} → 9 ≤ used → length item ≡ n → has_room (length s) used count n ≡ true → file_item s used count item ≡ with_item s used count item
  unfolding file_item written_if
  filed_is h e k = rw (le-leb 9 used h, e, k)

-- an item, and the counts over it
pub item_put : (s : List ℕ) (used count : ℕ) (item : List ℕ) {k w : ℕ} {a b : List ℕ} → 9 ≤ used → used + length item ≤ length s → count ≡ k → w ≡ used + length item
    → a ≡ over s used item → b ≡ over (over a 0 (to_be 4 w)) 7 (to_be 2 (count + 1)) → b ≡ with_item s used k item
item_put s used count item {k} {w} {a} {b} lo fits e ew p q =
    counts_written s used count item lo fits refl (q ∙ ap (λ (t : List ℕ). over (over t 0 (to_be 4 w)) 7 (to_be 2 (count + 1))) p ∙ ap (λ (z : ℕ). over (over (over s used item) 0 (to_be 4 z)) 7 (to_be 2 (count + 1))) ew)
    ∙ ap (λ (j : ℕ). with_item s used j item) e

pub function_length : (id : List ℕ) → length (3 ∷ enc_function id) ≡ 9 + length id
unfolding enc_function enc_whole
function_length id =
    let a = length_str id in
    let b = length-append (to_be 4 (4 + length (1 ∷ 1 ∷ enc_str id))) (1 ∷ 1 ∷ enc_str id) in
    let c = length_u32 (4 + length (1 ∷ 1 ∷ enc_str id)) in
    omega arith

-- the same, where the code finds room
pub item_filed : (s : List ℕ) (used count : ℕ) (item : List ℕ) (n : ℕ) {r : Bool} {a b : List ℕ} → length item ≡ n → 9 ≤ used → r ≡ has_room (length s) used count n → r ≡ true
    → a ≡ over s used item → b ≡ over (over a 0 (to_be 4 (used + n))) 7 (to_be 2 (count + 1)) → b ≡ file_item s used count item
item_filed s used count item n e lo h k p q =
    let f = room_true (length s) used count n h k in
    item_put s used count item {k = count} lo (omega arith) refl (omega arith) p q ∙ sym (filed_is s used count item lo e (sym h ∙ k))

-- the used length and the count, each over the bytes that stood there
pub counts_over : (d : List ℕ) (used count : ℕ) {a b : List ℕ} → 9 ≤ length d → a ≡ over_fit d 0 (to_be 4 used) → b ≡ over_fit a 7 (to_be 2 count) → b ≡ over (over d 0 (to_be 4 used)) 7 (to_be 2 count)
counts_over d used count {a} {b} h p q =
    let l4 = length_u32 used in
    let l2 = length_u16 count in
    let x : a ≡ over d 0 (to_be 4 used) = p ∙ fits_over d 0 (to_be 4 used) (omega arith) in
    let l : length a ≡ length d = ap length x ∙ length_over d 0 (to_be 4 used) (omega arith) in
    q ∙ fits_over a 7 (to_be 2 count) (omega arith) ∙ ap (λ (t : List ℕ). over t 7 (to_be 2 count)) x

-- writing keeps the length
pub written_length : (d : List ℕ) (p x i : ℕ) (vs : List ℕ) {e : List ℕ} → e ≡ over_fit (set d p x) i vs → length e ≡ length d
written_length d p x i vs h = ap length h ∙ length_fit (set d p x) i vs ∙ length-set d p x

pub resource_length : (d : List ℕ) (at mode : ℕ) (image : List ℕ) {f : List ℕ} → at + (1 + length image) ≤ length d → f ≡ over d at (mode ∷ image) → length f ≡ length d
resource_length d at mode image h p = ap length p ∙ length_over d at (mode ∷ image) (omega arith)

pub function_put_length : (d : List ℕ) (at : ℕ) (id : List ℕ) {f : List ℕ} → at + (9 + length id) ≤ length d → f ≡ over d at (3 ∷ enc_function id) → length f ≡ length d
function_put_length d at id h p = let z = function_length id in ap length p ∙ length_over d at (3 ∷ enc_function id) (omega arith)

pub short_written : (n : ℕ) (s t : List ℕ) {r : List ℕ} → n ≤ 255 → r ≡ t → r ≡ written_if (leb n 255) s t
unfolding written_if
short_written n s t h e = rw (le-leb n 255 h) e

pub long_not : (n : ℕ) (s t : List ℕ) → 255 < n → s ≡ written_if (leb n 255) s t
unfolding written_if
long_not n s t h = rw (lt-leb n 255 h)
