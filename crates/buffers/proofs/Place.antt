-- Laws of bytes written over a buffer.
use mathlib.Core.Path.{◌≡◌, refl, ap, sym, subst, ◌∙◌}
use mathlib.Core.List.{List, [], ◌∷◌, ◌++◌, append_assoc}
use mathlib.Core.Bool.{Bool, true, false}
use Prim.Native.Nat.{ℕ, ◌+◌, ◌-◌, ◌≤◌, ◌<◌}
use native.Mathlib.Omega.{arith}
use native.Mathlib.Numerals.{add-one, add-two, add-three}
use lib.ListN.{length, take, drop, set, length-append, length-take, length-drop}
use lib.Seq.{paste, sets, sets-eq, take-length, take_at, drop_at, drop-drop, take-take, paste-zero, length-take-le}
use borrow.Author.Tests.{le-leb, lt-leb, leb-true, leb-false}
use Rattle.records.specs.Bytes.{part}
use Rattle.buffers.specs.Relations.Append.{over, attempt, appended, moved_back, Keeps, Wrote, full}
use Rattle.std.specs.Prelude.{Ok}

module _ (d : List ℕ) (at : ℕ) where
  pub over_none : over d at [] ≡ d
  unfolding over
  over_none = sym (paste-zero d at [])

  -- the library's two ways to write
  pub paste_over : (bs : List ℕ) → paste d at bs (length bs) ≡ over d at bs
  unfolding over
  paste_over bs = rw (take-length bs)

  pub sets_over : (bs : List ℕ) → at + length bs ≤ length d → sets d at bs ≡ over d at bs
  unfolding over
  sets_over bs h = sets-eq bs d at h

  pub set_over : (x : ℕ) → at < length d → set d at x ≡ over d at (x ∷ [])
  set_over x h = sets_over (x ∷ []) (omega arith)

  -- the front with what was written
  pub length_head : (bs : List ℕ) → at ≤ length d → length (take at d ++ bs) ≡ at + length bs
  length_head bs h = length-append (take at d) bs ∙ ap (λ (k : ℕ). k + length bs) (length-take-le at d h)

  pub length_over : (bs : List ℕ) → at + length bs ≤ length d → length (over d at bs) ≡ length d
  unfolding over
  length_over bs h =
      let e : length (take at d ++ bs ++ drop (at + length bs) d) ≡ length (take at d ++ bs) + length (drop (at + length bs) d) = length-append (take at d ++ bs) (drop (at + length bs) d) in
      let f = length_head bs (omega arith) in
      let g = length-drop (at + length bs) d in
      omega arith

  pub take_over : (bs : List ℕ) → at ≤ length d → take (at + length bs) (over d at bs) ≡ take at d ++ bs
  unfolding over
  take_over bs h = take_at (take at d ++ bs) (drop (at + length bs) d) (at + length bs) (length_head bs h)

  pub drop_over : (bs : List ℕ) → at ≤ length d → drop (at + length bs) (over d at bs) ≡ drop (at + length bs) d
  unfolding over
  drop_over bs h = drop_at (take at d ++ bs) (drop (at + length bs) d) (at + length bs) (length_head bs h)

  pub front_over : (bs : List ℕ) → at ≤ length d → take at (over d at bs) ≡ take at d
  unfolding over
  front_over bs h = rw append_assoc (take_at (take at d) (bs ++ drop (at + length bs) d) at (length-take-le at d h))

  pub part_over : (bs : List ℕ) → at ≤ length d → part (over d at bs) at (length bs) ≡ bs
  unfolding over
  part_over bs h =
      let e : drop at (take at d ++ bs ++ drop (at + length bs) d) ≡ bs ++ drop (at + length bs) d = rw append_assoc (drop_at (take at d) (bs ++ drop (at + length bs) d) at (length-take-le at d h)) in
      rw e (take_at bs (drop (at + length bs) d) (length bs) refl)

-- two writes, one after the other, are one
module _ (d : List ℕ) (at : ℕ) (a : List ℕ) where
  pub over_over : (b : List ℕ) → at + (length a + length b) ≤ length d → over (over d at a) (at + length a) b ≡ over d at (a ++ b)
  unfolding over
  over_over b h =
      let t : take (at + length a) (take at d ++ a ++ drop (at + length a) d) ≡ take at d ++ a = take_over d at a (omega arith) in
      let u : drop (at + length a) (take at d ++ a ++ drop (at + length a) d) ≡ drop (at + length a) d = drop_over d at a (omega arith) in
      let v : drop (at + length a + length b) (take at d ++ a ++ drop (at + length a) d) ≡ drop (at + length a + length b) d = sym (drop-drop (length b) (at + length a) _) ∙ ap (drop (length b)) u ∙ drop-drop (length b) (at + length a) d in
      let l : at + length a + length b ≡ at + length (a ++ b) = omega (arith, length-append a b) in
      rw (t, v, l) (ap (λ (x : List ℕ). x ++ drop (at + length (a ++ b)) d) (append_assoc (take at d) a b))

  pub then_over : (b : List ℕ) {e : List ℕ} {p : ℕ} → e ≡ over d at a → p ≡ at + length a → at + (length a + length b) ≤ length d → over e p b ≡ over d at (a ++ b)
  then_over b h q f = rw (h, q) (over_over b f)

  pub then_set : (x : ℕ) {e : List ℕ} {p : ℕ} → e ≡ over d at a → p ≡ at + length a → at + (length a + 1) ≤ length d → set e p x ≡ over d at (a ++ (x ∷ []))
  then_set x {e} {p} h q f =
      let l = length_over d at a (omega arith) in
      let i : at + length a < length (over d at a) = omega arith in
      rw (h, q, set_over (over d at a) (at + length a) x i) (over_over (x ∷ []) f)

-- an attempt that succeeds, and one that does not
module _ (d : List ℕ) (at : ℕ) (bs : List ℕ) where
  pub appended_fits : {e : List ℕ} {p : ℕ} → at + length bs ≤ length d → p ≡ at + length bs → e ≡ over d at bs → (Ok p, e) ≡ appended d at bs
  unfolding appended attempt
  appended_fits h q g = rw (le-leb _ _ h, q, g)

  pub appended_full : length d < at + length bs → (full, d) ≡ appended d at bs
  unfolding appended attempt
  appended_full h = rw (lt-leb _ _ h)

-- no bytes always fit, and change nothing
pub appended_none : (d : List ℕ) (at : ℕ) → at ≤ length d → appended d at [] ≡ (Ok at, d)
appended_none d at h = sym (appended_fits d at [] (omega arith) (omega arith) (sym (over_none d at)))

-- what the answer says
module _ (d : List ℕ) (at : ℕ) (bs : List ℕ) {r : Wrote} {e : List ℕ} where
  pub attempt_at : (t : Bool) {p : ℕ} → (r, e) ≡ attempt t d at bs → r ≡ Ok p → (t ≡ true) × (p ≡ at + length bs) × (e ≡ over d at bs)
  unfolding attempt
  attempt_at true {p} h q =
      let a : r ≡ Ok (at + length bs) = ap (λ (x : Wrote × List ℕ). x.0) h in
      (refl, (cc), ap (λ (x : Wrote × List ℕ). x.1) h)
  attempt_at false h q =
      let a : r ≡ full = ap (λ (x : Wrote × List ℕ). x.0) h in
      let z : ◌≡◌ {A = ℕ} 0 1 = cc in
      absurd (omega arith)

  pub attempt_no : (t : Bool) → (r, e) ≡ attempt t d at bs → r ≡ full → (t ≡ false) × (e ≡ d)
  unfolding attempt
  attempt_no true h q =
      let a : r ≡ Ok (at + length bs) = ap (λ (x : Wrote × List ℕ). x.0) h in
      let z : ◌≡◌ {A = ℕ} 0 1 = cc in
      absurd (omega arith)
  attempt_no false h q = (refl, ap (λ (x : Wrote × List ℕ). x.1) h)

  pub appended_at : {p : ℕ} → (r, e) ≡ appended d at bs → r ≡ Ok p → (at + length bs ≤ length d) × (p ≡ at + length bs) × (e ≡ over d at bs)
  unfolding appended
  appended_at h q = let w = attempt_at _ h q in (leb-true _ _ w.0, w.1, w.2)

  pub appended_no : (r, e) ≡ appended d at bs → r ≡ full → (length d < at + length bs) × (e ≡ d)
  unfolding appended
  appended_no h q = let w = attempt_no _ h q in (leb-false _ _ w.0, w.1)

-- bytes stored one by one
module _ (d : List ℕ) (at a b : ℕ) where
  pub store_2 : at + 2 ≤ length d → set (set d at a) (at + 1) b ≡ over d at (a ∷ b ∷ [])
  store_2 h = rw add-one (sets_over d at (a ∷ b ∷ []) h)

  pub store_3 : (c : ℕ) → at + 3 ≤ length d → set (set (set d at a) (at + 1) b) (at + 2) c ≡ over d at (a ∷ b ∷ c ∷ [])
  store_3 c h = rw (add-one, add-two) (sets_over d at (a ∷ b ∷ c ∷ []) h)

  pub store_4 : (c e : ℕ) → at + 4 ≤ length d → set (set (set (set d at a) (at + 1) b) (at + 2) c) (at + 3) e ≡ over d at (a ∷ b ∷ c ∷ e ∷ [])
  store_4 c e h = rw (add-one, add-two, add-three) (sets_over d at (a ∷ b ∷ c ∷ e ∷ []) h)

module _ (w : List ℕ) (from n to : ℕ) where
  pub moved_back_law : from ≤ to → to + n ≤ length w → moved_back w from n to ≡ over w to (part w from n)
  unfolding moved_back
  moved_back_law h g = rw (le-leb _ _ h, le-leb _ _ g)

  -- the library's move
  pub moved_paste : from ≤ to → to + n ≤ length w → paste w to (drop from w) (from + n - from) ≡ moved_back w from n to
  unfolding over
  moved_paste h g =
      let k : from + n - from ≡ n = omega arith in
      let l : length (part w from n) ≡ n = simp (length-take, length-drop) (omega arith) in
      let e : to + n ≡ to + length (part w from n) = omega arith in
      rw (k, e) (sym (moved_back_law h g))

  pub not_moved : to < from → moved_back w from n to ≡ w
  unfolding moved_back
  not_moved h = rw (lt-leb _ _ h)

  pub not_inside : from ≤ to → length w < to + n → moved_back w from n to ≡ w
  unfolding moved_back
  not_inside h g = rw (le-leb _ _ h, lt-leb _ _ g)

  -- what a move keeps, and what it moves
  pub moved_keeps : from ≤ to → to + n ≤ length w → Keeps w from to n (moved_back w from n to)
  moved_keeps h g =
      let l : length (part w from n) ≡ n = simp (length-take, length-drop) (omega arith) in
      let a : moved_back w from n to ≡ over w to (part w from n) = moved_back_law h g in
      let b : to + length (part w from n) ≡ to + n = omega arith in
      record {
        size = ap length a ∙ length_over w to (part w from n) (omega arith);
        front = ap (take from) a ∙ sym (take-take from to (over w to (part w from n)) h) ∙ ap (take from) (front_over w to (part w from n) (omega arith)) ∙ take-take from to w h;
        moved = rw a (subst (λ (k : ℕ). part (over w to (part w from n)) to k ≡ part w from n) l (part_over w to (part w from n) (omega arith)));
        rest = rw a (subst (λ (k : ℕ). drop k (over w to (part w from n)) ≡ drop k w) b (drop_over w to (part w from n) (omega arith)));
      }
