-- Names and values sorted by name, each value in its least form: the list that an image of them holds.
use mathlib.Core.Path.{◌≡◌, refl, ap}
use mathlib.Core.List.{List, [], ◌∷◌}
use mathlib.Core.Bool.{Bool, true, false}
use mathlib.Core.Logic.{◌⊎◌, inl, inr}
use Prim.Native.Nat.{ℕ, ◌+◌}
use native.Mathlib.Omega.{arith}
use lib.ListN.{length, length-append}
use Rattle.records.specs.Images.{Argument}
use Rattle.records.specs.Encode.{enc_str, enc_all, enc_argument, enc_named_argument}
use Rattle.records.specs.Valid.{All, ValidNamedArgument}
use Rattle.order.specs.Order.{before}
use Rattle.order.specs.Accepted.{leads, ascending, is_least, all_least, in_order}
use Rattle.order.specs.Sameness.{In, here, there, Once}
use Rattle.order.proofs.Before.{before_same}
use Rattle.order.proofs.Ascending.{in_cases, in_none}
use Rattle.order.proofs.Least.{least_of, least_least, least_valid, least_length}
use Rattle.decimals.proofs.Tests.{and_true}

-- the first of two lists, or the second
choice : Bool → List (List ℕ × Argument) → List (List ℕ × Argument) → List (List ℕ × Argument)
choice true l k = l
choice false l k = k

-- a name and a value put before the first name that its own is before
placed : List ℕ × Argument → List (List ℕ × Argument) → List (List ℕ × Argument)
placed a [] = a ∷ []
placed a (b ∷ l) = choice (before a.0 b.0) (a ∷ b ∷ l) (b ∷ placed a l)

-- a name with the least form of its value
least_named : List ℕ × Argument → List ℕ × Argument
least_named a = (a.0, least_of a.1)

-- all of them, sorted, each value in its least form
pub sorted : List (List ℕ × Argument) → List (List ℕ × Argument)
sorted [] = []
sorted (a ∷ l) = placed (least_named a) (sorted l)

-- == What holds of a placed one, whichever place it takes

-- a relation that holds between each list and the same with a first before it, and stays where both get the same first, holds between a list and the
-- same with one placed in it
module _ (a : List ℕ × Argument) (P : List (List ℕ × Argument) → List (List ℕ × Argument) → Type 0)
    (now : (l : List (List ℕ × Argument)) → P l (a ∷ l))
    (later : (b : List ℕ × Argument) (l k : List (List ℕ × Argument)) → P l k → P (b ∷ l) (b ∷ k)) where
  placed_any : (l : List (List ℕ × Argument)) → P l (placed a l)
  unfolding placed choice
  placed_any [] = now []
  placed_any (b ∷ l) = go (before a.0 b.0) (placed_any l)
    where
      go : (t : Bool) → P l (placed a l) → P (b ∷ l) (choice t (a ∷ b ∷ l) (b ∷ placed a l))
      go true h = now (b ∷ l)
      go false h = later b l (placed a l) h

module _ (a : List ℕ × Argument) where
  -- the placed one is among them
  placed_in : (l : List (List ℕ × Argument)) → In a (placed a l)
  placed_in = placed_any a (λ l k. In a k) (λ l. here) (λ b l k h. there h)

  -- and so are the others
  placed_keeps : (c : List ℕ × Argument) (l : List (List ℕ × Argument)) → In c l → In c (placed a l)
  placed_keeps c = placed_any a (λ l k. In c l → In c k) (λ l i. there i) (λ b l k h i. go b l k h (in_cases i))
    where
      go : (b : List ℕ × Argument) (l k : List (List ℕ × Argument)) → (In c l → In c k) → (c ≡ b) ⊎ In c l → In c (b ∷ k)
      go b l k h (inl e) = rw e here
      go b l k h (inr i) = there (h i)

  -- and nothing else
  placed_only : (c : List ℕ × Argument) (l : List (List ℕ × Argument)) → In c (placed a l) → (c ≡ a) ⊎ In c l
  placed_only c = placed_any a (λ l k. In c k → (c ≡ a) ⊎ In c l) (λ l i. in_cases i) (λ b l k h i. go b l k h (in_cases i))
    where
      kept : (b : List ℕ × Argument) (l : List (List ℕ × Argument)) → (c ≡ a) ⊎ In c l → (c ≡ a) ⊎ In c (b ∷ l)
      kept b l (inl e) = inl e
      kept b l (inr i) = inr (there i)

      go : (b : List ℕ × Argument) (l k : List (List ℕ × Argument)) → (In c k → (c ≡ a) ⊎ In c l) → (c ≡ b) ⊎ In c k → (c ≡ a) ⊎ In c (b ∷ l)
      go b l k h (inl e) = inr (rw e here)
      go b l k h (inr i) = kept b l (h i)

  -- all are valid
  placed_valid : ValidNamedArgument a → (l : List (List ℕ × Argument)) → All ValidNamedArgument l → All ValidNamedArgument (placed a l)
  placed_valid v = placed_any a (λ l k. All ValidNamedArgument l → All ValidNamedArgument k) (λ l h. (v, h)) (λ b l k h g. (g.0, h g.1))

  -- all are least
  placed_least : is_least a.1 ≡ true → (l : List (List ℕ × Argument)) → all_least l ≡ true → all_least (placed a l) ≡ true
  unfolding all_least
  placed_least v =
      placed_any a (λ l k. all_least l ≡ true → all_least k ≡ true) (λ l h. rw (v, h))
      (λ b l k h g. let q = and_true (is_least b.1) (all_least l) g in rw (q.0, h q.1))

  -- their bytes are as many as before and those of the placed one
  placed_bytes : (l : List (List ℕ × Argument)) → length (enc_all enc_named_argument (placed a l)) ≡ length (enc_named_argument a) + length (enc_all enc_named_argument l)
  unfolding enc_all
  placed_bytes =
      placed_any a (λ l k. length (enc_all enc_named_argument k) ≡ length (enc_named_argument a) + length (enc_all enc_named_argument l))
      (λ l. length-append (enc_named_argument a) (enc_all enc_named_argument l))
      (λ b l k h.
      let p = length-append (enc_named_argument b) (enc_all enc_named_argument k) in
      let q = length-append (enc_named_argument b) (enc_all enc_named_argument l) in
      omega (arith, p, q, h))

-- == The order

-- a name before the placed one and before the first is before the first of all
leads_placed : (n : List ℕ) (a : List ℕ × Argument) (l : List (List ℕ × Argument)) → before n a.0 ≡ true → leads n l ≡ true → leads n (placed a l) ≡ true
unfolding leads placed choice
leads_placed n a [] h k = h
leads_placed n a (b ∷ l) h k = go (before a.0 b.0)
  where
    go : (t : Bool) → leads n (choice t (a ∷ b ∷ l) (b ∷ placed a l)) ≡ true
    go true = h
    go false = k

-- of two different names one is before the other
before_other : (n m : List ℕ) → (n ≡ m → ⊥) → before n m ≡ false → before m n ≡ true
before_other n m d h = go (before m n) refl
  where
    go : (t : Bool) → before m n ≡ t → before m n ≡ true
    go true e = e
    go false e = absurd (d (before_same n m h e))

-- a new name placed among ascending ones leaves them ascending
placed_ascending : (a : List ℕ × Argument) (l : List (List ℕ × Argument)) → ((v : Argument) → In (a.0, v) l → ⊥) → ascending l ≡ true → ascending (placed a l) ≡ true
unfolding ascending leads placed choice
placed_ascending a [] d h = refl
placed_ascending a (b ∷ l) d h =
    let q = and_true (leads b.0 l) (ascending l) h in
    go (before a.0 b.0) refl q.0 (placed_ascending a l (λ v i. d v (there i)) q.1)
  where
    other : a.0 ≡ b.0 → ⊥
    other e =
        let p : ◌≡◌ {A = List ℕ × Argument} (a.0, b.1) (b.0, b.1) = ap (λ (n : List ℕ). (n, b.1)) e in
        d b.1 (rw p here)

    go : (t : Bool) → before a.0 b.0 ≡ t → leads b.0 l ≡ true → ascending (placed a l) ≡ true → ascending (choice t (a ∷ b ∷ l) (b ∷ placed a l)) ≡ true
    go true e f r = rw (e, h)
    go false e f r = rw (leads_placed b.0 a l (before_other a.0 b.0 other e) f, r)

-- == All of them sorted

-- each value is there in its least form
pub sorted_has : (n : List ℕ) (v : Argument) {l : List (List ℕ × Argument)} → In (n, v) l → In (n, least_of v) (sorted l)
unfolding sorted least_named
sorted_has n v (here {l = l}) = placed_in (n, least_of v) (sorted l)
sorted_has n v (there {b = b} {l = l} i) = placed_keeps (least_named b) (n, least_of v) (sorted l) (sorted_has n v i)

-- and nothing else is
pub sorted_only : (n : List ℕ) (w : Argument) (l : List (List ℕ × Argument)) → In (n, w) (sorted l) → (v : Argument) × In (n, v) l × (w ≡ least_of v)
unfolding sorted least_named
sorted_only n w [] i = absurd (in_none i)
sorted_only n w (a ∷ l) i = go (placed_only (least_named a) (n, w) (sorted l) i) (sorted_only n w l)
  where
    later : (v : Argument) × In (n, v) l × (w ≡ least_of v) → (v : Argument) × In (n, v) (a ∷ l) × (w ≡ least_of v)
    later r = (r.0, there r.1, r.2)

    go : ((n, w) ≡ least_named a) ⊎ In (n, w) (sorted l) → (In (n, w) (sorted l) → (v : Argument) × In (n, v) l × (w ≡ least_of v))
        → (v : Argument) × In (n, v) (a ∷ l) × (w ≡ least_of v)
    go (inl e) r =
        let p : n ≡ a.0 = ap (λ (c : List ℕ × Argument). c.0) e in
        let q : ◌≡◌ {A = List ℕ × Argument} (n, a.1) (a.0, a.1) = ap (λ (m : List ℕ). (m, a.1)) p in
        (a.1, rw q here, ap (λ (c : List ℕ × Argument). c.1) e)
    go (inr j) r = later (r j)

-- a name and the least form of its value take as many bytes
named_bytes : (b : List ℕ × Argument) → length (enc_named_argument (least_named b)) ≡ length (enc_named_argument b)
unfolding enc_named_argument least_named
named_bytes b =
    let p = length-append (enc_str b.0) (enc_argument (least_of b.1)) in
    let q = length-append (enc_str b.0) (enc_argument b.1) in
    omega (arith, p, q, least_length b.1)

-- they take as many bytes
pub sorted_bytes : (l : List (List ℕ × Argument)) → length (enc_all enc_named_argument (sorted l)) ≡ length (enc_all enc_named_argument l)
unfolding sorted enc_all
sorted_bytes [] = refl
sorted_bytes (a ∷ l) =
    let p = placed_bytes (least_named a) (sorted l) in
    let q = length-append (enc_named_argument a) (enc_all enc_named_argument l) in
    omega (arith, p, q, named_bytes a, sorted_bytes l)

-- they are valid where the given ones are
pub sorted_valid : (l : List (List ℕ × Argument)) → All ValidNamedArgument l → All ValidNamedArgument (sorted l)
unfolding sorted least_named ValidNamedArgument
sorted_valid [] h = tt
sorted_valid (a ∷ l) h = placed_valid (least_named a) (h.0.0, least_valid a.1 h.0.1) (sorted l) (sorted_valid l h.1)

-- their names ascend where none stands twice
sorted_ascending : (l : List (List ℕ × Argument)) → Once l → ascending (sorted l) ≡ true
unfolding sorted least_named Once ascending
sorted_ascending [] h = refl
sorted_ascending (a ∷ l) h =
    placed_ascending (least_named a) (sorted l) (λ w i. let r = sorted_only a.0 w l i in h.0 r.0 r.1) (sorted_ascending l h.1)

-- each value is least
sorted_least : (l : List (List ℕ × Argument)) → all_least (sorted l) ≡ true
unfolding sorted least_named all_least
sorted_least [] = refl
sorted_least (a ∷ l) = placed_least (least_named a) (least_least a.1) (sorted l) (sorted_least l)

-- they are in order
pub sorted_in_order : (l : List (List ℕ × Argument)) → Once l → in_order (sorted l) ≡ true
unfolding in_order
sorted_in_order l h = rw (sorted_ascending l h, sorted_least l)
