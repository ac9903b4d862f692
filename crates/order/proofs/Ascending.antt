-- Names in strictly ascending order: what stands in such a list decides it.
use mathlib.Core.Path.{◌≡◌, refl, sym, subst, ◌∙◌}
use mathlib.Core.List.{List, [], ◌∷◌}
use mathlib.Core.Bool.{true, false≢true}
use mathlib.Core.Logic.{◌⊎◌, inl, inr}
use Prim.Native.Nat.{ℕ}
use Rattle.decimals.proofs.Tests.{and_true}
use Rattle.records.specs.Images.{Argument}
use Rattle.order.specs.Order.{before}
use Rattle.order.specs.Accepted.{leads, ascending, is_least, all_least}
use Rattle.order.specs.Sameness.{In, here, there}
use Rattle.order.proofs.Before.{before_irreflexive, before_trans, before_asym}

-- what is among some is the first or among the rest
pub in_cases : {a b : List ℕ × Argument} {l : List (List ℕ × Argument)} → In a (b ∷ l) → (a ≡ b) ⊎ In a l
in_cases here = inl refl
in_cases (there i) = inr i

-- nothing is among none
pub in_none : {a : List ℕ × Argument} → In a [] → ⊥
in_none = elim [ ]

-- a name before one that stands before the first of some arguments stands before that first too
pub leads_trans : (n m : List ℕ) (l : List (List ℕ × Argument)) → before n m ≡ true → leads m l ≡ true → leads n l ≡ true
unfolding leads
leads_trans n m [] h k = refl
leads_trans n m (b ∷ l) h k = before_trans n m b.0 h k

-- a name before the first of ascending names is before each of them
leads_each : (n : List ℕ) {b : List ℕ × Argument} {l : List (List ℕ × Argument)} → In b l → leads n l ≡ true → ascending l ≡ true → before n b.0 ≡ true
unfolding leads ascending
leads_each n here h k = h
leads_each n (there {b = c} {l = l} i) h k =
    let q = and_true (leads c.0 l) (ascending l) k in
    leads_each n i (leads_trans n c.0 l h q.0) q.1

-- where each is least, so is each that is among them
pub least_each : {b : List ℕ × Argument} {l : List (List ℕ × Argument)} → In b l → all_least l ≡ true → is_least b.1 ≡ true
unfolding all_least
least_each {b} (here {l = l}) h = (and_true (is_least b.1) (all_least l) h).0
least_each (there {b = c} {l = l} i) h = least_each i (and_true (is_least c.1) (all_least l) h).1

-- two ascending lists, each with the other's first among its pairs
module _ (a b : List ℕ × Argument) (l k : List (List ℕ × Argument)) (h : ascending (a ∷ l) ≡ true) (g : ascending (b ∷ k) ≡ true) where
  -- have the same first
  first_same : In a (b ∷ k) → In b (a ∷ l) → a ≡ b
  unfolding ascending
  first_same i j = go (in_cases i) (in_cases j)
    where
      p : (leads a.0 l ≡ true) × (ascending l ≡ true)
      p = and_true (leads a.0 l) (ascending l) h

      q : (leads b.0 k ≡ true) × (ascending k ≡ true)
      q = and_true (leads b.0 k) (ascending k) g

      go : (a ≡ b) ⊎ In a k → (b ≡ a) ⊎ In b l → a ≡ b
      go (inl e) d = e
      go (inr c) (inl e) = sym e
      go (inr c) (inr d) =
          absurd (false≢true (sym (before_asym a.0 b.0 (leads_each a.0 d p.0 p.1)) ∙ leads_each b.0 c q.0 q.1))

  -- and what follows the first of one, and is in the other, follows the first there
  rest_in : a ≡ b → (c : List ℕ × Argument) → In c l → In c (b ∷ k) → In c k
  unfolding ascending
  rest_in e c i j = go (in_cases j)
    where
      p : (leads a.0 l ≡ true) × (ascending l ≡ true)
      p = and_true (leads a.0 l) (ascending l) h

      go : (c ≡ b) ⊎ In c k → In c k
      go (inr d) = d
      go (inl d) =
          let s : before a.0 c.0 ≡ true = leads_each a.0 i p.0 p.1 in
          let t : c ≡ a = d ∙ sym e in
          let u : before a.0 a.0 ≡ true = subst (λ (z : List ℕ × Argument). before a.0 z.0 ≡ true) t s in
          absurd (false≢true (sym (before_irreflexive a.0) ∙ u))

-- two ascending lists with the same pairs are the same
pub ascending_same : (l k : List (List ℕ × Argument)) → ascending l ≡ true → ascending k ≡ true
    → ((a : List ℕ × Argument) → In a l → In a k) → ((a : List ℕ × Argument) → In a k → In a l) → l ≡ k
unfolding ascending
ascending_same [] [] h g f r = refl
ascending_same [] (b ∷ k) h g f r = absurd (in_none (r b here))
ascending_same (a ∷ l) [] h g f r = absurd (in_none (f a here))
ascending_same (a ∷ l) (b ∷ k) h g f r =
    let e : a ≡ b = first_same a b l k h g (f a here) (r b here) in
    let t : l ≡ k = ascending_same l k (and_true (leads a.0 l) (ascending l) h).1 (and_true (leads b.0 k) (ascending k) g).1
    (λ c i. rest_in a b l k h g e c i (f c (there i)))
    (λ c i. rest_in b a k l g h (sym e) c i (r c (there i))) in
    cc
