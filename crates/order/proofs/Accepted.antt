-- An image is accepted exactly when it is read and what it holds is in order: laws of `judge`.
use mathlib.Core.Path.{◌≡◌, refl, ap, sym, subst, ◌∙◌}
use mathlib.Core.List.{List, []}
use mathlib.Core.Bool.{Bool, true, false, false≢true}
use Prim.Native.Nat.{ℕ}
use Rattle.records.specs.Got.{Got, got, bad}
use Rattle.records.specs.Images.{Argument, arguments_of}
use Rattle.order.specs.Accepted.{Judged, accepted, refused_for, in_order, judged_if, judge_read, judge}

-- is it accepted?
is_accepted : Judged → Bool
is_accepted (accepted l) = true
is_accepted (refused_for n) = false

-- what is accepted, nothing where it is refused
accepted_of : Judged → List (List ℕ × Argument)
accepted_of (accepted l) = l
accepted_of (refused_for n) = []

-- the number that it is refused with, 0 where it is not
number_of : Judged → ℕ
number_of (accepted l) = 0
number_of (refused_for n) = n

-- what an accepted image holds is one list
pub accepted_one : (l k : List (List ℕ × Argument)) → accepted l ≡ accepted k → l ≡ k
unfolding accepted_of
accepted_one l k h = ap accepted_of h

-- an accepted image is read, and what it holds is in order
pub accepted_read : (image : List ℕ) (l : List (List ℕ × Argument)) → judge image ≡ accepted l → (e : ℕ) × (arguments_of image ≡ got l e) × (in_order l ≡ true)
unfolding judge judge_read judged_if is_accepted
accepted_read image l h = go (arguments_of image) refl h
  where
    ordered : (m : List (List ℕ × Argument)) (e : ℕ) (t : Bool) → arguments_of image ≡ got m e → in_order m ≡ t → judged_if t m ≡ accepted l
        → (e : ℕ) × (arguments_of image ≡ got l e) × (in_order l ≡ true)
    ordered m e true p q k =
        let r : m ≡ l = accepted_one m l k in
        (e, p ∙ ap (λ (n : List (List ℕ × Argument)). got n e) r, rw r at q)
    ordered m e false p q k = absurd (false≢true (ap is_accepted k))

    go : (g : Got (List (List ℕ × Argument))) → arguments_of image ≡ g → judge_read g ≡ accepted l → (e : ℕ) × (arguments_of image ≡ got l e) × (in_order l ≡ true)
    go (got m e) p k = ordered m e (in_order m) p refl k
    go bad p k = absurd (false≢true (ap is_accepted k))

-- an image that is read and whose names and values are in order is accepted
pub read_accepted : (image : List ℕ) (l : List (List ℕ × Argument)) (e : ℕ) → arguments_of image ≡ got l e → in_order l ≡ true → judge image ≡ accepted l
unfolding judge judge_read judged_if
read_accepted image l e p q = rw (p, q)

-- an image is refused with 13 or with 19
pub refused_with : (P : ℕ → Type 0) → P 13 → P 19 → (image : List ℕ) (n : ℕ) → judge image ≡ refused_for n → P n
unfolding judge judge_read judged_if number_of is_accepted
refused_with P thirteen nineteen image n h = go (arguments_of image) h
  where
    ordered : (t : Bool) (l : List (List ℕ × Argument)) → judged_if t l ≡ refused_for n → P n
    ordered true l k = absurd (false≢true (sym (ap is_accepted k)))
    ordered false l k = subst P (ap number_of k) nineteen

    go : (g : Got (List (List ℕ × Argument))) → judge_read g ≡ refused_for n → P n
    go (got l e) k = ordered (in_order l) l k
    go bad k = subst P (ap number_of k) thirteen
