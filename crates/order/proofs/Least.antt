-- The least form of a value: no zero at the end of a number's fraction. It is one of each value.
use mathlib.Core.Path.{◌≡◌, refl, ap, sym, ◌∙◌}
use mathlib.Core.List.{[], ◌∷◌, ◌++◌}
use mathlib.Core.Bool.{Bool, true, false, ◌||◌, not, false≢true}
use Prim.Native.Nat.{ℕ, zero, suc, ◌+◌, ◌*◌, ◌^◌, ◌%◌, ◌<◌}
use native.Mathlib.Omega.{arith}
use lib.ListN.{length, length-append}
use lib.Dec.{eqb}
use borrow.Author.Tests.{eqb-true, eqb-false, eq-eqb, ne_eqb}
use Rattle.decimals.specs.Decimal.{shortest}
use Rattle.decimals.proofs.Shortest.{shortest_stop, shortest_end, shortest_le, shortest_value, shortest_trim, shortest_same}
use Rattle.decimals.proofs.Tests.{and_true}
use Rattle.records.specs.Bytes.{to_be}
use Rattle.records.specs.Images.{Argument}
use Rattle.records.specs.Encode.{enc_flag, enc_argument}
use Rattle.records.specs.Valid.{ValidArgument}
use Rattle.layout.proofs.Numbers.{length_to_be}
use Rattle.order.specs.Accepted.{is_least}
use Rattle.order.specs.Sameness.{SameValue}

-- the least form of a value
unfoldable pub least_of : Argument → Argument
least_of (Argument.string t) = Argument.string t
least_of (Argument.number f d k) = Argument.number f (shortest d k).0 (shortest d k).1
least_of Argument.nothing = Argument.nothing

-- a number that is least is its own shortest decimal
least_shortest : (f : Bool) (d k : ℕ) → is_least (Argument.number f d k) ≡ true → shortest d k ≡ (d, k)
unfolding is_least
least_shortest f d k h = go (eqb k 0) (eqb (d % 10) 0) refl refl h
  where
    go : (t u : Bool) → eqb k 0 ≡ t → eqb (d % 10) 0 ≡ u → t || not u ≡ true → shortest d k ≡ (d, k)
    go true u e g c =
        let z : k ≡ 0 = eqb-true k 0 e in
        shortest_end d k (omega arith) ∙ ap (λ (n : ℕ). (d, n)) (sym z)
    go false true e g c = absurd (false≢true c)
    go false false e g c = shortest_stop d k (eqb-false (d % 10) 0 g)

-- two numbers of the same size have one shortest decimal
shortest_one : (d k e m : ℕ) → d * 10 ^ m ≡ e * 10 ^ k → shortest d k ≡ shortest e m
shortest_one d k e m h =
    let s = shortest_same d k e m {p = (shortest d k).0} {u = (shortest d k).1} {q = (shortest e m).0} {v = (shortest e m).1} refl refl in
    let t = and_true (eqb (shortest d k).0 (shortest e m).0) (eqb (shortest d k).1 (shortest e m).1) (sym s ∙ eq-eqb (d * 10 ^ m) (e * 10 ^ k) h) in
    let x : (shortest d k).0 ≡ (shortest e m).0 = eqb-true _ _ t.0 in
    let y : (shortest d k).1 ≡ (shortest e m).1 = eqb-true _ _ t.1 in
    let z : ◌≡◌ {A = ℕ × ℕ} ((shortest d k).0, (shortest d k).1) ((shortest e m).0, (shortest e m).1) = cc in
    z

-- a value that is least, and the same as another, is the other's least form
pub least_one : (v w : Argument) → is_least w ≡ true → SameValue v w → w ≡ least_of v
unfolding SameValue least_of
least_one (Argument.string t) (Argument.string u) h s = ap Argument.string (sym s)
least_one (Argument.string t) (Argument.number g e m) h s = absurd s
least_one (Argument.string t) Argument.nothing h s = absurd s
least_one (Argument.number f d k) (Argument.string u) h s = absurd s
least_one (Argument.number f d k) (Argument.number g e m) h s =
    let p : shortest d k ≡ (e, m) = shortest_one d k e m s.1 ∙ least_shortest g e m h in
    let q : f ≡ g = s.0 in
    rw (p, q)
least_one (Argument.number f d k) Argument.nothing h s = absurd s
least_one Argument.nothing (Argument.string u) h s = absurd s
least_one Argument.nothing (Argument.number g e m) h s = absurd s
least_one Argument.nothing Argument.nothing h s = refl

-- the least form is least
pub least_least : (v : Argument) → is_least (least_of v) ≡ true
unfolding is_least least_of
least_least (Argument.string t) = refl
least_least (Argument.number f d k) = go (shortest d k).1 refl
  where
    go : (n : ℕ) → (shortest d k).1 ≡ n → eqb (shortest d k).1 0 || not (eqb ((shortest d k).0 % 10) 0) ≡ true
    go zero e = rw e
    go (suc n) e =
        let p : 0 < (shortest d k).1 = omega arith in
        rw (ne_eqb ((shortest d k).0 % 10) 0 (shortest_trim d k p)) (or_true (eqb (shortest d k).1 0))
      where
        or_true : (t : Bool) → t || true ≡ true
        or_true true = refl
        or_true false = refl
least_least Argument.nothing = refl

-- it is the same value
pub least_same : (v : Argument) → SameValue v (least_of v)
unfolding SameValue least_of
least_same (Argument.string t) = refl
least_same (Argument.number f d k) = (refl, shortest_value d k)
least_same Argument.nothing = tt

-- it is valid where the value is
pub least_valid : (v : Argument) → ValidArgument v → ValidArgument (least_of v)
unfolding ValidArgument least_of
least_valid (Argument.string t) h = h
least_valid (Argument.number f d k) h = let s = shortest_le d k in (omega (arith, s.0, h.0), omega (arith, s.1, h.1))
least_valid Argument.nothing h = h

-- it is as long in bytes
pub least_length : (v : Argument) → length (enc_argument (least_of v)) ≡ length (enc_argument v)
unfolding enc_argument least_of
least_length (Argument.string t) = refl
least_length (Argument.number f d k) = number-length (shortest d k).0 (shortest d k).1 ∙ sym (number-length d k)
  where
    number-length : (e m : ℕ) → length (enc_argument (Argument.number f e m)) ≡ 1 + (length (enc_flag f) + 9)
    number-length e m =
        let p = length-append (enc_flag f) (to_be 8 e ++ (m ∷ [])) in
        let q = length-append (to_be 8 e) (m ∷ []) in
        omega (arith, p, q, length_to_be 8 e)
least_length Argument.nothing = refl
