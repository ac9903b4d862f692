-- A resource image and an arguments image, by their head and their end.
use Rattle.records.specs.Relations.Answer.{Next}
use Rattle.std.specs.Prelude.{Option, Some, None}
use mathlib.Core.Path.{◌≡◌, refl, ap, sym, ◌∙◌}
use mathlib.Core.Bool.{Bool, true, false}
use mathlib.Core.List.{List, [], ◌∷◌}
use Prim.Native.Nat.{ℕ, ◌+◌, ◌≤◌, ◌<◌}
use lib.Dec.{eqb, leb}
use borrow.Author.Tests.{le-leb, lt-leb}
use Rattle.records.specs.declared.Head.{Head}
use Rattle.records.specs.Got.{Got, got, bad, Parser, after, test}
use Rattle.records.specs.Relations.Answer.{next_of}
use Rattle.records.specs.Relations.Head.{head_at, head_of}
use Rattle.records.specs.Bytes.{number_at}
use Rattle.records.specs.Decode.{many}
use Rattle.records.specs.Images.{max_image, one_at}
use Rattle.records.proofs.Laws.{next_step, next_stop}

-- a head that was read
abbrev pub head_some : ℕ → ℕ → ℕ → Option Head
head_some n k e = Some (record { size = n; count = k; from = e })

-- the head, part by part
module _ (s : List ℕ) (at : ℕ) where
  pub head_short : number_at 4 s at ≡ bad → None ≡ head_of (head_at s at)
  unfolding head_of head_at after
  head_short h = rw h

  module _ {n p : ℕ} (hn : number_at 4 s at ≡ got n p) where
    pub head_long : max_image < n → None ≡ head_of (head_at s at)
    unfolding head_of head_at after test
    head_long h = rw (hn, lt-leb n max_image h)

    module _ (l : n ≤ max_image) where
      pub head_other : one_at s p ≡ bad → None ≡ head_of (head_at s at)
      unfolding head_of head_at after test
      head_other h = rw (hn, le-leb n max_image l, h)

      pub head_uncounted : {v q : ℕ} → one_at s p ≡ got v q → number_at 2 s q ≡ bad → None ≡ head_of (head_at s at)
      unfolding head_of head_at after test
      head_uncounted h k = rw (hn, le-leb n max_image l, h, k)

      pub head_read : {v q k r : ℕ} → one_at s p ≡ got v q → number_at 2 s q ≡ got k r → head_some n k r ≡ head_of (head_at s at)
      unfolding head_of head_at after test
      head_read h k = rw (hn, le-leb n max_image l, h, k)

-- what the code's answer says of the head
pub head_is : (g : Got (ℕ × ℕ)) {r : Option Head} {n k e : ℕ} → r ≡ head_of g → r ≡ head_some n k e → g ≡ got (n, k) e
unfolding head_of
head_is (got h f) {n = n} {k} {e} p q =
    let w : ◌≡◌ {A = Head} (record { size = h.0; count = h.1; from = f }) (record { size = n; count = k; from = e }) = cc (sym p ∙ q) in
    ap (λ (x : Head). got (x.size, x.count) x.from) w
head_is bad {n = n} {k} {e} p q = let w : ◌≡◌ {A = Option Head} None (head_some n k e) = sym p ∙ q in cc

head_none : (g : Got (ℕ × ℕ)) {r : Option Head} → r ≡ head_of g → r ≡ None → g ≡ bad
unfolding head_of
head_none (got h f) p q = cc
head_none bad p q = refl

-- what was read does not change where it ends
pub ends_alike : {A B : Type 0} (t : Bool) (a : A) (b : B) (e : ℕ) → next_of (test t (got a e)) ≡ next_of (test t (got b e))
unfolding test next_of
ends_alike true a b e = refl
ends_alike false a b e = refl

-- an image of elements: its head, as many as that says, and its length is what was read
module _ {A : Type 0} (elem : Parser A) (s : List ℕ) (at : ℕ) where
  abbrev pub image : Got (List A)
  image =
      after (number_at 4 s at) (λ n p.
      test (leb n max_image)
      (after (one_at s p) (λ v q.
      after (number_at 2 s q) (λ k r.
      after (many [] ◌∷◌ k elem s r) (λ es e.
      test (eqb e (at + n)) (got es e))))))

  rest : ℕ × ℕ → ℕ → Got (List A)
  rest h r = after (many [] ◌∷◌ h.1 elem s r) (λ es e. test (eqb e (at + h.0)) (got es e))

  by_head : image ≡ after (head_at s at) rest
  unfolding head_at after test rest
  by_head = go (number_at 4 s at)
    where
      count : (n : ℕ) (g : Got ℕ) → after g (λ k r. rest (n, k) r) ≡ after (after g (λ k r. got (n, k) r)) rest
      count n (got k r) = refl
      count n bad = refl

      version : (n : ℕ) (g : Got ℕ) → after g (λ v q. after (number_at 2 s q) (λ k r. rest (n, k) r)) ≡ after (after g (λ v q. after (number_at 2 s q) (λ k r. got (n, k) r))) rest
      version n (got v q) = count n (number_at 2 s q)
      version n bad = refl

      size : (n p : ℕ) (t : Bool) → test t (after (one_at s p) (λ v q. after (number_at 2 s q) (λ k r. rest (n, k) r))) ≡ after (test t (after (one_at s p) (λ v q. after (number_at 2 s q) (λ k r. got (n, k) r)))) rest
      size n p true = version n (one_at s p)
      size n p false = refl

      go : (g : Got ℕ) → after g (λ n p. test (leb n max_image) (after (one_at s p) (λ v q. after (number_at 2 s q) (λ k r. rest (n, k) r)))) ≡ after (after g (λ n p. test (leb n max_image) (after (one_at s p) (λ v q. after (number_at 2 s q) (λ k r. got (n, k) r))))) rest
      go (got n p) = size n p (leb n max_image)
      go bad = refl

  module _ {r : Option Head} (is : r ≡ head_of (head_at s at)) where
    pub image_bad : r ≡ None → None ≡ next_of image
    unfolding next_of after
    image_bad h = ap next_of (sym (by_head ∙ ap (λ (g : Got (ℕ × ℕ)). after g rest) (head_none (head_at s at) is h)))

    module _ {n k f : ℕ} (h : r ≡ head_some n k f) {x : Next} (all : x ≡ next_of (many [] ◌∷◌ k elem s f)) where
      headed : image ≡ rest (n, k) f
      unfolding after
      headed = by_head ∙ ap (λ (g : Got (ℕ × ℕ)). after g rest) (head_is (head_at s at) is h)

      pub image_stop : x ≡ None → None ≡ next_of image
      unfolding rest
      image_stop w = next_stop _ _ all w ∙ ap next_of (sym headed)

      pub image_end : {e : ℕ} {y : Next} → x ≡ Some e → y ≡ next_of (test (eqb e (at + n)) (got e e)) → y ≡ next_of image
      unfolding rest
      image_end {e} w z = next_step _ _ all w (λ es. z ∙ ends_alike (eqb e (at + n)) e es e) ∙ ap next_of (sym headed)
