-- What the code reads of a value: by its tag, where the image decodes, and that a text lies in the bytes.
use Rattle.records.specs.Relations.Answer.{Num}
use Rattle.std.specs.Prelude.{Some, None}
use mathlib.Core.Path.{◌≡◌, refl, ap, sym, subst, ◌∙◌}
use mathlib.Core.List.{List}
use mathlib.Core.Bool.{Bool, true, false}
use mathlib.Core.Option.{some}
use Prim.Native.Nat.{ℕ, ◌+◌, ◌-◌, ◌≤◌, ◌<◌}
use native.Mathlib.Omega.{arith}
use lib.ListN.{length, get_or}
use lib.Dec.{eqb, leb}
use borrow.Author.Tests.{eq-eqb, ne_eqb, lt-ltb, le-ltb, leb-true, leb-false}
use Rattle.arguments.specs.declared.Given.{Given}
use Rattle.arguments.specs.declared.Given.TheVariants as goal
use Rattle.records.specs.Got.{Got, got, bad, after, test, pick}
use Rattle.records.specs.Relations.Answer.{next_of, num_of}
use Rattle.records.specs.Bytes.{part, byte_at, bytes_at, number_at, span_at, str_at}
use Rattle.rules.specs.Rules.{is_utf8}
use Rattle.records.specs.Images.{Argument, argument_value_at}
use Rattle.arguments.specs.Relations.Given.{meant, Within}
use Rattle.arguments.specs.Relations.Outline.{number_given, text_given, value_given, row_at, read_or, given_from}
use Rattle.records.proofs.Laws.{after_elim, got_elim, span_in, byte_inv, number_inv, number_in, bytes_in, bytes_out}
use Rattle.records.proofs.Views.{pick_elim, as_elim, num_is, num_none, ruled_elim, flag_elim}
use Rattle.arguments.proofs.Laws.{between_in}
use Rattle.arguments.proofs.Views.{argument_value_elim, argument_number_elim}

-- a value by its tag
module _ (s : List ℕ) (at : ℕ) {r : Num} (is : r ≡ num_of (byte_at s at)) where
  pub value_bad : r ≡ None → value_given s at ≡ bad
  unfolding value_given after
  value_bad h = rw (num_none is h)

  pub value_text_law : {tag p : ℕ} → r ≡ Some (tag, p) → tag ≡ 1 → value_given s at ≡ text_given s p
  unfolding value_given after pick
  value_text_law {tag} h i = rw (num_is is h, eq-eqb tag 1 i)

  pub value_number : {tag p : ℕ} → r ≡ Some (tag, p) → tag ≡ 2 → value_given s at ≡ number_given s p
  unfolding value_given after pick
  value_number {tag} h i = rw (num_is is h, ne_eqb tag 1 (λ z. omega arith), eq-eqb tag 2 i)

  pub value_nothing : {tag p : ℕ} → r ≡ Some (tag, p) → (tag ≡ 1 → ⊥) → (tag ≡ 2 → ⊥) → value_given s at ≡ got goal.Nothing p
  unfolding value_given after pick
  value_nothing {tag} h i j = rw (num_is is h, ne_eqb tag 1 i, ne_eqb tag 2 j)

-- two readings of the same bytes end alike
pub ends_alike : {A B C : Type 0} (g : Got A) (f : A → ℕ → B) (h : A → ℕ → C) → next_of (after g (λ a e. got (f a e) e)) ≡ next_of (after g (λ a e. got (h a e) e))
unfolding after next_of
ends_alike (got a e) f h = refl
ends_alike bad f h = refl

pub text_ends : (s : List ℕ) (at : ℕ) → next_of (str_at s at) ≡ next_of (text_given s at)
unfolding str_at text_given
text_ends s at = ends_alike (span_at s at) (λ p e. part s p (e - p)) (λ p e. goal.Text p e)

-- a text by its Str
module _ (s : List ℕ) (at : ℕ) where
  pub text_bad : span_at s at ≡ bad → text_given s at ≡ bad
  unfolding text_given after
  text_bad h = rw h

  pub text_is : {a e : ℕ} → span_at s at ≡ got a e → text_given s at ≡ got (goal.Text a e) e
  unfolding text_given after
  text_is h = rw h

byte_in : (s : List ℕ) (at : ℕ) → at < length s → byte_at s at ≡ got (get_or s at 0) (at + 1)
unfolding byte_at test
byte_in s at h = rw (lt-ltb at (length s) h)

byte_out : (s : List ℕ) (at : ℕ) → length s ≤ at → byte_at s at ≡ bad
unfolding byte_at test
byte_out s at h = rw (le-ltb at (length s) h)

-- a number by its parts
module _ (s : List ℕ) (at : ℕ) where
  pub number_bad : byte_at s at ≡ bad → number_given s at ≡ bad
  unfolding number_given after
  number_bad h = rw h

  module _ {f p : ℕ} (hf : byte_at s at ≡ got f p) where
    pub digits_bad : number_at 8 s p ≡ bad → number_given s at ≡ bad
    unfolding number_given after
    digits_bad h = rw (hf, h)

    pub scale_bad : {d q : ℕ} → number_at 8 s p ≡ got d q → length s ≤ q → number_given s at ≡ bad
    unfolding number_given after
    scale_bad {q = q} h l = rw (hf, h, byte_out s q l)

    pub number_is : {d q : ℕ} → number_at 8 s p ≡ got d q → q < length s → number_given s at ≡ got (goal.Number (eqb f 1) d (get_or s q 0)) (q + 1)
    unfolding number_given after
    number_is {q = q} h l = rw (hf, h, byte_in s q l)

  number_out : (g : Got Given) → number_given s at ≡ g → length s < at + 10 → g ≡ bad
  unfolding number_given
  number_out bad w l = refl
  number_out (got v e) w l =
      after_elim (byte_at s at) _ w (λ f p hf h.
      after_elim (number_at 8 s p) _ h (λ d q hd h.
      as_elim _ (byte_at s q) h (λ k hk _.
      let ep = (byte_inv s at hf).2 in
      let eq = (number_inv s 8 p hd).1 in
      let lk = (byte_inv s q hk).0 in
      absurd (omega arith))))

  -- it is ten bytes
  pub number_ends : next_of (bytes_at 10 s at) ≡ next_of (number_given s at)
  unfolding next_of
  number_ends = go (leb (at + 10) (length s)) refl
    where
      go : (t : Bool) → leb (at + 10) (length s) ≡ t → next_of (bytes_at 10 s at) ≡ next_of (number_given s at)
      go true t =
          let l = leb-true (at + 10) (length s) t in
          let e : at + 1 + 8 + 1 ≡ at + 10 = omega arith in
          rw (bytes_in s at 10 l, number_is (byte_in s at (omega arith)) (number_in s (at + 1) 8 (omega arith)) (omega arith), e)
      go false t =
          let l = leb-false (at + 10) (length s) t in
          rw (bytes_out s at 10 (omega arith), number_out (number_given s at) refl (omega arith))

-- what the code answers for a value
pub given_bad : {g : Got Given} → g ≡ bad → None ≡ given_from g
unfolding given_from read_or
given_bad h = rw h

pub given_is : {g : Got Given} {v : Given} {e : ℕ} → g ≡ got v e → Some v ≡ given_from g
unfolding given_from read_or
given_is h = rw h

-- What is found where the image decodes: what the definition says of its arguments.
pub value_means : (s : List ℕ) (at : ℕ) {a : Argument} {e : ℕ} → argument_value_at s at ≡ got a e → (v : Given) × (value_given s at ≡ got v e) × (meant s (Some v) ≡ some a)
unfolding value_given text_given number_given after pick meant
value_means s at {a} {e} h =
    argument_value_elim s at h
    (λ p t hb ht w.
    ruled_elim is_utf8 s p ht (λ q hs et _.
    let k = span_in s p hs in
    (goal.Text q e, rw (hb, hs), ap some (ap Argument.string (between_in s q e k.0 k.1 ∙ sym et) ∙ sym w))))
    (λ p hb hn.
    argument_number_elim s p hn (λ f q d r k hf hd _ hk _ w.
    let sign : (y : ℕ) × (byte_at s p ≡ got y q) × (eqb y 1 ≡ f) = flag_elim s p hf (λ y z. (0, y, sym z)) (λ y z. (1, y, sym z)) in
    (goal.Number f d k, rw (hb, sign.1, hd, hk, sign.2), ap some (sym w))))
    (λ hb w. (goal.Nothing, rw hb, ap some (sym w)))

abbrev within : List ℕ → Given → Type 0
within s v = Within s (Some v)

-- A text that is found lies in the bytes, whatever they are.
value_within : (s : List ℕ) (at : ℕ) {v : Given} {e : ℕ} → value_given s at ≡ got v e → Within s (Some v)
unfolding value_given text_given number_given Within
value_within s at h =
    after_elim (byte_at s at) _ h (λ t p _ h.
    pick_elim _ _ _ h
    (λ _ h. after_elim (span_at s p) _ h (λ a i hs h. got_elim h (λ x y. subst (within s) x (span_in s p hs))))
    (λ _ h. pick_elim _ _ _ h
    (λ _ h. after_elim (byte_at s p) _ h (λ f q _ h. after_elim (number_at 8 s q) _ h (λ d r _ h. as_elim _ (byte_at s r) h (λ k _ w. subst (within s) (sym w) tt))))
    (λ _ h. got_elim h (λ x _. subst (within s) x tt))))

pub row_within : (s : List ℕ) (at : ℕ) {a : List ℕ × Given} {e : ℕ} → row_at s at ≡ got a e → Within s (Some a.1)
unfolding row_at
row_within s at h = after_elim (str_at s at) _ h (λ n p _ h. as_elim _ _ h (λ v hv w. subst (λ (y : List ℕ × Given). Within s (Some y.1)) (sym w) (value_within s p hv)))
