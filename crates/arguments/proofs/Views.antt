-- Views: what is known where an argument was read.
use mathlib.Core.Path.{◌≡◌, ap, sym, subst, ◌∙◌}
use mathlib.Core.List.{List, [], ◌∷◌}
use mathlib.Core.Bool.{Bool}
use Prim.Native.Nat.{ℕ, ◌+◌, ◌≤◌, ◌<◌}
use borrow.Author.Tests.{ltb-true, leb-true}
use Rattle.records.specs.Got.{got}
use Rattle.records.specs.Bytes.{byte_at, number_at}
use Rattle.rules.specs.Rules.{is_utf8}
use Rattle.records.specs.Decode.{many, ruled_at, flag_at, id_at}
use Rattle.records.specs.Images.{Argument, one_at, argument_number_at, argument_value_at, argument_at, arguments_at, arguments_of}
use Rattle.decimals.specs.Decimal.{scale_limit, digits_limit}
use Rattle.records.proofs.Laws.{after_elim, test_elim, got_elim, number_inv, byte_inv}
use Rattle.records.proofs.Views.{pick_elim, as_elim, byte_tag, one_elim, whole_elim}

-- an argument's number: its sign, its digits and its scale
pub argument_number_elim : {C : Type 0} (s : List ℕ) (at : ℕ) {v : Argument} {e : ℕ} → argument_number_at s at ≡ got v e
    → ((f : Bool) (p d q k : ℕ) → flag_at s at ≡ got f p → number_at 8 s p ≡ got d q → d < digits_limit → byte_at s q ≡ got k e → k ≤ scale_limit → v ≡ Argument.number f d k → C) → C
unfolding argument_number_at
argument_number_elim s at h c =
    after_elim (flag_at s at) _ h (λ f p hf h.
    after_elim (number_at 8 s p) _ h (λ d q hd h.
    test_elim _ _ h (λ z h.
    after_elim (byte_at s q) _ h (λ k i hk h.
    test_elim _ _ h (λ t h. got_elim h (λ x y.
    c f p d q k hf hd (ltb-true d digits_limit z) (hk ∙ ap (λ (j : ℕ). got k j) y) (leb-true k scale_limit t) (sym x)))))))

-- an argument's value: by its tag
pub argument_value_elim : {C : Type 0} (s : List ℕ) (at : ℕ) {v : Argument} {e : ℕ} → argument_value_at s at ≡ got v e
    → ((p : ℕ) (t : List ℕ) → byte_at s at ≡ got 1 p → ruled_at is_utf8 s p ≡ got t e → v ≡ Argument.string t → C)
    → ((p : ℕ) → byte_at s at ≡ got 2 p → argument_number_at s p ≡ got v e → C)
    → (byte_at s at ≡ got 3 e → v ≡ Argument.nothing → C) → C
unfolding argument_value_at
argument_value_elim s at h c d f =
    after_elim (byte_at s at) _ h (λ tag p hb h.
    pick_elim _ _ _ h (λ t h. as_elim _ _ h (λ b q w. c p b (byte_tag hb t) q w)) (λ _ h.
    pick_elim _ _ _ h (λ t h. d p (byte_tag hb t) h) (λ _ h.
    test_elim _ _ h (λ t h. got_elim h (λ x y. f (byte_tag hb t ∙ ap (λ (j : ℕ). got 3 j) y) (sym x))))))

-- an argument: its name, and its value
pub argument_elim : {C : Type 0} (s : List ℕ) (at : ℕ) {a : List ℕ × Argument} {e : ℕ} → argument_at s at ≡ got a e
    → ((n : List ℕ) (p : ℕ) (v : Argument) → id_at s at ≡ got n p → argument_value_at s p ≡ got v e → a ≡ (n, v) → C) → C
unfolding argument_at
argument_elim s at h c = after_elim (id_at s at) _ h (λ n p hn h. as_elim _ _ h (λ v q w. c n p v hn q w))

-- an arguments image: its count stands at 5, its arguments at 7
pub arguments_image_elim : {C : Type 0} (s : List ℕ) {l : List (List ℕ × Argument)} {e : ℕ} → arguments_of s ≡ got l e
    → ((k : ℕ) → number_at 2 s 5 ≡ got k 7 → many [] ◌∷◌ k argument_at s 7 ≡ got l e → C) → C
unfolding arguments_of arguments_at
arguments_image_elim s {l} {e} h c =
    whole_elim arguments_at s h (λ h _.
    after_elim (number_at 4 s 0) _ h (λ n p hn h.
    test_elim _ _ h (λ _ h.
    after_elim (one_at s p) _ h (λ v q hv h.
    after_elim (number_at 2 s q) _ h (λ k r hk h.
    after_elim (many [] ◌∷◌ k argument_at s r) _ h (λ m f hm h.
    test_elim _ _ h (λ _ h. got_elim h (λ x y.
    one_elim s p hv (λ hb _.
    let ep : p ≡ 4 = (number_inv s 4 0 hn).1 in
    let eq : q ≡ 5 = (byte_inv s p hb).2 ∙ ap (λ (j : ℕ). j + 1) ep in
    let er : r ≡ 7 = (number_inv s 2 q hk).1 ∙ ap (λ (j : ℕ). j + 2) eq in
    c k
    (subst (λ (j : ℕ). number_at 2 s j ≡ got k 7) eq (hk ∙ ap (λ (j : ℕ). got k j) er))
    (subst (λ (j : ℕ). many [] ◌∷◌ k argument_at s j ≡ got l e) er (hm ∙ ap (λ (j : List (List ℕ × Argument)). got j f) x ∙ ap (λ (j : ℕ). got l j) y)))))))))))
