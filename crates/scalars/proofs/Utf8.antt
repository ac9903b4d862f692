-- The UTF-8 of a scalar is well-formed.
use mathlib.Core.Path.{◌≡◌, refl, ap, sym, subst, ◌∙◌}
use mathlib.Core.Bool.{Bool, true, false, ◌&&◌, ◌||◌}
use mathlib.Core.List.{List, [], ◌∷◌, ◌++◌}
use Prim.Native.Nat.{ℕ, ◌+◌, ◌*◌, ◌/◌, ◌%◌, ◌≤◌, ◌<◌}
use native.Mathlib.Omega.{arith}
use lib.Dec.{ltb, leb, eqb}
use borrow.Author.Tests.{ltb-true, ltb-false, leb-true, eqb-true, eqb-false, lt-ltb, le-ltb, le-leb}
use Rattle.decimals.specs.Bytes.{run}
use Rattle.decimals.proofs.Tests.{and_true}
use Rattle.rules.specs.Rules.{utf8_first, utf8_step}
use Rattle.rules.proofs.WellFormed.{first_1, first_2, first_3, first_4, table, run_first, run_later}
use Rattle.scalars.specs.Scalars.{is_scalar, Scalar, enc_scalar}

pub below : {Z : Type 0} (c n : ℕ) → (c < n → Z) → (n ≤ c → Z) → Z
below {Z} c n f g = go (ltb c n) refl
  where
    go : (t : Bool) → ltb c n ≡ t → Z
    go true e = f (ltb-true c n e)
    go false e = g (ltb-false c n e)

pub is : {Z : Type 0} (c n : ℕ) → (c ≡ n → Z) → ((c ≡ n → ⊥) → Z) → Z
is {Z} c n f g = go (eqb c n) refl
  where
    go : (t : Bool) → eqb c n ≡ t → Z
    go true e = f (eqb-true c n e)
    go false e = g (eqb-false c n e)

-- the scalars: below the surrogates, or past them
pub low : {c : ℕ} → c < 0xD800 → Scalar c
unfolding is_scalar
low {c} h = rw (lt-ltb c 0xD800 h)

pub high : {c : ℕ} → 0xE000 ≤ c → c < 0x110000 → Scalar c
unfolding is_scalar
high {c} h k = let m : c ≤ 0x10FFFF = omega arith in rw (le-leb 0xE000 c h, le-leb c 0x10FFFF m) (or_true (ltb c 0xD800))
  where
    or_true : (t : Bool) → t || true ≡ true
    or_true true = refl
    or_true false = refl

pub scalar_either : {Z : Type 0} (c : ℕ) → Scalar c → (c < 0xD800 → Z) → (0xE000 ≤ c → c < 0x110000 → Z) → Z
unfolding is_scalar
scalar_either {Z} c i f g = go (ltb c 0xD800) refl i
  where
    go : (t : Bool) → ltb c 0xD800 ≡ t → t || (leb 0xE000 c && leb c 0x10FFFF) ≡ true → Z
    go true e k = f (ltb-true c 0xD800 e)
    go false e k =
        let a = and_true _ _ k in
        let m : c ≤ 0x10FFFF = leb-true c 0x10FFFF a.1 in
        g (leb-true 0xE000 c a.0) (omega arith)

-- The four forms, by their digits
pub encode_1 : (c : ℕ) → c < 0x80 → enc_scalar c ≡ c ∷ []
unfolding enc_scalar
encode_1 c h = rw (lt-ltb c 0x80 h)

pub encode_2 : (x y : ℕ) → 2 ≤ x → x < 32 → y < 64 → enc_scalar (x * 64 + y) ≡ (0xC0 + x) ∷ (0x80 + y) ∷ []
unfolding enc_scalar
encode_2 x y h k l =
    let p : (x * 64 + y) / 64 ≡ x = omega arith in
    let q : (x * 64 + y) % 64 ≡ y = omega arith in
    rw (le-ltb (x * 64 + y) 0x80 (omega arith), lt-ltb (x * 64 + y) 0x800 (omega arith), p, q)

pub encode_3 : (x y z : ℕ) → x < 16 → y < 64 → z < 64 → 0x800 ≤ x * 4096 + y * 64 + z
    → enc_scalar (x * 4096 + y * 64 + z) ≡ (0xE0 + x) ∷ (0x80 + y) ∷ (0x80 + z) ∷ []
unfolding enc_scalar
encode_3 x y z h k l m =
    let c : ℕ = x * 4096 + y * 64 + z in
    let p : c / 4096 ≡ x = omega arith in
    let q : c / 64 % 64 ≡ y = omega arith in
    let r : c % 64 ≡ z = omega arith in
    rw (le-ltb c 0x80 (omega arith), le-ltb c 0x800 m, lt-ltb c 0x10000 (omega arith), p, q, r)

pub encode_4 : (w x y z : ℕ) → x < 64 → y < 64 → z < 64 → 0x10000 ≤ w * 262144 + x * 4096 + y * 64 + z
    → enc_scalar (w * 262144 + x * 4096 + y * 64 + z) ≡ (0xF0 + w) ∷ (0x80 + x) ∷ (0x80 + y) ∷ (0x80 + z) ∷ []
unfolding enc_scalar
encode_4 w x y z h k l m =
    let c : ℕ = w * 262144 + x * 4096 + y * 64 + z in
    let o : c / 262144 ≡ w = omega arith in
    let p : c / 4096 % 64 ≡ x = omega arith in
    let q : c / 64 % 64 ≡ y = omega arith in
    let r : c % 64 ≡ z = omega arith in
    rw (le-ltb c 0x80 (omega arith), le-ltb c 0x800 (omega arith), le-ltb c 0x10000 m, o, p, q, r)

-- an encoded scalar leads back to the start: it is well-formed
accept_2 : (x y : ℕ) (t : List ℕ) → 2 ≤ x → x < 32 → y < 64 → run utf8_step 0 (enc_scalar (x * 64 + y) ++ t) ≡ run utf8_step 0 t
accept_2 x y t h k l =
    rw (encode_2 x y h k l)
    (run_first (0xC0 + x) _ (first_2 (0xC0 + x) (omega arith) (omega arith)) ∙ run_later table.one (0x80 + y) t (omega arith) (omega arith))

accept_3 : (x y z : ℕ) (t : List ℕ) → x < 16 → y < 64 → z < 64 → 0x800 ≤ x * 4096 + y * 64 + z → Scalar (x * 4096 + y * 64 + z)
    → run utf8_step 0 (enc_scalar (x * 4096 + y * 64 + z) ++ t) ≡ run utf8_step 0 t
accept_3 x y z t h k l m s =
    rw (encode_3 x y z h k l m)
    (is x 0
    (λ e. let p : 0xE0 + x ≡ 0xE0 = omega arith in
    run_first (0xE0 + x) _ (ap utf8_first p ∙ table.E0) ∙ run_later table.after_E0 (0x80 + y) _ (omega arith) (omega arith) ∙ last)
    (λ n. is x 13
    (λ e. let p : 0xE0 + x ≡ 0xED = omega arith in
    run_first (0xE0 + x) _ (ap utf8_first p ∙ table.ED) ∙ run_later table.after_ED (0x80 + y) _ (omega arith) (thirteen e s) ∙ last)
    (λ o. let p : 0xE0 + x ≡ 0xED → ⊥ = λ e. o (omega arith) in
    run_first (0xE0 + x) _ (first_3 (0xE0 + x) (omega arith) (omega arith) p) ∙ run_later table.two (0x80 + y) _ (omega arith) (omega arith) ∙ last)))
  where
    last : run utf8_step 1 ((0x80 + z) ∷ t) ≡ run utf8_step 0 t
    last = run_later table.one (0x80 + z) t (omega arith) (omega arith)

    thirteen : x ≡ 13 → Scalar (x * 4096 + y * 64 + z) → 0x80 + y ≤ 0x9F
    thirteen e i = scalar_either _ i (λ a. omega arith) (λ a b. absurd (omega arith))

accept_4 : (w x y z : ℕ) (t : List ℕ) → x < 64 → y < 64 → z < 64 → 0x10000 ≤ w * 262144 + x * 4096 + y * 64 + z → w * 262144 + x * 4096 + y * 64 + z < 0x110000
    → run utf8_step 0 (enc_scalar (w * 262144 + x * 4096 + y * 64 + z) ++ t) ≡ run utf8_step 0 t
accept_4 w x y z t h k l m n =
    rw (encode_4 w x y z h k l m)
    (is w 0
    (λ e. let p : 0xF0 + w ≡ 0xF0 = omega arith in
    run_first (0xF0 + w) _ (ap utf8_first p ∙ table.F0) ∙ run_later table.after_F0 (0x80 + x) _ (omega arith) (omega arith) ∙ last)
    (λ i. is w 4
    (λ e. let p : 0xF0 + w ≡ 0xF4 = omega arith in
    run_first (0xF0 + w) _ (ap utf8_first p ∙ table.F4) ∙ run_later table.after_F4 (0x80 + x) _ (omega arith) (omega arith) ∙ last)
    (λ j. run_first (0xF0 + w) _ (first_4 (0xF0 + w) (omega arith) (omega arith)) ∙ run_later table.three (0x80 + x) _ (omega arith) (omega arith) ∙ last)))
  where
    last : run utf8_step 2 ((0x80 + y) ∷ (0x80 + z) ∷ t) ≡ run utf8_step 0 t
    last = run_later table.two (0x80 + y) _ (omega arith) (omega arith) ∙ run_later table.one (0x80 + z) t (omega arith) (omega arith)

scalar_below : (c : ℕ) → Scalar c → c < 0x110000
scalar_below c i = scalar_either c i (λ a. omega arith) (λ a b. b)

pub accept : (c : ℕ) (t : List ℕ) → Scalar c → run utf8_step 0 (enc_scalar c ++ t) ≡ run utf8_step 0 t
accept c t s =
    let Goal : ℕ → Type 0 = λ d. run utf8_step 0 (enc_scalar d ++ t) ≡ run utf8_step 0 t in
    below c 0x80 (λ h. rw (encode_1 c h) (run_first c t (first_1 c h))) (λ h.
    below c 0x800
    (λ k. let e : c / 64 * 64 + c % 64 ≡ c = omega arith in
    subst Goal e (accept_2 (c / 64) (c % 64) t (omega arith) (omega arith) (omega arith)))
    (λ k. below c 0x10000
    (λ l. let e : c / 4096 * 4096 + c / 64 % 64 * 64 + c % 64 ≡ c = omega arith in
    subst Goal e (accept_3 (c / 4096) (c / 64 % 64) (c % 64) t (omega arith) (omega arith) (omega arith) (omega arith) (subst Scalar (sym e) s)))
    (λ l. let e : c / 262144 * 262144 + c / 4096 % 64 * 4096 + c / 64 % 64 * 64 + c % 64 ≡ c = omega arith in
    let b : c < 0x110000 = scalar_below c s in
    subst Goal e (accept_4 (c / 262144) (c / 4096 % 64) (c / 64 % 64) (c % 64) t (omega arith) (omega arith) (omega arith) (omega arith) (omega arith)))))
