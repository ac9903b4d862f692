-- Exact decoders from exact parts: inversions (took), forward steps (ahead), numbers, Strs, lists.
use mathlib.Core.Path.{◌≡◌, refl, ap, sym, subst, ◌∙◌}
use mathlib.Core.Bool.{Bool, true, false}
use mathlib.Core.List.{List, [], ◌∷◌, ◌++◌}
use Prim.Native.Nat.{ℕ, zero, suc, ◌+◌, ◌-◌, ◌^◌, ◌≤◌, ◌<◌}
use native.Mathlib.Omega.{arith}
use lib.ListN.{length}
use lib.Dec.{eqb, ltb, leb}
use borrow.Author.Tests.{eqb-true, ltb-true, leb-true, lt-ltb, le-leb, eq-eqb}
use Rattle.records.specs.Got.{Got, got, bad, Parser, after, test, pick}
use Rattle.records.specs.Bytes.{be, to_be, part, byte_at, bytes_at, number_at, span_at}
use Rattle.records.specs.Decode.{as_a, ruled_at, many}
use Rattle.records.specs.Encode.{enc_str}
use Rattle.records.specs.Valid.{Fits, Ruled}
use Rattle.layout.specs.Exact.{Exact, Stands, Octets}
use Rattle.layout.proofs.Stands.{stands_none, none_ends, octets_part, length_part, stands_length, stands_byte, byte_is, bytes_are, join, split}
use Rattle.layout.proofs.Octets.{octets_append, octets_to_be}
use Rattle.layout.proofs.Numbers.{length_to_be, be_to_be, to_be_be, be_small}

-- nothing is read where a decoder fails
pub nothing : {A Z : Type 0} {a : A} {e : ℕ} → bad ≡ got a e → Z
nothing h = let z : ◌≡◌ {A = ℕ} 0 1 = cc in absurd (omega arith)

got_elim : {A Z : Type 0} {a b : A} {e f : ℕ} → got a e ≡ got b f → (a ≡ b → e ≡ f → Z) → Z
got_elim h k = k (cc) (cc)

-- Inversion: what was read first, and that the rest reads on.
module _ {A B Z : Type 0} where
  pub after_elim : (g : Got A) (k : A → ℕ → Got B) {b : B} {f : ℕ} → after g k ≡ got b f → ((a : A) (e : ℕ) → g ≡ got a e → k a e ≡ got b f → Z) → Z
  unfolding after
  after_elim (got a e) k h c = c a e refl h
  after_elim bad k h c = nothing h

  pub took : {p : Parser A} {enc : A → List ℕ} {Ok : A → Type 0} → Exact p enc Ok → {s : List ℕ} {at f : ℕ} {b : B} {k : A → ℕ → Got B}
      → Octets s → at ≤ length s → after (p s at) k ≡ got b f
      → ((a : A) (e : ℕ) → Ok a → Stands s at e (enc a) → k a e ≡ got b f → Z) → Z
  took {p} {enc} {Ok} x {s} {at} {f} {b} {k} oct l h c = after_elim (p s at) k h (λ a e g r. let y = x.sound oct l g in c a e y.0 y.1 r)

module _ {B Z : Type 0} where
  pub test_took : (t : Bool) {g : Got B} {b : B} {f : ℕ} → test t g ≡ got b f → (t ≡ true → g ≡ got b f → Z) → Z
  unfolding test
  test_took true h c = c refl h
  test_took false h c = nothing h

  -- a tag and the cases that follow it
  pub tag_took : (x n : ℕ) {g h : Got B} {b : B} {f : ℕ} → pick (eqb x n) g h ≡ got b f → (x ≡ n → g ≡ got b f → Z) → (h ≡ got b f → Z) → Z
  unfolding pick
  tag_took x n {g} {h} {b} {f} w c d = go (eqb x n) refl w
    where
      go : (t : Bool) → eqb x n ≡ t → pick t g h ≡ got b f → Z
      go true e r = c (eqb-true x n e) r
      go false e r = d r

  pub last_took : (x n : ℕ) {g : Got B} {b : B} {f : ℕ} → test (eqb x n) g ≡ got b f → (x ≡ n → g ≡ got b f → Z) → Z
  last_took x n w c = test_took (eqb x n) w (λ e r. c (eqb-true x n e) r)

module _ {B Z : Type 0} where
  pub byte_took : {s : List ℕ} {at f : ℕ} {b : B} {k : ℕ → ℕ → Got B} → after (byte_at s at) k ≡ got b f
      → ((x e : ℕ) → Stands s at e (x ∷ []) → k x e ≡ got b f → Z) → Z
  unfolding byte_at
  byte_took {s} {at} {f} {b} {k} h c = after_elim _ k h (λ x e g r. test_took (ltb at (length s)) g (λ t w. got_elim w (λ u v.
      let y : Stands s at e (x ∷ []) = subst (λ (j : ℕ). Stands s at j (x ∷ [])) v (bytes_are (ap (λ (j : ℕ). j ∷ []) u) (stands_byte s at (ltb-true _ _ t))) in
      c x e y r)))

-- the last step: what holds of what is given holds of what was read
pub gives : {A : Type 0} {a b : A} {e f : ℕ} → got a e ≡ got b f → (Q : A → ℕ → Type 0) → Q a e → Q b f
gives {A} {a} {b} {e} {f} h Q q = got_elim h (λ u v. subst (λ (j : ℕ). Q b j) v (subst (λ (z : A). Q z e) u q))

-- what is known where an encoding was read
abbrev pub Read : {A : Type 0} (enc : A → List ℕ) (Ok : A → Type 0) (s : List ℕ) (at : ℕ) → A → ℕ → Type 0
Read enc Ok s at a e = Ok a × Stands s at e (enc a)

-- a tag, and what stands after it
pub tagged : {s : List ℕ} {at e f x n : ℕ} {y : List ℕ} → x ≡ n → Stands s at e (x ∷ []) → Stands s e f y → Stands s at f (n ∷ y)
tagged {s} {at} {e} {f} {x} {n} {y} q h k = bytes_are (ap (λ (j : ℕ). j ∷ y) q) (join h k)

-- Forward: where an encoding stands, its decoder reads it and the rest goes on.
module _ {A B : Type 0} {p : Parser A} {enc : A → List ℕ} {Ok : A → Type 0} (x : Exact p enc Ok) where
  pub ahead : (k : A → ℕ → Got B) {s : List ℕ} {at f : ℕ} {a : A} {y : List ℕ} {b : B} → Ok a → Stands s at f (enc a ++ y)
      → ((e : ℕ) → Stands s at e (enc a) → Stands s e f y → k a e ≡ got b f) → after (p s at) k ≡ got b f
  unfolding after
  ahead k {s} {at} {f} {a} {y} {b} ok h c = split (enc a) h (λ e u v. rw (x.complete ok u) (c e u v))

  -- where nothing is read after it
  pub at_last : (k : A → ℕ → Got B) {s : List ℕ} {at e f : ℕ} {a : A} {b : B} → Ok a → Stands s at e (enc a) → k a e ≡ got b f → after (p s at) k ≡ got b f
  unfolding after
  at_last k ok h c = rw (x.complete ok h) c

  pub as_last : (g : A → B) {s : List ℕ} {at f : ℕ} {a : A} → Ok a → Stands s at f (enc a) → after (p s at) (λ z e. got (g z) e) ≡ got (g a) f
  unfolding after
  as_last g ok h = rw (x.complete ok h)

pub byte_complete : {s : List ℕ} {at e x : ℕ} → Stands s at e (x ∷ []) → byte_at s at ≡ got x e
unfolding byte_at test
byte_complete {s} {at} {e} {x} u =
    let w = u.within in
    let m = stands_length u in
    rw (lt-ltb at (length s) (omega arith), byte_is u, m)

module _ {B : Type 0} where
  pub byte_ahead : (k : ℕ → ℕ → Got B) {s : List ℕ} {at f x : ℕ} {y : List ℕ} {b : B} → Stands s at f (x ∷ y)
      → ((e : ℕ) → Stands s at e (x ∷ []) → Stands s e f y → k x e ≡ got b f) → after (byte_at s at) k ≡ got b f
  unfolding after
  byte_ahead k {s} {at} {f} {x} {y} {b} h c = split (x ∷ []) h (λ e u v. rw (byte_complete u) (c e u v))

  pub passes : (t : Bool) {g : Got B} {b : B} {f : ℕ} → t ≡ true → g ≡ got b f → test t g ≡ got b f
  unfolding test
  passes t e h = rw e h

  pub ends : {e n : ℕ} {g : Got B} {b : B} {f : ℕ} → e ≡ n → g ≡ got b f → test (eqb e n) g ≡ got b f
  ends {e} {n} q h = passes (eqb e n) (eq-eqb e n q) h

-- bytes of a known number
bytes_sound : (n : ℕ) {s : List ℕ} {at e : ℕ} {bs : List ℕ} → bytes_at n s at ≡ got bs e → (length bs ≡ n) × (bs ≡ part s at n) × Stands s at e bs
unfolding bytes_at
bytes_sound n {s} {at} {e} {bs} h = test_took (leb (at + n) (length s)) h (λ t w. got_elim w (λ u v.
    let l : at + n ≤ length s = leb-true _ _ t in
    let m : e - at ≡ n = omega arith in
    (sym (ap length u) ∙ length_part s at n l, sym u, record { on = omega arith; within = omega arith; bytes = ap (λ (j : ℕ). part s at j) m ∙ u })))

bytes_complete : (n : ℕ) {s : List ℕ} {at e : ℕ} {bs : List ℕ} → length bs ≡ n → Stands s at e bs → bytes_at n s at ≡ got bs e
unfolding bytes_at
bytes_complete n {s} {at} {e} {bs} q h =
    let w = h.within in
    let l = stands_length h in
    let m : at + n ≡ e = omega arith in
    let k : e - at ≡ n = omega arith in
    let b : part s at n ≡ bs = ap (λ (j : ℕ). part s at j) (sym k) ∙ h.bytes in
    passes (leb (at + n) (length s)) (le-leb (at + n) (length s) (omega arith)) (rw (b, m))

-- a number of n bytes
number_sound : (n : ℕ) {s : List ℕ} {at e x : ℕ} → Octets s → number_at n s at ≡ got x e → Fits n x × Stands s at e (to_be n x)
unfolding number_at
number_sound n {s} {at} {e} {x} oct h = after_elim _ _ h (λ bs f g r.
    let i = bytes_sound n g in
    let o : Octets bs = subst Octets (sym i.1) (octets_part s at n oct) in
    let y : to_be n (be bs) ≡ bs = ap (λ (j : ℕ). to_be j (be bs)) (sym i.0) ∙ to_be_be bs o in
    let z : be bs < 256 ^ n = subst (λ (j : ℕ). be bs < 256 ^ j) i.0 (be_small bs o) in
    gives r (λ v j. Fits n v × Stands s at j (to_be n v)) (z, bytes_are (sym y) i.2))

number_complete : (n : ℕ) {s : List ℕ} {at e x : ℕ} → Fits n x → Stands s at e (to_be n x) → number_at n s at ≡ got x e
unfolding number_at after
number_complete n {s} {at} {e} {x} q h = rw (bytes_complete n (length_to_be n x) h, be_to_be n x q)

pub number_exact : (n : ℕ) → Exact (number_at n) (to_be n) (Fits n)
number_exact n = record { sound = λ oct l h. number_sound n oct h; octets = λ x ok. octets_to_be n x; complete = number_complete n }

-- where a number or a byte was read, the position lies in the slice
pub number_inside : (n : ℕ) {B : Type 0} (s : List ℕ) (at : ℕ) (k : ℕ → ℕ → Got B) {f : ℕ} {b : B} → after (number_at n s at) k ≡ got b f → at ≤ length s
unfolding number_at
number_inside n s at k h =
    after_elim _ _ h (λ x e g r.
    after_elim _ _ g (λ bs i g r.
    let y : Stands s at i bs = (bytes_sound n g).2 in
    let o = y.on in
    let w = y.within in
    omega arith))

pub byte_inside : {B : Type 0} (s : List ℕ) (at : ℕ) (k : ℕ → ℕ → Got B) {f : ℕ} {b : B} → after (byte_at s at) k ≡ got b f → at ≤ length s
byte_inside s at k h = byte_took h (λ x e st r.
    let o = st.on in
    let w = st.within in
    omega arith)

-- a Str with a rule for its bytes
ruled_sound : (ok : List ℕ → Bool) {s : List ℕ} {at e : ℕ} {t : List ℕ} → Octets s → at ≤ length s → ruled_at ok s at ≡ got t e → Ruled ok t × Stands s at e (enc_str t)
unfolding ruled_at span_at enc_str
ruled_sound ok {s} {at} {e} {t} oct l h = after_elim _ _ h (λ p f g r.
    took (number_exact 2) oct l g (λ n q fits st g.
    after_elim _ _ g (λ bs i b w.
    let y = bytes_sound n b in
    got_elim w (λ u v.
    test_took (ok (part s p (f - p))) r (λ c r.
    let x : part s p (f - p) ≡ bs = ap (λ (j : ℕ). part s p (j - p)) (sym v) ∙ ap (λ (j : ℕ). part s j (i - j)) (sym u) ∙ y.2.bytes in
    let z : length bs ≡ n = y.0 in
    gives r (λ k j. Ruled ok k × Stands s at j (to_be 2 (length k) ++ k))
    (rw x ((omega arith, ap ok (sym x) ∙ c), subst (λ (j : ℕ). Stands s at j (to_be 2 (length bs) ++ bs)) v (rw z (join st y.2)))))))))

ruled_complete : (ok : List ℕ → Bool) {s : List ℕ} {at e : ℕ} {t : List ℕ} → Ruled ok t → Stands s at e (enc_str t) → ruled_at ok s at ≡ got t e
unfolding ruled_at span_at enc_str after
ruled_complete ok {s} {at} {e} {t} q h = split (to_be 2 (length t)) h (λ p u v.
    rw (number_complete 2 q.0 u, bytes_complete (length t) refl v, v.bytes) (passes (ok t) q.1 refl))

pub ruled_exact : (ok : List ℕ → Bool) → ((t : List ℕ) → ok t ≡ true → Octets t) → Exact (ruled_at ok) enc_str (Ruled ok)
unfolding enc_str
ruled_exact ok o = record { sound = ruled_sound ok; octets = λ t k. octets_append (to_be 2 (length t)) t (octets_to_be 2 (length t)) (o t k.1); complete = ruled_complete ok }

-- n of them, in a list of any kind: what its kind must give
pub record Chain {A L : Type 0} (nil : L) (cons : A → L → L) (enc : A → List ℕ) (Ok : A → Type 0) (enc_all : L → List ℕ) (AllOk : L → Type 0) (count : L → ℕ) : Type 1 where
  pub view : (Z : L → Type 0) → Z nil → ((a : A) (l : L) → Z (cons a l)) → (l : L) → Z l
  pub none : (enc_all nil ≡ []) × AllOk nil × (count nil ≡ 0)
  pub one : (a : A) (l : L) → (enc_all (cons a l) ≡ enc a ++ enc_all l) × (count (cons a l) ≡ suc (count l))
  pub valid : (a : A) (l : L) → Ok a → AllOk l → AllOk (cons a l)
  pub parts : (a : A) (l : L) → AllOk (cons a l) → Ok a × AllOk l

module _ {A L : Type 0} {nil : L} {cons : A → L → L} {p : Parser A} {enc : A → List ℕ} {Ok : A → Type 0} {enc_all : L → List ℕ} {AllOk : L → Type 0} {count : L → ℕ}
    (c : Chain nil cons enc Ok enc_all AllOk count) (x : Exact p enc Ok) where
  many_sound : (n : ℕ) {s : List ℕ} {at e : ℕ} {l : L} → Octets s → at ≤ length s → many nil cons n p s at ≡ got l e → (AllOk l × (count l ≡ n)) × Stands s at e (enc_all l)
  unfolding many
  many_sound zero {s} {at} oct l h =
      gives h (Read enc_all (λ z. AllOk z × (count z ≡ 0)) s at) ((c.none.1, c.none.2), bytes_are (sym c.none.0) (stands_none s at l))
  many_sound (suc n) {s} {at} oct l h =
      took x oct l h (λ a e ok st h.
      after_elim _ _ h (λ r f g h.
      let i = many_sound n oct st.within g in
      gives h (Read enc_all (λ z. AllOk z × (count z ≡ suc n)) s at)
      ((c.valid a r ok i.0.0, (c.one a r).1 ∙ ap suc i.0.1), bytes_are (sym (c.one a r).0) (join st i.1))))

  many_complete : (n : ℕ) {s : List ℕ} {at e : ℕ} (l : L) → AllOk l → count l ≡ n → Stands s at e (enc_all l) → many nil cons n p s at ≡ got l e
  unfolding many after
  many_complete zero {s} {at} {e} l ok q h = c.view (λ l. AllOk l → count l ≡ 0 → Stands s at e (enc_all l) → got nil at ≡ got l e)
      (λ ok q h. ap (got nil) (none_ends (bytes_are c.none.0 h)))
      (λ a l ok q h. let z : suc (count l) ≡ 0 = sym (c.one a l).1 ∙ q in absurd (omega arith)) l ok q h
  many_complete (suc n) {s} {at} {e} l ok q h = c.view (λ l. AllOk l → count l ≡ suc n → Stands s at e (enc_all l) → many nil cons (suc n) p s at ≡ got l e)
      (λ ok q h. let z : 0 ≡ suc n = sym c.none.2 ∙ q in absurd (omega arith))
      (λ a l ok q h.
      let z : suc (count l) ≡ suc n = sym (c.one a l).1 ∙ q in
      let i = c.parts a l ok in
      ahead x _ i.0 (bytes_are (c.one a l).0 h) (λ f u v. rw (many_complete n l i.1 (omega arith) v))) l ok q h

  many_octets : (n : ℕ) (l : L) → AllOk l → count l ≡ n → Octets (enc_all l)
  many_octets zero l ok q =
      c.view (λ l. AllOk l → count l ≡ 0 → Octets (enc_all l)) (λ ok q. rw c.none.0 tt)
      (λ a l ok q. let z : suc (count l) ≡ 0 = sym (c.one a l).1 ∙ q in absurd (omega arith)) l ok q
  many_octets (suc n) l ok q =
      c.view (λ l. AllOk l → count l ≡ suc n → Octets (enc_all l)) (λ ok q. rw c.none.0 tt)
      (λ a l ok q.
      let z : suc (count l) ≡ suc n = sym (c.one a l).1 ∙ q in
      let i = c.parts a l ok in
      rw (c.one a l).0 (octets_append (enc a) (enc_all l) (x.octets a i.0) (many_octets n l i.1 (omega arith)))) l ok q

  pub many_exact : (n : ℕ) → Exact (many nil cons n p) enc_all (λ l. AllOk l × (count l ≡ n))
  many_exact n = record { sound = many_sound n; octets = λ l ok. many_octets n l ok.0 ok.1; complete = λ {a = l} ok h. many_complete n l ok.0 ok.1 h }

-- A tag 1 or 2, and what each announces: what the two kinds must give
pub record Two {A B C : Type 0} (f : A → C) (g : B → C) (encA : A → List ℕ) (encB : B → List ℕ) (enc : C → List ℕ) (OkA : A → Type 0) (OkB : B → Type 0) (Ok : C → Type 0) : Type 1 where
  pub view : (Z : C → Type 0) → ((a : A) → Z (f a)) → ((b : B) → Z (g b)) → (c : C) → Z c
  pub one : (a : A) → (enc (f a) ≡ 1 ∷ encA a) × (OkA a → Ok (f a)) × (Ok (f a) → OkA a)
  pub two : (b : B) → (enc (g b) ≡ 2 ∷ encB b) × (OkB b → Ok (g b)) × (Ok (g b) → OkB b)

module _ {A B C : Type 0} {f : A → C} {g : B → C} {encA : A → List ℕ} {encB : B → List ℕ} {enc : C → List ℕ} {OkA : A → Type 0} {OkB : B → Type 0} {Ok : C → Type 0}
    {p : Parser A} {q : Parser B} (c : Two f g encA encB enc OkA OkB Ok) (x : Exact p encA OkA) (y : Exact q encB OkB) where
  abbrev two_at : Parser C
  two_at s at = after (byte_at s at) (λ tag e. pick (eqb tag 1) (as_a f (p s e)) (test (eqb tag 2) (as_a g (q s e))))

  two_complete : {s : List ℕ} {at e : ℕ} (v : C) → Ok v → Stands s at e (enc v) → two_at s at ≡ got v e
  unfolding pick test
  two_complete {s} {at} {e} = c.view (λ v. Ok v → Stands s at e (enc v) → two_at s at ≡ got v e)
      (λ a ok h. byte_ahead _ (bytes_are (c.one a).0 h) (λ i b r. as_last x f ((c.one a).2 ok) r))
      (λ z ok h. byte_ahead _ (bytes_are (c.two z).0 h) (λ i b r. as_last y g ((c.two z).2 ok) r))

  pub two_exact : Exact two_at enc Ok
  two_exact = record {
    sound = λ {s} {at} oct l h.
        byte_took h (λ tag i b h.
        tag_took tag 1 h (λ e h. took x oct b.within h (λ a j ok st h. gives h (Read enc Ok s at) ((c.one a).1 ok, bytes_are (sym (c.one a).0) (tagged e b st)))) (λ h.
        last_took tag 2 h (λ e h. took y oct b.within h (λ z j ok st h. gives h (Read enc Ok s at) ((c.two z).1 ok, bytes_are (sym (c.two z).0) (tagged e b st))))));
    octets = c.view (λ v. Ok v → Octets (enc v))
        (λ a ok. rw (c.one a).0 (omega arith, x.octets a ((c.one a).2 ok)))
        (λ z ok. rw (c.two z).0 (omega arith, y.octets z ((c.two z).2 ok)));
    complete = λ {a = v} ok h. two_complete v ok h;
  }
