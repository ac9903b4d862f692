-- Well-formed UTF-8, by table 3-7, is exactly the concatenation of encoded scalars.
use mathlib.Core.Path.{◌≡◌, refl, ap, sym, ◌∙◌}
use mathlib.Core.Bool.{true}
use mathlib.Core.List.{List, [], ◌∷◌, ◌++◌}
use mathlib.Core.Logic.{◌↔◌}
use Prim.Native.Nat.{ℕ, zero, suc, ◌+◌, ◌-◌, ◌*◌, ◌/◌, ◌%◌, ◌≤◌, ◌<◌}
use native.Mathlib.Omega.{arith}
use lib.ListN.{length}
use borrow.Author.Tests.{eqb-true, lt-ltb, le-ltb, eq-eqb}
use Rattle.decimals.specs.Bytes.{run}
use Rattle.rules.specs.Rules.{utf8_first, utf8_step, is_utf8}
use Rattle.records.specs.Encode.{enc_all}
use Rattle.records.specs.Valid.{All}
use Rattle.decimals.proofs.Run.{run_stays}
use Rattle.rules.proofs.WellFormed.{first_1, first_2, first_3, first_4, first_above, first_between, ranged, in_range_law, Later, table, run_first, utf8_stays}
use Rattle.scalars.proofs.Utf8.{below, is, low, high, encode_1, encode_2, encode_3, encode_4, accept}
use Rattle.scalars.specs.Scalars.{Scalar, enc_scalar}
use Rattle.layout.specs.Utf8.{enc_scalars, Coded}

accept_all : (cs : List ℕ) → All Scalar cs → run utf8_step 0 (enc_all enc_scalar cs) ≡ 0
unfolding enc_all run
accept_all [] h = refl
accept_all (c ∷ cs) h = accept c (enc_all enc_scalar cs) h.0 ∙ accept_all cs h.1

-- Encoded scalars, one after the other, are well-formed.
pub utf8_complete : (cs : List ℕ) → All Scalar cs → is_utf8 (enc_scalars cs) ≡ true
unfolding is_utf8 enc_scalars
utf8_complete cs h = eq-eqb _ 0 (accept_all cs h)

-- Back: a run that ends between scalars.
dead : (t : List ℕ) → run utf8_step 8 t ≡ 8
dead t = run_stays utf8_step 8 utf8_stays t

no_more : {Z : Type 0} (t : List ℕ) → run utf8_step 8 t ≡ 0 → Z
no_more t h = let z : ◌≡◌ {A = ℕ} 8 0 = sym (dead t) ∙ h in absurd (omega arith)

-- a later byte is there, and in its range
more : {Z : Type 0} {q lo hi r : ℕ} → 0 < q → Later q lo hi r → (t : List ℕ) → run utf8_step q t ≡ 0
    → ((b : ℕ) (u : List ℕ) → t ≡ b ∷ u → lo ≤ b → b ≤ hi → run utf8_step r u ≡ 0 → Z) → Z
unfolding run
more {q = q} p l [] h k = absurd (omega arith)
more {q = q} {lo = lo} {hi = hi} {r = r} p l (b ∷ u) h k =
    below b lo (λ x. no_more u (ap (λ (j : ℕ). run utf8_step j u) (sym (l.goes b ∙ out-low x)) ∙ h)) (λ x.
    below hi b (λ y. no_more u (ap (λ (j : ℕ). run utf8_step j u) (sym (l.goes b ∙ out-high x y)) ∙ h)) (λ y.
    k b u refl x y (ap (λ (j : ℕ). run utf8_step j u) (sym (l.goes b ∙ in_range_law lo hi r b x y)) ∙ h)))
  where
    out-low : b < lo → ranged lo hi r b ≡ 8
    out-low x = rw (lt-ltb b lo x)

    out-high : lo ≤ b → hi < b → ranged lo hi r b ≡ 8
    out-high x y = rw (le-ltb b lo x, lt-ltb hi b y)

coded_none : Coded []
unfolding enc_scalars enc_all
coded_none = record { scalars = []; valid = tt; are = refl }

coded_more : (c : ℕ) {u t : List ℕ} → Scalar c → Coded u → t ≡ enc_scalar c ++ u → Coded t
unfolding enc_scalars enc_all
coded_more c s k e = record { scalars = c ∷ k.scalars; valid = (s, k.valid); are = e ∙ ap (λ (l : List ℕ). enc_scalar c ++ l) k.are }

-- two, three and four bytes, by their digits
coded_2 : (a b : ℕ) {u t v : List ℕ} → 0xC2 ≤ a → a < 0xE0 → 0x80 ≤ b → b ≤ 0xBF → v ≡ b ∷ u → t ≡ a ∷ v → Coded u → Coded t
coded_2 a b {u} h k l m p q c =
    let x : ℕ = a - 0xC0 in
    let y : ℕ = b - 0x80 in
    let ax : 0xC0 + x ≡ a = omega arith in
    let by : 0x80 + y ≡ b = omega arith in
    let e : enc_scalar (x * 64 + y) ≡ a ∷ b ∷ [] = encode_2 x y (omega arith) (omega arith) (omega arith) ∙ ap (λ (j : ℕ). j ∷ (0x80 + y) ∷ []) ax ∙ ap (λ (j : ℕ). a ∷ j ∷ []) by in
    coded_more (x * 64 + y) (low (omega arith)) c (q ∙ ap (λ (l : List ℕ). a ∷ l) p ∙ sym (ap (λ (l : List ℕ). l ++ u) e))

coded_3 : (a b d : ℕ) {u t v w : List ℕ} → 0xE0 ≤ a → a < 0xF0 → 0x80 ≤ b → b ≤ 0xBF → 0x80 ≤ d → d ≤ 0xBF → (a ≡ 0xE0 → 0xA0 ≤ b) → (a ≡ 0xED → b ≤ 0x9F)
    → w ≡ d ∷ u → v ≡ b ∷ w → t ≡ a ∷ v → Coded u → Coded t
coded_3 a b d {u} h k l m n o f g p q r c =
    let x : ℕ = a - 0xE0 in
    let y : ℕ = b - 0x80 in
    let z : ℕ = d - 0x80 in
    let ax : 0xE0 + x ≡ a = omega arith in
    let by : 0x80 + y ≡ b = omega arith in
    let dz : 0x80 + z ≡ d = omega arith in
    let x16 : x < 16 = omega arith in
    let y64 : y < 64 = omega arith in
    let z64 : z < 64 = omega arith in
    let big : 0x800 ≤ x * 4096 + y * 64 + z = is a 0xE0 (λ i. let j = f i in omega arith) (λ i. omega arith) in
    let s : Scalar (x * 4096 + y * 64 + z) =
    below a 0xED (λ i. low (omega arith)) (λ i. is a 0xED (λ j. let b9 = g j in low (omega arith)) (λ j. high (omega arith) (omega arith))) in
    let e : enc_scalar (x * 4096 + y * 64 + z) ≡ a ∷ b ∷ d ∷ [] =
    encode_3 x y z x16 y64 z64 big ∙ ap (λ (j : ℕ). j ∷ (0x80 + y) ∷ (0x80 + z) ∷ []) ax ∙ ap (λ (j : ℕ). a ∷ j ∷ (0x80 + z) ∷ []) by ∙ ap (λ (j : ℕ). a ∷ b ∷ j ∷ []) dz in
    coded_more (x * 4096 + y * 64 + z) s c (r ∙ ap (λ (l : List ℕ). a ∷ l) q ∙ ap (λ (l : List ℕ). a ∷ b ∷ l) p ∙ sym (ap (λ (l : List ℕ). l ++ u) e))

coded_4 : (a b d e : ℕ) {u t v w i : List ℕ} → 0xF0 ≤ a → a ≤ 0xF4 → 0x80 ≤ b → b ≤ 0xBF → 0x80 ≤ d → d ≤ 0xBF → 0x80 ≤ e → e ≤ 0xBF → (a ≡ 0xF0 → 0x90 ≤ b) → (a ≡ 0xF4 → b ≤ 0x8F)
    → i ≡ e ∷ u → w ≡ d ∷ i → v ≡ b ∷ w → t ≡ a ∷ v → Coded u → Coded t
coded_4 a b d e {u} h k l m n o h' k' f g p₀ p q r c =
    let w : ℕ = a - 0xF0 in
    let x : ℕ = b - 0x80 in
    let y : ℕ = d - 0x80 in
    let z : ℕ = e - 0x80 in
    let aw : 0xF0 + w ≡ a = omega arith in
    let bx : 0x80 + x ≡ b = omega arith in
    let dy : 0x80 + y ≡ d = omega arith in
    let ez : 0x80 + z ≡ e = omega arith in
    let x64 : x < 64 = omega arith in
    let y64 : y < 64 = omega arith in
    let z64 : z < 64 = omega arith in
    let big : 0x10000 ≤ w * 262144 + x * 4096 + y * 64 + z = is a 0xF0 (λ i. let j = f i in omega arith) (λ i. omega arith) in
    let small : w * 262144 + x * 4096 + y * 64 + z < 0x110000 = is a 0xF4 (λ i. let j = g i in omega arith) (λ i. omega arith) in
    let en : enc_scalar (w * 262144 + x * 4096 + y * 64 + z) ≡ a ∷ b ∷ d ∷ e ∷ [] =
    encode_4 w x y z x64 y64 z64 big ∙ ap (λ (j : ℕ). j ∷ (0x80 + x) ∷ (0x80 + y) ∷ (0x80 + z) ∷ []) aw ∙ ap (λ (j : ℕ). a ∷ j ∷ (0x80 + y) ∷ (0x80 + z) ∷ []) bx
    ∙ ap (λ (j : ℕ). a ∷ b ∷ j ∷ (0x80 + z) ∷ []) dy ∙ ap (λ (j : ℕ). a ∷ b ∷ d ∷ j ∷ []) ez in
    coded_more (w * 262144 + x * 4096 + y * 64 + z) (high (omega arith) small) c
    (r ∙ ap (λ (l : List ℕ). a ∷ l) q ∙ ap (λ (l : List ℕ). a ∷ b ∷ l) p ∙ ap (λ (l : List ℕ). a ∷ b ∷ d ∷ l) p₀ ∙ sym (ap (λ (l : List ℕ). l ++ u) en))

-- after the first byte, by the state that it leads to
module _ (n : ℕ) (rest : (u : List ℕ) → length u ≤ n → run utf8_step 0 u ≡ 0 → Coded u) (a : ℕ) (v : List ℕ) (l : length v ≤ n) where
  two_bytes : 0xC2 ≤ a → a < 0xE0 → run utf8_step 1 v ≡ 0 → Coded (a ∷ v)
  two_bytes h k r = more (omega arith) table.one v r (λ b u p lo hi s.
      let z : length v ≡ suc (length u) = ap length p in
      coded_2 a b h k lo hi p refl (rest u (omega arith) s))

  three_bytes : {q lo hi : ℕ} → 0 < q → Later q lo hi 1 → 0xE0 ≤ a → a < 0xF0 → 0x80 ≤ lo → hi ≤ 0xBF → (a ≡ 0xE0 → 0xA0 ≤ lo) → (a ≡ 0xED → hi ≤ 0x9F)
      → run utf8_step q v ≡ 0 → Coded (a ∷ v)
  three_bytes i j h k x y f g r = more i j v r (λ b w p lo hi r. more (omega arith) table.one w r (λ d u p' lo' hi' s.
      let z : length v ≡ suc (length w) = ap length p in
      let z' : length w ≡ suc (length u) = ap length p' in
      coded_3 a b d h k (omega arith) (omega arith) lo' hi' (λ e. let w = f e in omega arith) (λ e. let w = g e in omega arith) p' p refl (rest u (omega arith) s)))

  four_bytes : {q lo hi : ℕ} → 0 < q → Later q lo hi 2 → 0xF0 ≤ a → a ≤ 0xF4 → 0x80 ≤ lo → hi ≤ 0xBF → (a ≡ 0xF0 → 0x90 ≤ lo) → (a ≡ 0xF4 → hi ≤ 0x8F)
      → run utf8_step q v ≡ 0 → Coded (a ∷ v)
  four_bytes i j h k x y f g r = more i j v r (λ b w p lo hi r. more (omega arith) table.two w r (λ d m p' lo' hi' r. more (omega arith) table.one m r (λ c u p'' lo'' hi'' s.
      let z : length v ≡ suc (length w) = ap length p in
      let z' : length w ≡ suc (length m) = ap length p' in
      let z'' : length m ≡ suc (length u) = ap length p'' in
      coded_4 a b d c h k (omega arith) (omega arith) lo' hi' lo'' hi'' (λ e. let w = f e in omega arith) (λ e. let w = g e in omega arith) p'' p' p refl (rest u (omega arith) s))))

  -- the first byte: table 3-7, row by row
  from_first : run utf8_step 0 (a ∷ v) ≡ 0 → Coded (a ∷ v)
  from_first r =
      below a 0x80 (λ h. coded_more a (low (omega arith)) (rest v l (goes (first_1 a h))) (sym (ap (λ (k : List ℕ). k ++ v) (encode_1 a h)))) (λ h.
      below a 0xC2 (λ k. no_more v (goes (first_between a h k))) (λ h.
      below a 0xE0 (λ k. two_bytes h k (goes (first_2 a h k))) (λ h.
      is a 0xE0 (λ e. three_bytes (omega arith) table.after_E0 h (omega arith) (omega arith) (omega arith) (λ i. omega arith) (λ i. absurd (omega arith)) (goes (ap utf8_first e ∙ table.E0))) (λ n₁.
      is a 0xED (λ e. three_bytes (omega arith) table.after_ED h (omega arith) (omega arith) (omega arith) (λ i. absurd (n₁ i)) (λ i. omega arith) (goes (ap utf8_first e ∙ table.ED))) (λ n₂.
      below a 0xF0 (λ k. three_bytes (omega arith) table.two h k (omega arith) (omega arith) (λ i. absurd (n₁ i)) (λ i. absurd (n₂ i)) (goes (first_3 a (omega arith) k n₂))) (λ h.
      is a 0xF0 (λ e. four_bytes (omega arith) table.after_F0 h (omega arith) (omega arith) (omega arith) (λ i. omega arith) (λ i. absurd (omega arith)) (goes (ap utf8_first e ∙ table.F0))) (λ n₃.
      below a 0xF4 (λ k. four_bytes (omega arith) table.three h (omega arith) (omega arith) (omega arith) (λ i. absurd (n₃ i)) (λ i. absurd (omega arith)) (goes (first_4 a (omega arith) k))) (λ h'.
      is a 0xF4 (λ e. four_bytes (omega arith) table.after_F4 h (omega arith) (omega arith) (omega arith) (λ i. absurd (n₃ i)) (λ i. omega arith) (goes (ap utf8_first e ∙ table.F4))) (λ n₄.
      no_more v (goes (first_above a (omega arith))))))))))))
    where
      goes : {q : ℕ} → utf8_first a ≡ q → run utf8_step q v ≡ 0
      goes e = sym (run_first a v e) ∙ r

coded : (n : ℕ) (t : List ℕ) → length t ≤ n → run utf8_step 0 t ≡ 0 → Coded t
coded zero [] l r = coded_none
coded zero (a ∷ v) l r = absurd (omega arith)
coded (suc n) [] l r = coded_none
coded (suc n) (a ∷ v) l r = from_first n (λ u k s. coded n u k s) a v (omega arith) r

-- Well-formed bytes are encoded scalars, one after the other.
pub utf8_sound : (t : List ℕ) → is_utf8 t ≡ true → Coded t
unfolding is_utf8
utf8_sound t h = coded (length t) t (omega arith) (eqb-true _ 0 h)

pub utf8_exactly : (t : List ℕ) → (is_utf8 t ≡ true) ↔ Coded t
utf8_exactly t = (λ h. utf8_sound t h, λ k. ap is_utf8 k.are ∙ utf8_complete k.scalars k.valid)

-- The form of a scalar, by its digits
data Form (c : ℕ) : Type 0 where
  form_1 : c < 0x80 → enc_scalar c ≡ c ∷ [] → Form c
  form_2 : (x y : ℕ) → c ≡ x * 64 + y → x < 32 → enc_scalar c ≡ (0xC0 + x) ∷ (0x80 + y) ∷ [] → Form c
  form_3 : (x y z : ℕ) → c ≡ x * 4096 + y * 64 + z → x < 16 → enc_scalar c ≡ (0xE0 + x) ∷ (0x80 + y) ∷ (0x80 + z) ∷ [] → Form c
  form_4 : (w x y z : ℕ) → c ≡ w * 262144 + x * 4096 + y * 64 + z → enc_scalar c ≡ (0xF0 + w) ∷ (0x80 + x) ∷ (0x80 + y) ∷ (0x80 + z) ∷ [] → Form c

form : (c : ℕ) → Form c
form c =
    below c 0x80 (λ h. form_1 h (encode_1 c h)) (λ h.
    below c 0x800
    (λ k. let e : c / 64 * 64 + c % 64 ≡ c = omega arith in
    form_2 (c / 64) (c % 64) (sym e) (omega arith) (ap enc_scalar (sym e) ∙ encode_2 (c / 64) (c % 64) (omega arith) (omega arith) (omega arith)))
    (λ k. below c 0x10000
    (λ l. let e : c / 4096 * 4096 + c / 64 % 64 * 64 + c % 64 ≡ c = omega arith in
    form_3 (c / 4096) (c / 64 % 64) (c % 64) (sym e) (omega arith)
    (ap enc_scalar (sym e) ∙ encode_3 (c / 4096) (c / 64 % 64) (c % 64) (omega arith) (omega arith) (omega arith) (omega arith)))
    (λ l. let e : c / 262144 * 262144 + c / 4096 % 64 * 4096 + c / 64 % 64 * 64 + c % 64 ≡ c = omega arith in
    form_4 (c / 262144) (c / 4096 % 64) (c / 64 % 64) (c % 64) (sym e)
    (ap enc_scalar (sym e) ∙ encode_4 (c / 262144) (c / 4096 % 64) (c / 64 % 64) (c % 64) (omega arith) (omega arith) (omega arith) (omega arith)))))

-- two that begin one list
module _ (c d : ℕ) (u v : List ℕ) (h : enc_scalar c ++ u ≡ enc_scalar d ++ v) where
  firsts : {a b : ℕ} {x y : List ℕ} → enc_scalar c ≡ a ∷ x → enc_scalar d ≡ b ∷ y → (a ≡ b) × (x ++ u ≡ y ++ v)
  firsts {a} {b} {x} {y} p q =
      let k : a ∷ (x ++ u) ≡ b ∷ (y ++ v) = sym (ap (λ (l : List ℕ). l ++ u) p) ∙ h ∙ ap (λ (l : List ℕ). l ++ v) q in
      ((cc), (cc))

  same_forms : Form c → Form d → (c ≡ d) × (u ≡ v)
  same_forms (form_1 a p) (form_1 b q) = firsts p q
  same_forms (form_1 a p) (form_2 x y e l q) = let k = (firsts p q).0 in absurd (omega arith)
  same_forms (form_1 a p) (form_3 x y z e l q) = let k = (firsts p q).0 in absurd (omega arith)
  same_forms (form_1 a p) (form_4 w x y z e q) = let k = (firsts p q).0 in absurd (omega arith)
  same_forms (form_2 x y e l p) (form_1 b q) = let k = (firsts p q).0 in absurd (omega arith)
  same_forms (form_2 x y e l p) (form_2 x' y' e' l' q) =
      let k = firsts p q in
      let i : 0xC0 + x ≡ 0xC0 + x' = k.0 in
      let m : (0x80 + y) ∷ u ≡ (0x80 + y') ∷ v = k.1 in
      let j : 0x80 + y ≡ 0x80 + y' = cc in
      (omega arith, (cc))
  same_forms (form_2 x y e l p) (form_3 x' y' z' e' l' q) = let k = (firsts p q).0 in absurd (omega arith)
  same_forms (form_2 x y e l p) (form_4 w' x' y' z' e' q) = let k = (firsts p q).0 in absurd (omega arith)
  same_forms (form_3 x y z e l p) (form_1 b q) = let k = (firsts p q).0 in absurd (omega arith)
  same_forms (form_3 x y z e l p) (form_2 x' y' e' l' q) = let k = (firsts p q).0 in absurd (omega arith)
  same_forms (form_3 x y z e l p) (form_3 x' y' z' e' l' q) =
      let k = firsts p q in
      let i : 0xE0 + x ≡ 0xE0 + x' = k.0 in
      let m : (0x80 + y) ∷ (0x80 + z) ∷ u ≡ (0x80 + y') ∷ (0x80 + z') ∷ v = k.1 in
      let j : 0x80 + y ≡ 0x80 + y' = cc in
      let o : 0x80 + z ≡ 0x80 + z' = cc in
      (omega arith, (cc))
  same_forms (form_3 x y z e l p) (form_4 w' x' y' z' e' q) = let k = (firsts p q).0 in absurd (omega arith)
  same_forms (form_4 w x y z e p) (form_1 b q) = let k = (firsts p q).0 in absurd (omega arith)
  same_forms (form_4 w x y z e p) (form_2 x' y' e' l' q) = let k = (firsts p q).0 in absurd (omega arith)
  same_forms (form_4 w x y z e p) (form_3 x' y' z' e' l' q) = let k = (firsts p q).0 in absurd (omega arith)
  same_forms (form_4 w x y z e p) (form_4 w' x' y' z' e' q) =
      let k = firsts p q in
      let i : 0xF0 + w ≡ 0xF0 + w' = k.0 in
      let m : (0x80 + x) ∷ (0x80 + y) ∷ (0x80 + z) ∷ u ≡ (0x80 + x') ∷ (0x80 + y') ∷ (0x80 + z') ∷ v = k.1 in
      let j : 0x80 + x ≡ 0x80 + x' = cc in
      let o : 0x80 + y ≡ 0x80 + y' = cc in
      let r : 0x80 + z ≡ 0x80 + z' = cc in
      (omega arith, (cc))

encoded_more : (c : ℕ) (t : List ℕ) → enc_scalar c ++ t ≡ [] → ⊥
encoded_more c t h = go (form c)
  where
    none : {a : ℕ} {x : List ℕ} → enc_scalar c ≡ a ∷ x → ⊥
    none {a} {x} p = let k : a ∷ (x ++ t) ≡ [] = sym (ap (λ (l : List ℕ). l ++ t) p) ∙ h in let z : ◌≡◌ {A = ℕ} 0 1 = cc in omega arith

    go : Form c → ⊥
    go (form_1 a p) = none p
    go (form_2 x y e l p) = none p
    go (form_3 x y z e l p) = none p
    go (form_4 w x y z e p) = none p

-- Bytes are the encoding of at most one list of scalars.
pub scalars_injective : (cs ds : List ℕ) → enc_scalars cs ≡ enc_scalars ds → cs ≡ ds
unfolding enc_scalars enc_all
scalars_injective [] [] h = refl
scalars_injective [] (d ∷ ds) h = absurd (encoded_more d _ (sym h))
scalars_injective (c ∷ cs) [] h = absurd (encoded_more c _ h)
scalars_injective (c ∷ cs) (d ∷ ds) h =
    let k = same_forms c d _ _ h (form c) (form d) in
    let i : cs ≡ ds = scalars_injective cs ds k.1 in
    let j : c ≡ d = k.0 in
    cc
