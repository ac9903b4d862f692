-- Laws of plural operands and categories.
use mathlib.Core.Path.{◌≡◌, refl, ap, sym, ◌∙◌}
use mathlib.Core.Bool.{Bool, true, false, ◌&&◌, ◌||◌, not}
use Prim.Native.Nat.{ℕ, zero, suc, ◌+◌, ◌*◌, ◌/◌, ◌%◌, ◌^◌, max, ◌≤◌, ◌<◌}
use native.Mathlib.Omega.{arith}
use native.Mathlib.Nat.{pow-succ', mod-one, div-add-mod', mul_left_comm}
use lib.Dec.{eqb, leb}
use borrow.Author.Tests.{leb-true, eq-eqb, ne_eqb, eqb-true}
use Rattle.plural.specs.declared.conditions.Seen as CodeSeen
use Rattle.decimals.specs.Decimal.{Number, shortest, or_zero}
use Rattle.plural.specs.Plural.{Operands, operands_of, operands, whole_operands, en_cardinal, da_cardinal, ru_whole, ru_cardinal, cy_whole, cy_cardinal, en_place, en_ordinal, cy_place, cy_ordinal, rule_of, category}
use Rattle.decimals.specs.Bytes.{choose, within}
use Rattle.decimals.specs.declared.types.Kind.{Kind}
use Rattle.decimals.specs.declared.types.Kind.TheVariants.{Cardinal, Ordinal}
use Rattle.plural.specs.Relations.Shown.{Shows}
use Rattle.decimals.specs.Relations.Shown.{shown, told}
use Rattle.decimals.proofs.Shown.{count_there}
use Rattle.decimals.proofs.Shortest.{shortest_trim}

-- a fraction that is 0 has its last digit 0
ends_zero : (p s : ℕ) → (s ≡ 0 → ⊥) → p % 10 ^ s ≡ 0 → p % 10 ≡ 0
ends_zero p zero h e = absurd (h refl)
ends_zero p (suc s) h e =
    let q : ℕ = p / 10 ^ suc s in
    let a : q * 10 ^ suc s + p % 10 ^ suc s ≡ p = div-add-mod' p (10 ^ suc s) in
    let b : q * 10 ^ suc s ≡ 10 * (q * 10 ^ s) = ap (λ (n : ℕ). q * n) (pow-succ' 10 s) ∙ mul_left_comm q 10 (10 ^ s) in
    omega (arith, a, b, e)

larger : (s m : ℕ) → (s ≡ 0 → ⊥) → max s m ≡ 0 → ⊥
larger s m h e = h (omega arith)

module _ (n : Number) {p s : ℕ} (e : shortest n.digits n.scale ≡ (p, s)) {o : CodeSeen.Seen} where
  pub shows_whole : s ≡ 0 → o.i ≡ p / 10 ^ s → o.no_digits ≡ eqb (or_zero n.options.minimum_fraction_digits) 0 → o.no_fraction ≡ true → Shows (operands n) o
  unfolding operands operands_of
  shows_whole z i v t =
      let m : ℕ = or_zero n.options.minimum_fraction_digits in
      let w : max s m ≡ m = omega (arith, z) in
      let x : p % 10 ^ s ≡ 0 = rw z (mod-one p) in
      rw (e, operands) (record { i = i; v = v ∙ sym (ap (λ (k : ℕ). eqb k 0) w); t = t ∙ sym (eq-eqb (p % 10 ^ s) 0 x) })

  pub shows_part : (s ≡ 0 → ⊥) → o.i ≡ p / 10 ^ s → o.no_digits ≡ false → o.no_fraction ≡ false → Shows (operands n) o
  unfolding operands operands_of
  shows_part z i v t =
      let m : ℕ = or_zero n.options.minimum_fraction_digits in
      let f : 0 < s → p % 10 ≡ 0 → ⊥ = rw e at (shortest_trim n.digits n.scale) in
      let g : p % 10 ^ s ≡ 0 → ⊥ = λ x. f (omega (arith, z)) (ends_zero p s z x) in
      rw (e, operands) (record { i = i; v = v ∙ sym (ne_eqb (max s m) 0 (larger s m z)); t = t ∙ sym (ne_eqb (p % 10 ^ s) 0 g) })

-- operands that are whole
whole_of : (x : Operands) {i : ℕ} → i ≡ x.i → x.v ≡ 0 → x.t ≡ 0 → whole_operands i ≡ x
unfolding whole_operands
whole_of x e v t = λ j. record { i = e j; v = sym v j; t = sym t j }

-- a number with v = 0 is whole
pub whole_operands_law : (n : Number) {i : ℕ} → i ≡ (operands n).i → (operands n).v ≡ 0 → whole_operands i ≡ operands n
unfolding operands operands_of
whole_operands_law n e v =
    let p : ℕ = (shortest n.digits n.scale).0 in
    let s : ℕ = (shortest n.digits n.scale).1 in
    let m : max s (or_zero n.options.minimum_fraction_digits) ≡ 0 = v in
    let z : s ≡ 0 = omega arith in
    let f : p % 10 ^ s ≡ 0 = rw z (mod-one p) in
    whole_of (operands n) e v f

-- and so is one of which the code sees no fraction digit
pub shows_none : (n : Number) {o : CodeSeen.Seen} → Shows (operands n) o → o.no_digits ≡ true → whole_operands o.i ≡ operands n
shows_none n h t = whole_operands_law n h.i (eqb-true _ _ (sym h.v ∙ t))

pub cy_low : (n : ℕ) → n ≤ 2 → cy_place n ≡ n
unfolding cy_place
cy_low zero h = refl
cy_low (suc zero) h = refl
cy_low (suc (suc zero)) h = refl
cy_low (suc (suc (suc n))) h = absurd (omega arith)

either : (t : Bool) (a b : ℕ) → a ≤ 5 → b ≤ 5 → choose t a b ≤ 5
either true a b h k = h
either false a b h k = k

-- a number that a test found small
low : (m n : ℕ) {b : ℕ} → m ≤ 5 → b ≤ 5 → choose (leb n m) n b ≤ 5
low m n {b} h k = go (leb n m) refl
  where
    go : (t : Bool) → leb n m ≡ t → choose t n b ≤ 5
    go true e = omega (arith, leb-true n m e)
    go false e = k

places : (n : ℕ) (t : Bool) → choose (within 1 3 n && t) n 5 ≤ 5
places n t = go (leb 1 n) (leb n 3) refl t
  where
    go : (a b : Bool) → leb n 3 ≡ b → (t : Bool) → choose (a && b && t) n 5 ≤ 5
    go true true e true = omega (arith, leb-true n 3 e)
    go true true e false = omega arith
    go true false e t = omega arith
    go false b e t = omega arith

en_bound : (x : Operands) → en_cardinal x ≤ 5
unfolding en_cardinal
en_bound x = either (eqb x.i 1 && eqb x.v 0) 1 5 (omega arith) (omega arith)

da_bound : (x : Operands) → da_cardinal x ≤ 5
unfolding da_cardinal
da_bound x = either ((eqb x.t 0 && eqb x.i 1) || (not (eqb x.t 0) && leb x.i 1)) 1 5 (omega arith) (omega arith)

ru_bound : (x : Operands) → ru_cardinal x ≤ 5
unfolding ru_cardinal ru_whole
ru_bound x = either (eqb x.v 0) _ 5 (either (eqb (x.i % 10) 1 && not (eqb (x.i % 100) 11)) 1 _ (omega arith) (either (within 2 4 (x.i % 10) && not (within 12 14 (x.i % 100))) 3 4 (omega arith) (omega arith))) (omega arith)

cy_bound : (x : Operands) → cy_cardinal x ≤ 5
unfolding cy_cardinal cy_whole
cy_bound x = either (eqb x.t 0) _ 5 (low 3 x.i (omega arith) (either (eqb x.i 6) 4 5 (omega arith) (omega arith))) (omega arith)

place_bound : (x : Operands) → en_ordinal x ≤ 5
unfolding en_ordinal en_place
place_bound x = either (eqb x.t 0) _ 5 (places (x.i % 10) (not (within 11 13 (x.i % 100)))) (omega arith)

order_bound : (x : Operands) → cy_ordinal x ≤ 5
unfolding cy_ordinal cy_place
order_bound x = either (eqb x.t 0) _ 5 (either (eqb x.i 0 || within 7 9 x.i) 0 _ (omega arith) (low 2 x.i (omega arith) (either (leb x.i 4) 3 _ (omega arith) (either (leb x.i 6) 4 5 (omega arith) (omega arith))))) (omega arith)

-- every category is one of six
pub rule_bound : (k : Kind) (locale : ℕ) (x : Operands) → rule_of k locale x ≤ 5
unfolding rule_of
rule_bound Cardinal locale x = either (eqb locale 0) _ _ (en_bound x) (either (eqb locale 1) _ _ (da_bound x) (either (eqb locale 2) _ _ (ru_bound x) (either (eqb locale 3) _ _ (cy_bound x) (omega arith))))
rule_bound Ordinal locale x = either (eqb locale 0) _ _ (place_bound x) (either (eqb locale 3) _ _ (order_bound x) (omega arith))

pub category_bound : (locale : ℕ) (n : Number) → category locale n ≤ 5
unfolding category
category_bound locale n = rule_bound n.options.kind locale (operands n)

-- the category of a number is that of what the code shows of it
pub category_shown : (locale : ℕ) (n : Number) → category locale (told (shown n)) ≡ category locale n
unfolding category operands
category_shown locale n = simp count_there
