-- The table that is held is the one that the written conditions give, for every whole number with v = 0.
use mathlib.Core.Path.{◌≡◌, refl, ap, sym, subst, ◌∙◌}
use mathlib.Core.List.{List, [], map}
use mathlib.Core.Bool.{Bool, true, false}
use Prim.Native.Nat.{ℕ, zero, suc, ◌+◌, ◌*◌, ◌%◌, ◌<◌, ◌≤◌}
use native.Mathlib.Nat.{add-zero, zero-add, suc-add, add-suc, not-suc-le-zero, le_of_suc-le-suc}
use native.Mathlib.Omega.{arith}
use lib.Dec.{eqb, leb, ltb}
use lib.ListN.{length, get_or, length-map, get_or-map}
use borrow.Author.Tests.{lt-leb, le-leb, ne_eqb, ltb-true, ltb-false}
use Rattle.categories.specs.Held.{held, entry_of, held_digit}
use Rattle.categories.proofs.Entries.{entry_low, entry_high, entry_bound, no_line}
use Rattle.decimals.specs.Decimal.{Number, kind_number}
use Rattle.decimals.specs.declared.types.Kind.{Kind}
use Rattle.decimals.specs.declared.types.Kind.TheVariants.{Cardinal, Ordinal}
use Rattle.plural.specs.Plural.{Operands, operands, whole_operands, en_cardinal, da_cardinal, ru_whole, ru_cardinal, cy_whole, cy_cardinal, en_place, en_ordinal, cy_place, cy_ordinal, rule_of, category}
use Rattle.plural.specs.Table.{categories_from, line, lines_from, table, rule_set, digit_of, in_digits, joined, printed, TableRight}
use Rattle.plural.proofs.Categories.{whole_operands_law}

-- one test over the whole table, which the checker computes
fact : held ≡ in_digits table
unfolding held in_digits digit_of table lines_from line categories_from rule_of whole_operands en_cardinal da_cardinal ru_whole ru_cardinal cy_whole cy_cardinal en_place en_ordinal cy_place cy_ordinal
fact = refl

-- of two numbers of 100 and more that end in the same two digits the conditions of a rule set say the same
alike : (k : Kind) (locale a b : ℕ) → 100 ≤ a → 100 ≤ b → a % 100 ≡ b % 100 → rule_of k locale (whole_operands a) ≡ rule_of k locale (whole_operands b)
unfolding rule_of whole_operands en_cardinal da_cardinal ru_whole ru_cardinal cy_whole cy_cardinal en_place en_ordinal cy_place cy_ordinal
alike k locale a b p q e = by k
  where
    tens : a % 10 ≡ b % 10
    tens = omega (arith, e)

    other : (n c : ℕ) → 100 ≤ n → c < 100 → eqb n c ≡ false
    other n c h l = ne_eqb n c (λ (e : n ≡ c). omega arith)

    more : (n c : ℕ) → 100 ≤ n → c < 100 → leb n c ≡ false
    more n c h l = lt-leb n c (omega arith)

    by : (k : Kind) → rule_of k locale (whole_operands a) ≡ rule_of k locale (whole_operands b)
    by Cardinal = simp (other a 1 p (omega arith), other b 1 q (omega arith), more a 1 p (omega arith), more b 1 q (omega arith), more a 3 p (omega arith), more b 3 q (omega arith), other a 6 p (omega arith), other b 6 q (omega arith), e, tens)
    by Ordinal = simp (other a 0 p (omega arith), other b 0 q (omega arith), more a 9 p (omega arith), more b 9 q (omega arith), more a 2 p (omega arith), more b 2 q (omega arith), more a 4 p (omega arith), more b 4 q (omega arith), more a 6 p (omega arith), more b 6 q (omega arith), le-leb 7 a (omega arith), le-leb 7 b (omega arith), e, tens)

far : (k : Kind) (locale n : ℕ) → 100 ≤ n → rule_of k locale (whole_operands n) ≡ rule_of k locale (whole_operands (100 + n % 100))
far k locale n h = alike k locale n (100 + n % 100) h (omega arith) (omega arith)

-- a number and the one whose entry it uses have the same category
same_entry : (k : Kind) (locale n : ℕ) → rule_of k locale (whole_operands (entry_of n)) ≡ rule_of k locale (whole_operands n)
same_entry k locale n = go (ltb n 100) refl
  where
    go : (t : Bool) → ltb n 100 ≡ t → rule_of k locale (whole_operands (entry_of n)) ≡ rule_of k locale (whole_operands n)
    go true e = ap (λ (m : ℕ). rule_of k locale (whole_operands m)) (entry_low n (ltb-true n 100 e))
    go false e = ap (λ (m : ℕ). rule_of k locale (whole_operands m)) (entry_high n (ltb-false n 100 e)) ∙ sym (far k locale n (ltb-false n 100 e))

-- the categories of so many numbers: how many they are, and what stands at a place
categories_length : (k : Kind) (locale m n : ℕ) → length (categories_from k locale m n) ≡ n
unfolding categories_from
categories_length k locale m zero = refl
categories_length k locale m (suc n) = ap suc (categories_length k locale (suc m) n)

categories_at : (k : Kind) (locale m n i d : ℕ) → i < n → get_or (categories_from k locale m n) i d ≡ rule_of k locale (whole_operands (m + i))
unfolding categories_from
categories_at k locale m zero i d h = absurd (not-suc-le-zero h)
categories_at k locale m (suc n) zero d h = ap (λ (j : ℕ). rule_of k locale (whole_operands j)) (sym (add-zero m))
categories_at k locale m (suc n) (suc i) d h =
    categories_at k locale (suc m) n i d (le_of_suc-le-suc h) ∙ ap (λ (j : ℕ). rule_of k locale (whole_operands j)) (suc-add m i ∙ sym (add-suc m i))

-- a line of the table by the number of its rule set
lines_at : (k : Kind) (m n locale : ℕ) → locale < n → get_or (lines_from m n) (locale * 2 + kind_number k) [] ≡ line k (m + locale)
unfolding lines_from
lines_at k m zero locale h = absurd (not-suc-le-zero h)
lines_at Cardinal m (suc n) zero h = ap (line Cardinal) (sym (add-zero m))
lines_at Ordinal m (suc n) zero h = ap (line Ordinal) (sym (add-zero m))
lines_at k m (suc n) (suc locale) h =
    let e : suc locale * 2 + kind_number k ≡ suc (suc (locale * 2 + kind_number k)) = omega arith in
    ap (λ (j : ℕ). get_or (lines_from m (suc n)) j []) e ∙ lines_at k (suc m) n locale (le_of_suc-le-suc h) ∙ ap (line k) (suc-add m locale ∙ sym (add-suc m locale))

kind_bound : (k : Kind) → kind_number k < 2
kind_bound Cardinal = omega arith
kind_bound Ordinal = omega arith

-- a line in digits, its length and what stands at a place of it
module _ (k : Kind) (locale : ℕ) where
  pub digits_line : locale < 4 → get_or (in_digits table) (rule_set k locale) [] ≡ map digit_of (line k locale)
  unfolding in_digits table rule_set
  digits_line h = get_or-map (λ (x : List ℕ). map digit_of x) table (locale * 2 + kind_number k) [] ∙ ap (λ (x : List ℕ). map digit_of x) (lines_at k 0 4 locale h ∙ ap (line k) (zero-add locale))

  pub digits_length : length (map digit_of (line k locale)) ≡ 200
  unfolding line
  digits_length = length-map (line k locale) digit_of ∙ categories_length k locale 0 200

  pub digits_at : (n : ℕ) → n < 200 → get_or (map digit_of (line k locale)) n 53 ≡ digit_of (rule_of k locale (whole_operands n))
  unfolding line digit_of
  digits_at n h = get_or-map digit_of (line k locale) n 5 ∙ ap digit_of (categories_at k locale 0 200 n 5 h ∙ ap (λ (j : ℕ). rule_of k locale (whole_operands j)) (zero-add n))

-- the table has eight lines, all of 200
pub eight : length (in_digits table) ≡ 8
unfolding in_digits table lines_from
eight = refl

lines_long : (m n r : ℕ) → r < length (lines_from m n) → length (get_or (lines_from m n) r []) ≡ 200
unfolding lines_from line
lines_long m zero r h = absurd (not-suc-le-zero h)
lines_long m (suc n) zero h = categories_length Cardinal m 0 200
lines_long m (suc n) (suc zero) h = categories_length Ordinal m 0 200
lines_long m (suc n) (suc (suc r)) h = lines_long (suc m) n r (le_of_suc-le-suc (le_of_suc-le-suc h))

pub digits_long : (r : ℕ) → r < length (in_digits table) → length (get_or (in_digits table) r []) ≡ 200
unfolding in_digits table
digits_long r h =
    ap length (get_or-map (λ (x : List ℕ). map digit_of x) table r [])
    ∙ length-map (get_or table r []) digit_of
    ∙ lines_long 0 4 r (subst (λ (n : ℕ). r < n) (length-map table (λ (x : List ℕ). map digit_of x)) h)

-- a locale that has no line
no_rules : (k : Kind) (locale n : ℕ) → 4 ≤ locale → rule_of k locale (whole_operands n) ≡ 5
unfolding rule_of
no_rules Cardinal locale n h = simp (ne_eqb locale 0 (λ (e : locale ≡ 0). omega arith), ne_eqb locale 1 (λ (e : locale ≡ 1). omega arith), ne_eqb locale 2 (λ (e : locale ≡ 2). omega arith), ne_eqb locale 3 (λ (e : locale ≡ 3). omega arith))
no_rules Ordinal locale n h = simp (ne_eqb locale 0 (λ (e : locale ≡ 0). omega arith), ne_eqb locale 3 (λ (e : locale ≡ 3). omega arith))

whole : (k : Kind) (locale n : ℕ) → held_digit (rule_set k locale) n ≡ digit_of (rule_of k locale (whole_operands n))
unfolding held_digit rule_set digit_of
whole k locale n = go (ltb locale 4) refl
  where
    go : (t : Bool) → ltb locale 4 ≡ t → held_digit (rule_set k locale) n ≡ digit_of (rule_of k locale (whole_operands n))
    go true e =
        ap (λ (t : List (List ℕ)). get_or (get_or t (rule_set k locale) []) (entry_of n) 53) fact
        ∙ ap (λ (l : List ℕ). get_or l (entry_of n) 53) (digits_line k locale (ltb-true locale 4 e))
        ∙ digits_at k locale (entry_of n) (entry_bound n)
        ∙ ap digit_of (same_entry k locale n)
    go false e =
        let h : 4 ≤ locale = ltb-false locale 4 e in
        sym (no_line (rule_set k locale) (entry_of n) (omega arith)) ∙ sym (ap digit_of (no_rules k locale n h))

uses : (locale : ℕ) (n : Number) → (operands n).v ≡ 0 → held_digit (rule_set n.options.kind locale) (operands n).i ≡ digit_of (category locale n)
unfolding category
uses locale n v = whole n.options.kind locale (operands n).i ∙ ap (λ (x : Operands). digit_of (rule_of n.options.kind locale x)) (whole_operands_law n refl v)

print : printed ≡ joined held
unfolding printed
print = sym (ap joined fact)

size : length printed ≡ 1608
unfolding held joined
size = ap length print

pub table_right : TableRight
table_right = record { fact = fact; far = far; whole = whole; uses = uses; print = print; size = size }

-- the digit that the code reads
pub digit_right : (k : Kind) (locale n : ℕ) {c d : ℕ} → c ≡ kind_number k → d ≡ held_digit (locale * 2 + c) n → d ≡ 48 + rule_of k locale (whole_operands n)
unfolding rule_set digit_of
digit_right k locale n e h = h ∙ ap (λ (j : ℕ). held_digit (locale * 2 + j) n) e ∙ whole k locale n
