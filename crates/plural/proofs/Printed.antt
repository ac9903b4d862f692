-- What stands where in the printed table.
use mathlib.Core.Path.{◌≡◌, ap, sym, subst, ◌∙◌}
use mathlib.Core.List.{List, [], ◌∷◌, ◌++◌, map, append_assoc}
use Prim.Native.Nat.{ℕ, zero, suc, ◌+◌, ◌*◌, ◌<◌, ◌≤◌}
use native.Mathlib.Nat.{zero-add, suc-mul, zero-mul, not-suc-le-zero, le_of_suc-le-suc}
use native.Mathlib.Omega.{arith}
use lib.ListN.{length, get_or, length-append, get_or-append}
use lib.Seq.{get_or-append-add}
use Rattle.categories.proofs.Entries.{read_inside}
use Rattle.decimals.specs.declared.types.Kind.{Kind}
use Rattle.plural.specs.Plural.{whole_operands, rule_of}
use Rattle.plural.specs.Table.{line, rule_set, digit_of, in_digits, table, joined, printed}
use Rattle.plural.proofs.Table.{digits_line, digits_length, digits_at, digits_long, eight}

-- a line with its line feed, and what stands behind it
module _ (l rest : List ℕ) (w : ℕ) (n : length l ≡ w) where
  line_here : (k : ℕ) → k ≤ w → get_or (l ++ (10 ∷ rest)) k 0 ≡ get_or (l ++ (10 ∷ [])) k 0
  line_here k h =
      let long : length (l ++ (10 ∷ [])) ≡ suc w = length-append l (10 ∷ []) ∙ omega (arith, n) in
      ap (λ (x : List ℕ). get_or x k 0) (sym (append_assoc l (10 ∷ []) rest)) ∙ get_or-append (l ++ (10 ∷ [])) rest 0 k (omega (arith, long))

  line_past : (j : ℕ) → get_or (l ++ (10 ∷ rest)) (suc w + j) 0 ≡ get_or rest j 0
  line_past j =
      let at : suc w + j ≡ length l + suc j = omega (arith, n) in
      ap (λ (k : ℕ). get_or (l ++ (10 ∷ rest)) k 0) at ∙ get_or-append-add l (10 ∷ rest) (suc j) 0

-- the first line, and the next one
first_line : (w k : ℕ) → 0 * suc w + k ≡ k
first_line w k = ap (λ (z : ℕ). z + k) (zero-mul (suc w)) ∙ zero-add k

next_line : (r w k : ℕ) → suc r * suc w + k ≡ suc w + (r * suc w + k)
next_line r w k = let e : suc r * suc w ≡ r * suc w + suc w = suc-mul r (suc w) in omega (arith, e)

-- where all lines have one length, a byte of a line or the line feed behind it
joined_at : (w : ℕ) (ls : List (List ℕ)) → ((r : ℕ) → r < length ls → length (get_or ls r []) ≡ w) → (r k : ℕ) → r < length ls → k ≤ w → get_or (joined ls) (r * suc w + k) 0 ≡ get_or (get_or ls r [] ++ (10 ∷ [])) k 0
unfolding joined
joined_at w [] n r k h b = absurd (not-suc-le-zero h)
joined_at w (l ∷ ls) n zero k h b = ap (λ (j : ℕ). get_or (l ++ (10 ∷ joined ls)) j 0) (first_line w k) ∙ line_here l (joined ls) w (n 0 h) k b
joined_at w (l ∷ ls) n (suc r) k h b =
    ap (λ (j : ℕ). get_or (l ++ (10 ∷ joined ls)) j 0) (next_line r w k)
    ∙ line_past l (joined ls) w (n 0 (omega arith)) (r * suc w + k)
    ∙ joined_at w ls (λ (j : ℕ) (m : j < length ls). n (suc j) (omega arith)) r k (le_of_suc-le-suc h) b

printed_line : (r k : ℕ) → r < 8 → k ≤ 200 → get_or printed (r * 201 + k) 0 ≡ get_or (get_or (in_digits table) r [] ++ (10 ∷ [])) k 0
unfolding printed
printed_line r k h b = joined_at 200 (in_digits table) digits_long r k (subst (λ (n : ℕ). r < n) (sym eight) h) b

-- in the place of a line and a number stands the line's digit
pub printed_digit : (r n : ℕ) → r < 8 → n < 200 → get_or printed (r * 201 + n) 0 ≡ get_or (get_or (in_digits table) r []) n 0
printed_digit r n h b =
    let long : length (get_or (in_digits table) r []) ≡ 200 = digits_long r (subst (λ (n : ℕ). r < n) (sym eight) h) in
    printed_line r n h (omega arith) ∙ get_or-append (get_or (in_digits table) r []) (10 ∷ []) 0 n (omega arith)

-- and behind each line its line feed
pub printed_end : (r : ℕ) → r < 8 → get_or printed (r * 201 + 200) 0 ≡ 10
printed_end r h =
    let long : length (get_or (in_digits table) r []) ≡ 200 = digits_long r (subst (λ (n : ℕ). r < n) (sym eight) h) in
    let end : 200 ≡ length (get_or (in_digits table) r []) + 0 = omega arith in
    printed_line r 200 h (omega arith) ∙ ap (λ (k : ℕ). get_or (get_or (in_digits table) r [] ++ (10 ∷ [])) k 0) end ∙ get_or-append-add (get_or (in_digits table) r []) (10 ∷ []) 0 0

-- which is that of the conditions
pub line_digit : (k : Kind) (locale n : ℕ) {r : ℕ} → r ≡ rule_set k locale → locale < 4 → n < 200 → get_or (get_or (in_digits table) r []) n 0 ≡ digit_of (rule_of k locale (whole_operands n))
line_digit k locale n e h b =
    ap (λ (j : ℕ). get_or (get_or (in_digits table) j []) n 0) e
    ∙ ap (λ (l : List ℕ). get_or l n 0) (digits_line k locale h)
    ∙ read_inside (map digit_of (line k locale)) n 0 53 (omega (arith, digits_length k locale))
    ∙ digits_at k locale n b
