-- Arguments that are checked one after the other: where they end, whether they are in order, and that runs join.
use Rattle.records.specs.Relations.Answer.{Next, Num}
use Rattle.std.specs.Prelude.{Option, Some, None}
use mathlib.Core.Path.{◌≡◌, refl, ap, sym, subst, ◌∙◌}
use mathlib.Core.List.{List, [], ◌∷◌}
use mathlib.Core.Bool.{Bool, true, false, ◌&&◌, not}
use mathlib.Core.Option.{some}
use Prim.Native.Nat.{ℕ, zero, suc, ◌+◌, ◌-◌, ◌%◌, ◌≤◌, ◌<◌}
use native.Mathlib.Omega.{arith}
use lib.ListN.{length, get_or}
use lib.Dec.{eqb}
use borrow.Author.Tests.{eqb-true, eq-eqb, ne_eqb, lt-leb}
use Rattle.arguments.specs.declared.Given.{Given}
use Rattle.arguments.specs.declared.Given.TheVariants as goal
use Rattle.arguments.specs.declared.image.Checked.{Checked}
use Rattle.records.specs.Got.{Got, got, bad, after}
use Rattle.records.specs.Relations.Answer.{next_of, num_of}
use Rattle.records.specs.Bytes.{part, byte_at, number_at, span_at, str_at}
use Rattle.records.specs.Decode.{many}
use Rattle.records.specs.Images.{Argument, argument_at}
use Rattle.records.proofs.Laws.{after_elim, got_elim, byte_inv, number_inv, next_end}
use Rattle.records.proofs.Views.{pick_elim, next_is, next_none, str_is, str_bad, id_str, many_cons, many_nil}
use Rattle.order.specs.Order.{before}
use Rattle.order.specs.Accepted.{leads, ascending, is_least, all_least, in_order}
use Rattle.arguments.specs.Relations.Given.{meant, between}
use Rattle.arguments.specs.Relations.Outline.{number_given, text_given, value_given, read_or, given_from}
use Rattle.arguments.specs.Relations.Checked.{is_whole, least_given, follows, stands_after, run_from}
use Rattle.arguments.proofs.Views.{argument_elim}
use Rattle.arguments.proofs.Found.{given_is, value_means}

-- where a run ends
unfoldable pub end_of : Option Checked → Next
end_of (Some c) = Some c.at
end_of None = None

pub run_ends : (n : ℕ) (s : List ℕ) (at last : ℕ) (fine : Bool) → end_of (run_from n s at last fine) ≡ next_of (many [] ◌∷◌ n argument_at s at)
unfolding end_of run_from many next_of read_or after
run_ends zero s at last fine = refl
run_ends (suc n) s at last fine = go (argument_at s at) (λ e. run_ends n s e at (fine && stands_after s last at))
  where
    go : (g : Got (List ℕ × Argument)) → ((e : ℕ) → end_of (run_from n s e at (fine && stands_after s last at)) ≡ next_of (many [] ◌∷◌ n argument_at s e))
        → end_of (read_or None g (λ a e. run_from n s e at (fine && stands_after s last at))) ≡ next_of (after g (λ a e. after (many [] ◌∷◌ n argument_at s e) (λ l f. got (a ∷ l) f)))
    go (got a e) ih = ih e ∙ next_end (λ (l : List (List ℕ × Argument)). a ∷ l) (many [] ◌∷◌ n argument_at s e) refl
    go bad ih = refl

-- one more argument, and none
module _ (s : List ℕ) (left at last : ℕ) (fine : Bool) {y : Option Checked} (inv : run_from left s at last fine ≡ y) where
  pub run_end : left ≤ 0 → Some (record { at = at; last = last; fine = fine }) ≡ y
  unfolding run_from
  run_end z = go left z ∙ inv
    where
      go : (n : ℕ) → n ≤ 0 → Some (record { at = at; last = last; fine = fine }) ≡ run_from n s at last fine
      go zero z = refl
      go (suc n) z = absurd (omega arith)

  module _ (z : 0 < left) {r : Next} (is : r ≡ next_of (argument_at s at)) where
    pub run_stop : r ≡ None → None ≡ y
    unfolding run_from read_or
    run_stop h = go left z ∙ inv
      where
        go : (n : ℕ) → 0 < n → None ≡ run_from n s at last fine
        go zero z = absurd (omega arith)
        go (suc n) z = rw (next_none is h)

    pub run_turn : {e : ℕ} → r ≡ Some e → {b : Bool} → b ≡ fine && stands_after s last at → run_from (left - 1) s e at b ≡ y
    unfolding run_from read_or
    run_turn {e} h {b} q = next_is is h (λ a ha. go a ha left z ∙ inv)
      where
        go : (a : List ℕ × Argument) → argument_at s at ≡ got a e → (n : ℕ) → 0 < n → run_from (n - 1) s e at b ≡ run_from n s at last fine
        go a ha zero z = absurd (omega arith)
        go a ha (suc n) z = let m : suc n - 1 ≡ n = omega arith in rw (m, ha, q)

-- a run, and what follows it
unfoldable pub then : Option Checked → (Checked → Option Checked) → Option Checked
then (Some c) f = f c
then None f = None

pub run_split : (a b n : ℕ) (s : List ℕ) (at last : ℕ) (fine : Bool) → n ≡ a + b → run_from n s at last fine ≡ then (run_from a s at last fine) (λ c. run_from b s c.at c.last c.fine)
unfolding run_from then read_or
run_split zero b n s at last fine e = let q : n ≡ b = omega arith in ap (λ (i : ℕ). run_from i s at last fine) q
run_split (suc a) b n s at last fine e = go n e (λ m i q. run_split a b m s i at (fine && stands_after s last at) q)
  where
    rest : Checked → Option Checked
    rest c = run_from b s c.at c.last c.fine

    by : (m : ℕ) (g : Got (List ℕ × Argument)) → ((i : ℕ) → run_from m s i at (fine && stands_after s last at) ≡ then (run_from a s i at (fine && stands_after s last at)) rest)
        → read_or None g (λ x i. run_from m s i at (fine && stands_after s last at)) ≡ then (read_or None g (λ x i. run_from a s i at (fine && stands_after s last at))) rest
    by m (got x i) ih = ih i
    by m bad ih = refl

    go : (k : ℕ) → k ≡ suc a + b → ((m i : ℕ) → m ≡ a + b → run_from m s i at (fine && stands_after s last at) ≡ then (run_from a s i at (fine && stands_after s last at)) rest)
        → run_from k s at last fine ≡ then (read_or None (argument_at s at) (λ x i. run_from a s i at (fine && stands_after s last at))) rest
    go zero q ih = absurd (omega arith)
    go (suc m) q ih = by m (argument_at s at) (λ i. ih m i (omega arith))

-- a value by its variant: only a number can have a longer scale
module _ {v w : Option Given} (is : v ≡ w) where
  pub least_number : {f : Bool} {d k : ℕ} → v ≡ Some (goal.Number f d k) → {b : Bool} → b ≡ is_least (Argument.number f d k) → b ≡ least_given w
  unfolding least_given
  least_number h e = e ∙ ap least_given (sym h ∙ is)

  pub least_missing : v ≡ None → true ≡ least_given w
  unfolding least_given
  least_missing h = ap least_given (sym h ∙ is)

  pub least_text : {a e : ℕ} → v ≡ Some (goal.Text a e) → true ≡ least_given w
  unfolding least_given
  least_text h = ap least_given (sym h ∙ is)

  pub least_nothing : v ≡ Some goal.Nothing → true ≡ least_given w
  unfolding least_given
  least_nothing h = ap least_given (sym h ∙ is)

least_whole : (f : Bool) (d k : ℕ) → k ≡ 0 → true ≡ is_least (Argument.number f d k)
unfolding is_least
least_whole f d k h = rw (eq-eqb k 0 h)

-- the test of the scale, where it holds
pub least_zero : (f : Bool) (d k : ℕ) → k ≡ 0 → eqb k 0 ≡ is_least (Argument.number f d k)
unfolding is_least
least_zero f d k h = rw (eq-eqb k 0 h)

pub least_digits : (f : Bool) (d k : ℕ) → (k ≡ 0 → ⊥) → not (eqb (d % 10) 0) ≡ is_least (Argument.number f d k)
unfolding is_least
least_digits f d k h = rw (ne_eqb k 0 h)

-- a value that is read: a number, by its parts, or no number
value_cases : {C : Type 0} (s : List ℕ) (at : ℕ) (g : Got Given) → value_given s at ≡ g → (least_given (given_from g) ≡ true → C)
    → ((f : Bool) (d k e : ℕ) → at + 10 < length s → get_or s at 0 ≡ 2 → k ≡ get_or s (at + 10) 0 → g ≡ got (goal.Number f d k) e → C) → C
unfolding value_given text_given number_given given_from read_or least_given
value_cases s at bad h c n = c refl
value_cases s at (got v e) h c n =
    after_elim (byte_at s at) _ h (λ t p hb h.
    pick_elim _ _ _ h
    (λ _ h. after_elim (span_at s p) _ h (λ a i hs h. got_elim h (λ x y. c (ap (λ (z : Given). least_given (Some z)) (sym x)))))
    (λ _ h. pick_elim _ _ _ h
    (λ two h.
    after_elim (byte_at s p) _ h (λ f q hf h.
    after_elim (number_at 8 s q) _ h (λ d r hd h.
    after_elim (byte_at s r) _ h (λ k i hk h. got_elim h (λ x y.
    let tb = byte_inv s at hb in
    let fb = byte_inv s p hf in
    let db = number_inv s 8 q hd in
    let kb = byte_inv s r hk in
    let er : r ≡ at + 10 = omega (arith, tb.2, fb.2, db.1) in
    n (eqb f 1) d k e (omega (arith, er, kb.0)) (sym tb.1 ∙ eqb-true t 2 two) (kb.1 ∙ ap (λ (j : ℕ). get_or s j 0) er) (ap (λ (z : Given). got z e) (sym x)))))))
    (λ _ h. got_elim h (λ x y. c (ap (λ (z : Given). least_given (Some z)) (sym x))))))

-- a value without a scale
module _ (s : List ℕ) (at : ℕ) where
  scale_none : at + 10 < length s → get_or s at 0 ≡ 2 → is_whole s at ≡ true → get_or s (at + 10) 0 ≡ 0
  unfolding is_whole
  scale_none lt two h = eqb-true (get_or s (at + 10) 0) 0 (rw (lt-leb (length s) (at + 10) lt, eq-eqb (get_or s at 0) 2 two) at h)

  whole_number : (f : Bool) (d k e : ℕ) → k ≡ 0 → least_given (given_from (got (goal.Number f d k) e)) ≡ true
  unfolding given_from read_or least_given
  whole_number f d k e z = sym (least_whole f d k z)

  pub whole_least : {b : Bool} → b ≡ is_whole s at → b ≡ true → true ≡ least_given (given_from (value_given s at))
  whole_least e h = value_cases s at (value_given s at) refl (λ c. sym c) (λ f d k i lt two ek w.
      sym (ap (λ (g : Got Given). least_given (given_from g)) w ∙ whole_number f d k i (ek ∙ scale_none lt two (sym e ∙ h))))

-- an argument by its name, and the one before it by its name
module _ (s : List ℕ) (last at : ℕ) {r : Num} (is : r ≡ num_of (span_at s at)) where
  pub stands_nowhere : r ≡ None → false ≡ stands_after s last at
  unfolding stands_after read_or
  stands_nowhere h = rw (str_bad s at is h)

  module _ {p e : ℕ} (h : r ≡ Some (p, e)) {b : Bool} (bs : b ≡ least_given (given_from (value_given s e))) where
    stands_by : stands_after s last at ≡ b && follows (str_at s last) (part s p (e - p))
    unfolding stands_after read_or
    stands_by = rw (str_is s at is h, bs)

    pub stands_longer : b ≡ false → false ≡ stands_after s last at
    stands_longer w = sym (stands_by ∙ ap (λ (x : Bool). x && follows (str_at s last) (part s p (e - p))) w)

    module _ (w : b ≡ true) {q : Num} (qs : q ≡ num_of (span_at s last)) where
      follows_by : stands_after s last at ≡ follows (str_at s last) (part s p (e - p))
      follows_by = stands_by ∙ ap (λ (x : Bool). x && follows (str_at s last) (part s p (e - p))) w

      pub stands_first : q ≡ None → true ≡ stands_after s last at
      unfolding follows
      stands_first k = sym (follows_by ∙ ap (λ (g : Got (List ℕ)). follows g (part s p (e - p))) (str_bad s last qs k))

      pub stands_behind : {a c : ℕ} → q ≡ Some (a, c) → {x : Bool} → x ≡ before (part s a (c - a)) (part s p (e - p)) → x ≡ stands_after s last at
      unfolding follows
      stands_behind k y = y ∙ sym (follows_by ∙ ap (λ (g : Got (List ℕ)). follows g (part s p (e - p))) (str_is s last qs k))

-- What a run says of the arguments that it read: each has the least scale, and its name follows the one before it.
unfoldable pub risen : Got (List ℕ) → List (List ℕ × Argument) → Bool
risen g [] = true
risen g (a ∷ l) = (is_least a.1 && follows g a.0) && risen (got a.0 0) l

risen_place : (n : List ℕ) (p q : ℕ) (l : List (List ℕ × Argument)) → risen (got n p) l ≡ risen (got n q) l
unfolding risen follows
risen_place n p q [] = refl
risen_place n p q (a ∷ l) = refl

and_assoc : (a b c : Bool) → (a && b) && c ≡ a && (b && c)
and_assoc true b c = refl
and_assoc false b c = refl

least_meant : (s : List ℕ) (v : Given) (a : Argument) → meant s (Some v) ≡ some a → least_given (Some v) ≡ is_least a
unfolding meant least_given is_least
least_meant s (goal.Text x e) a h = let q : Argument.string (between s x e) ≡ a = cc in ap is_least q
least_meant s (goal.Number f d k) a h = let q : Argument.number f d k ≡ a = cc in ap is_least q
least_meant s goal.Nothing a h = let q : Argument.nothing ≡ a = cc in ap is_least q

-- an argument that is read: its name stands there, and how it stands in order
stands_is : (s : List ℕ) (last at : ℕ) {a : List ℕ × Argument} {e : ℕ} → argument_at s at ≡ got a e
    → (p : ℕ) × (str_at s at ≡ got a.0 p) × (stands_after s last at ≡ is_least a.1 && follows (str_at s last) a.0)
unfolding stands_after read_or
stands_is s last at {a} {e} h =
    argument_elim s at h (λ n p v hi hv w.
    let k = value_means s p hv in
    let m : str_at s at ≡ got a.0 p = id_str s at hi ∙ ap (λ (y : List ℕ × Argument). got y.0 p) (sym w) in
    let least : least_given (given_from (value_given s p)) ≡ is_least a.1 = ap least_given (sym (given_is k.1)) ∙ least_meant s k.0 v k.2 ∙ ap (λ (y : List ℕ × Argument). is_least y.1) (sym w) in
    (p, m, rw (m, least)))

pub run_reads : (n : ℕ) (s : List ℕ) (at last : ℕ) (fine : Bool) {l : List (List ℕ × Argument)} {e : ℕ} → many [] ◌∷◌ n argument_at s at ≡ got l e
    → (last' : ℕ) × (run_from n s at last fine ≡ Some (record { at = e; last = last'; fine = fine && risen (str_at s last) l }))
unfolding run_from read_or risen
run_reads zero s at last fine {l} {e} h = many_nil [] ◌∷◌ argument_at s zero at (omega arith) h (λ w q. (last, rw (w, q) (ap (λ (b : Bool). Some (record { at = at; last = last; fine = b })) (ended fine))))
  where
    ended : (b : Bool) → b ≡ b && true
    ended true = refl
    ended false = refl
run_reads (suc n) s at last fine {l} {e} h =
    let m : suc n - 1 ≡ n = omega arith in
    many_cons [] ◌∷◌ argument_at s (suc n) at (omega arith) h (λ a i t ha ht w.
    let k = stands_is s last at ha in
    let x = run_reads n s i at (fine && stands_after s last at) (subst (λ (j : ℕ). many [] ◌∷◌ j argument_at s i ≡ got t e) m ht) in
    let f : (fine && stands_after s last at) && risen (str_at s at) t ≡ fine && risen (str_at s last) l =
    and_assoc fine (stands_after s last at) (risen (str_at s at) t)
    ∙ ap (λ (b : Bool). fine && (b && risen (str_at s at) t)) k.2
    ∙ ap (λ (g : Got (List ℕ)). fine && ((is_least a.1 && follows (str_at s last) a.0) && risen g t)) k.1
    ∙ ap (λ (b : Bool). fine && ((is_least a.1 && follows (str_at s last) a.0) && b)) (risen_place a.0 k.0 0 t)
    ∙ ap (λ (y : List (List ℕ × Argument)). fine && risen (str_at s last) y) (sym w) in
    (x.0, rw ha (x.1 ∙ ap (λ (b : Bool). Some (record { at = e; last = x.0; fine = b })) f)))

-- that is the order of the definition
shuffle : (p q r t : Bool) → (p && q) && (r && t) ≡ (q && r) && (p && t)
shuffle true true r t = refl
shuffle true false r t = refl
shuffle false true true t = refl
shuffle false true false t = refl
shuffle false false r t = refl

risen_after : (n : List ℕ) (l : List (List ℕ × Argument)) → risen (got n 0) l ≡ (leads n l && ascending l) && all_least l
unfolding risen follows leads ascending all_least
risen_after n [] = refl
risen_after n (a ∷ l) = ap (λ (b : Bool). (is_least a.1 && before n a.0) && b) (risen_after a.0 l) ∙ shuffle (is_least a.1) (before n a.0) (leads a.0 l && ascending l) (all_least l)

pub risen_all : (l : List (List ℕ × Argument)) → risen bad l ≡ in_order l
unfolding risen follows in_order ascending all_least
risen_all [] = refl
risen_all (a ∷ l) = ap (λ (b : Bool). (is_least a.1 && true) && b) (risen_after a.0 l) ∙ shuffle (is_least a.1) true (leads a.0 l && ascending l) (all_least l)
