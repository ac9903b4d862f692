-- The loop that checks all arguments in runs and notes the first of each.
use mathlib.Core.Path.{◌≡◌, refl, ap, sym, subst, ◌∙◌}
use mathlib.Core.List.{List, [], ◌∷◌}
use mathlib.Core.Bool.{Bool, true, false}
use Prim.Native.Nat.{ℕ, ◌+◌, ◌-◌, ◌*◌, ◌≤◌, ◌<◌, min}
use native.Mathlib.Omega.{arith}
use Rattle.std.specs.Int.{div_ceil}
use Rattle.std.proofs.lemmas.Grind.{div_ceil_times}
use native.Mathlib.Nat.{mul-le-mul_right, zero-mul, add-mul, one-mul}
use lib.ListN.{length, take, drop, get_or, set}
use lib.Seq.{get_or-set_same, get_or-set_other}
use Rattle.std.proofs.Math.ListN.{length-set}
use lib.Dec.{ltb, eqb}
use borrow.Author.Tests.{ltb-true, ltb-false, eqb-true, eqb-false}
use Rattle.arguments.specs.declared.image.Checked.{Checked}
use Rattle.std.specs.Prelude.{Option, Some, None}
use Rattle.records.specs.Got.{got}
use Rattle.records.specs.Decode.{many}
use Rattle.records.specs.Images.{Argument, argument_at}
use Rattle.arguments.specs.Relations.Checked.{run_from}
use Rattle.arguments.specs.Relations.Places.{step_of, PlacesOf, Notes}
use Rattle.arguments.proofs.Placed.{many_split}
use Rattle.arguments.proofs.Running.{then, run_split, run_reads, run_end}

-- a place is where the arguments before it end
abbrev PlaceIs : List ℕ → ℕ → ℕ → ℕ → ℕ → Type 0
PlaceIs s from n j p = (l : List (List ℕ × Argument)) (e : ℕ) → many [] ◌∷◌ (j * step_of n) argument_at s from ≡ got l e → p ≡ e

-- So many places are noted, and the arguments that are left end as all of them do.
pub record Noting (s : List ℕ) (from n : ℕ) (places : List ℕ) (run : Checked) (place : ℕ) : Type 0 where
  pub long : length places ≡ 256
  pub whole : run_from (n - place * step_of n) s run.at run.last run.fine ≡ run_from n s from (length s) true
  pub noted : (j : ℕ) → j < place → PlaceIs s from n j (get_or places j 0)
  pub here : place * step_of n < n → PlaceIs s from n place run.at

pub noting_start : (s : List ℕ) (from n : ℕ) (places : List ℕ) → length places ≡ 256 → Noting s from n places (record { at = from; last = length s; fine = true }) 0
unfolding many
noting_start s from n places long = record {
  long = long;
  whole = let e : n - 0 * step_of n ≡ n = omega (arith, zero-mul (step_of n)) in rw e;
  noted = λ j h. absurd (omega arith);
  here = λ _ l e h. first l e (subst (λ (i : ℕ). many [] ◌∷◌ i argument_at s from ≡ got l e) (zero-mul (step_of n)) h);
}
  where
    first : (l : List (List ℕ × Argument)) (e : ℕ) → got [] from ≡ got l e → from ≡ e
    first l e h = cc

-- a place that is reached is before the last, and there are no more than 256
below : (i j k : ℕ) → i * k < j * k → i < j
below i j k h = go (ltb i j) refl
  where
    go : (t : Bool) → ltb i j ≡ t → i < j
    go true e = ltb-true i j e
    go false e = let w : j * k ≤ i * k = mul-le-mul_right k (ltb-false i j e) in absurd (omega arith)

step_next : (place n : ℕ) → (place + 1) * step_of n ≡ place * step_of n + step_of n
step_next place n = add-mul place 1 (step_of n) ∙ ap (λ (i : ℕ). place * step_of n + i) (one-mul (step_of n))

-- as many places as steps begin below n
module _ (n place : ℕ) where
  pub place_room : place < div_ceil n (step_of n) → place * step_of n < n
  place_room h =
      let w : (place + 1) * step_of n ≤ div_ceil n (step_of n) * step_of n = mul-le-mul_right (step_of n) (omega arith) in
      omega (arith, step_next place n, (div_ceil_times n (step_of n) (omega arith)).1)

  pub place_last : div_ceil n (step_of n) ≤ place → n ≤ place * step_of n
  place_last h =
      let w : div_ceil n (step_of n) * step_of n ≤ place * step_of n = mul-le-mul_right (step_of n) h in
      omega (arith, (div_ceil_times n (step_of n) (omega arith)).0)

  pub place_below : place * step_of n < n → place < 256
  place_below z = below place 256 (step_of n) (omega arith)

module _ {s : List ℕ} {from n : ℕ} {places : List ℕ} {run : Checked} {place : ℕ} (inv : Noting s from n places run place) where
  pub noting_end : n ≤ place * step_of n → (Some run ≡ run_from n s from (length s) true) × Notes s from n places (Some run)
  unfolding Notes PlacesOf
  noting_end z = (run_end s (n - place * step_of n) run.at run.last run.fine inv.whole (omega arith), λ j h. inv.noted j (below j place (step_of n) (omega arith)))

  module _ (z : place * step_of n < n) {m : ℕ} (hm : m ≡ min (step_of n) (n - place * step_of n)) {r : Option Checked} (is : r ≡ run_from m s run.at run.last run.fine) where
    parted : run_from n s from (length s) true ≡ then r (λ c. run_from (n - (place + 1) * step_of n) s c.at c.last c.fine)
    parted =
        sym inv.whole
        ∙ run_split m (n - (place + 1) * step_of n) (n - place * step_of n) s run.at run.last run.fine (omega (arith, step_next place n))
        ∙ ap (λ (x : Option Checked). then x (λ c. run_from (n - (place + 1) * step_of n) s c.at c.last c.fine)) (sym is)

    pub noting_stop : (q : List ℕ) {x : Option Checked} → r ≡ None → x ≡ None → (x ≡ run_from n s from (length s) true) × Notes s from n q x
    unfolding then Notes
    noting_stop q {x} h e = (e ∙ sym (parted ∙ ap (λ (y : Option Checked). then y (λ c. run_from (n - (place + 1) * step_of n) s c.at c.last c.fine)) h), subst (Notes s from n q) (sym e) tt)

    module _ {c : Checked} (h : r ≡ Some c) {q : List ℕ} (set_is : q ≡ set places place run.at) where
      -- where the run ends, if it is a whole one
      run_at : m ≡ step_of n → PlaceIs s from n (place + 1) c.at
      run_at w l e hl =
          let k = many_split s (place * step_of n) (step_of n) ((place + 1) * step_of n) from (step_next place n) hl in
          let a : run.at ≡ k.0 = inv.here z (take (place * step_of n) l) k.0 k.1 in
          let y = run_reads (step_of n) s run.at run.last run.fine (subst (λ (i : ℕ). many [] ◌∷◌ (step_of n) argument_at s i ≡ got (drop (place * step_of n) l) e) (sym a) k.2) in
          same y.0 _ (sym h ∙ is ∙ ap (λ (i : ℕ). run_from i s run.at run.last run.fine) w ∙ y.1)
        where
          same : (i : ℕ) (b : Bool) {e : ℕ} → Some c ≡ Some (record { at = e; last = i; fine = b }) → c.at ≡ e
          same i b u = cc

      pub noting_turn : Noting s from n q c (place + 1)
      unfolding then
      noting_turn = record {
        long = ap length set_is ∙ length-set places place run.at ∙ inv.long;
        whole = sym (parted ∙ ap (λ (y : Option Checked). then y (λ c. run_from (n - (place + 1) * step_of n) s c.at c.last c.fine)) h);
        noted = λ p lt. go p lt (eqb p place) refl;
        here = λ more l e hl. run_at (omega (arith, step_next place n)) l e hl;
      }
        where
          other : (p : ℕ) → p < place + 1 → (p ≡ place → ⊥) → p < place
          other p lt ne = omega arith

          go : (p : ℕ) → p < place + 1 → (t : Bool) → eqb p place ≡ t → PlaceIs s from n p (get_or q p 0)
          go p lt true e =
              let w : p ≡ place = eqb-true p place e in
              let y : get_or q p 0 ≡ run.at = ap (λ (o : List ℕ). get_or o p 0) set_is ∙ ap (λ (o : ℕ). get_or (set places place run.at) o 0) w ∙ get_or-set_same places place run.at 0 (omega (arith, place_below n place z, inv.long)) in
              λ l f hl. y ∙ inv.here z l f (subst (λ (o : ℕ). many [] ◌∷◌ (o * step_of n) argument_at s from ≡ got l f) w hl)
          go p lt false e =
              let y : get_or q p 0 ≡ get_or places p 0 = ap (λ (o : List ℕ). get_or o p 0) set_is ∙ get_or-set_other places place p run.at 0 (eqb-false p place e) in
              λ l f hl. y ∙ inv.noted p (omega (arith, other p lt (eqb-false p place e))) l f hl
