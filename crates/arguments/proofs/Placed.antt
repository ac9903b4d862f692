-- The places that are noted: a search from the last one that is not above finds what a name has.
use Rattle.records.specs.Relations.Answer.{Num}
use Rattle.std.specs.Prelude.{Option, Some, None}
use mathlib.Core.Path.{◌≡◌, refl, ap, sym, subst, ◌∙◌}
use mathlib.Core.List.{List, [], ◌∷◌}
use mathlib.Core.Bool.{Bool, true, false, ◌||◌, false≢true}
use mathlib.Core.Option.{none}
use Prim.Native.Nat.{ℕ, zero, suc, ◌+◌, ◌-◌, ◌*◌, ◌≤◌, ◌<◌}
use native.Mathlib.Omega.{arith}
use native.Mathlib.Nat.{zero-mul}
use lib.ListN.{take, drop, get_or}
use lib.Dec.{leb}
use borrow.Author.Tests.{leb-false, le-leb, lt-leb}
use Rattle.arguments.specs.declared.Given.{Given}
use Rattle.decimals.specs.Bytes.{same_bytes}
use Rattle.decimals.proofs.Same.{same_eq, eq_same}
use Rattle.decimals.proofs.Tests.{and_true}
use Rattle.records.specs.Got.{Got, got, bad, after}
use Rattle.records.specs.Relations.Answer.{num_of}
use Rattle.records.specs.Bytes.{part, number_at, span_at, str_at}
use Rattle.records.specs.Decode.{many}
use Rattle.records.specs.Images.{Argument, argument_at}
use Rattle.records.specs.Names.{first_named}
use Rattle.records.proofs.First.{named_here, named_past}
use Rattle.records.proofs.Views.{num_is, num_none, str_is, str_bad, id_str, many_cons, many_nil}
use Rattle.order.specs.Order.{before}
use Rattle.order.specs.Accepted.{leads, ascending, in_order, accepted, judge}
use Rattle.order.specs.Relations.Compared.{order_if, order_of}
use Rattle.order.proofs.Ascending.{leads_trans}
use Rattle.order.proofs.Before.{before_irreflexive, before_same}
use Rattle.order.proofs.Accepted.{accepted_read}
use Rattle.arguments.specs.Relations.Given.{meant, Within}
use Rattle.arguments.specs.Relations.Outline.{readable, shown_option, sought_by, sought}
use Rattle.arguments.specs.Relations.Places.{step_of, PlacesOf, Noted, is_past, is_above, MayBegin, FoundBy, no_count, from_place}
use Rattle.arguments.proofs.Views.{argument_elim, arguments_image_elim}
use Rattle.arguments.proofs.Sought.{sought_from, sought_within, sought_means}

abbrev Pairs : Type 0
Pairs = List (List ℕ × Argument)

-- arguments in two parts
pub many_split : (s : List ℕ) (a b n at : ℕ) → n ≡ a + b → {l : Pairs} {f : ℕ} → many [] ◌∷◌ n argument_at s at ≡ got l f
    → (e : ℕ) × (many [] ◌∷◌ a argument_at s at ≡ got (take a l) e) × (many [] ◌∷◌ b argument_at s e ≡ got (drop a l) f)
unfolding many after
many_split s zero b n at q {l} {f} h = let e : n ≡ b = omega arith in (at, refl, subst (λ (i : ℕ). many [] ◌∷◌ i argument_at s at ≡ got l f) e h)
many_split s (suc a) b n at q {l} {f} h =
    many_cons [] ◌∷◌ argument_at s n at (omega arith) h (λ x i t hx ht w.
    let k = many_split s a b (n - 1) i (omega arith) ht in
    (k.0, rw (hx, k.1, w), subst (λ (m : Pairs). many [] ◌∷◌ b argument_at s k.0 ≡ got (drop (suc a) m) f) (sym w) k.2))

-- a name before the first of ascending ones is before those that are left of them
leads_drop : (n : List ℕ) (d : ℕ) (l : Pairs) → leads n l ≡ true → ascending l ≡ true → leads n (drop d l) ≡ true
unfolding leads ascending
leads_drop n zero l h k = h
leads_drop n (suc d) [] h k = refl
leads_drop n (suc d) (a ∷ l) h k = let w = and_true (leads a.0 l) (ascending l) k in leads_drop n d l (leads_trans n a.0 l h w.0) w.1

ascending_drop : (d : ℕ) (l : Pairs) → ascending l ≡ true → ascending (drop d l) ≡ true
unfolding ascending
ascending_drop zero l h = h
ascending_drop (suc d) [] h = refl
ascending_drop (suc d) (a ∷ l) h = ascending_drop d l (and_true (leads a.0 l) (ascending l) h).1

-- a name that is before another is not that one
unlike : (m n : List ℕ) → before m n ≡ true → same_bytes n m ≡ false
unlike m n h = go (same_bytes n m) refl
  where
    go : (t : Bool) → same_bytes n m ≡ t → t ≡ false
    go false e = refl
    go true e = absurd (false≢true (sym (before_irreflexive m) ∙ ap (before m) (sym (same_eq n m e)) ∙ h))

unlike_back : (m n : List ℕ) → before m n ≡ true → same_bytes m n ≡ false
unlike_back m n h = go (same_bytes m n) refl
  where
    go : (t : Bool) → same_bytes m n ≡ t → t ≡ false
    go false e = refl
    go true e = absurd (false≢true (sym (before_irreflexive m) ∙ ap (before m) (same_eq m n e) ∙ h))

-- nothing has a name that is before all
named_none : (name : List ℕ) (l : Pairs) → leads name l ≡ true → ascending l ≡ true → first_named name l ≡ none
unfolding leads ascending first_named
named_none name [] h k = refl
named_none name (a ∷ l) h k =
    let w = and_true (leads a.0 l) (ascending l) k in
    named_past name a l (unlike name a.0 h) ∙ named_none name l (leads_trans name a.0 l h w.0) w.1

-- where names ascend, the search one by one finds the first of a name
sought_first : (name : List ℕ) (l : Pairs) → ascending l ≡ true → sought name l ≡ first_named name l
unfolding leads ascending sought sought_by order_of order_if first_named
sought_first name [] k = refl
sought_first name (a ∷ l) k = go (before a.0 name) (before name a.0) refl refl (sought_first name l (and_true (leads a.0 l) (ascending l) k).1)
  where
    go : (t u : Bool) → before a.0 name ≡ t → before name a.0 ≡ u → sought name l ≡ first_named name l → sought_by (order_of a.0 name) a.1 (sought name l) ≡ first_named name (a ∷ l)
    go true u h j ih = rw (h) (ih ∙ sym (named_past name a l (unlike_back a.0 name h)))
    go false true h j ih = rw (h, j) (sym (named_none name (a ∷ l) j k))
    go false false h j ih = rw (h, j) (sym (named_here name a l (eq_same a.0 name (before_same a.0 name h j))))

-- those before one that is not greater than a name do not have it
drop_named : (name : List ℕ) (d : ℕ) (l : Pairs) → ascending l ≡ true → (a : List ℕ × Argument) (t : Pairs) → drop d l ≡ a ∷ t → before name a.0 ≡ false → first_named name l ≡ first_named name (drop d l)
unfolding ascending leads
drop_named name zero l k a t e h = refl
drop_named name (suc d) [] k a t e h = refl
drop_named name (suc d) (x ∷ l) k a t e h =
    let w = and_true (leads x.0 l) (ascending l) k in
    let first : leads x.0 (a ∷ t) ≡ true = subst (λ (m : Pairs). leads x.0 m ≡ true) e (leads_drop x.0 d l w.0 w.1) in
    named_past name x l (go first (same_bytes x.0 name) refl) ∙ drop_named name d l w.1 a t e h
  where
    go : before x.0 a.0 ≡ true → (b : Bool) → same_bytes x.0 name ≡ b → b ≡ false
    go f false q = refl
    go f true q = absurd (false≢true (sym h ∙ ap (λ (m : List ℕ). before m a.0) (sym (same_eq x.0 name q)) ∙ f))

or_false : (t u : Bool) → t || u ≡ false → (t ≡ false) × (u ≡ false)
or_false false u h = (refl, h)
or_false true u h = absurd (false≢true (sym h))

-- what is past, and what is above, by the code's tests
module _ (s : List ℕ) (at : ℕ) (name : List ℕ) {r : Num} (is : r ≡ num_of (span_at s at)) where
  pub past_none : r ≡ None → true ≡ is_past (str_at s at) name
  unfolding is_past
  past_none h = rw (str_bad s at is h)

  pub past_name : {p e : ℕ} → r ≡ Some (p, e) → {b : Bool} → b ≡ before name (part s p (e - p)) → b ≡ is_past (str_at s at) name
  unfolding is_past
  past_name h w = w ∙ ap (λ (g : Got (List ℕ)). is_past g name) (sym (str_is s at is h))

module _ (s places : List ℕ) (n : ℕ) (name : List ℕ) (j : ℕ) where
  pub above_beyond : n ≤ j * step_of n → true ≡ is_above s places n name j
  unfolding is_above
  above_beyond h = rw (le-leb n (j * step_of n) h)

  pub above_there : j * step_of n < n → {b : Bool} → b ≡ is_past (str_at s (get_or places j 0)) name → b ≡ is_above s places n name j
  unfolding is_above
  above_there h e = e ∙ rw (lt-leb n (j * step_of n) h)

-- a place that is not above stands at an argument, and its name is not greater
above_not : (s places : List ℕ) (n : ℕ) (name : List ℕ) (j : ℕ) → is_above s places n name j ≡ false → (j * step_of n < n) × (is_past (str_at s (get_or places j 0)) name ≡ false)
unfolding is_above
above_not s places n name j h = let w = or_false (leb n (j * step_of n)) (is_past (str_at s (get_or places j 0)) name) h in (leb-false n (j * step_of n) w.0, w.1)

pub low_in : (s places : List ℕ) (n : ℕ) (name : List ℕ) {j : ℕ} → MayBegin s places n name j → (j < 256) × (j * step_of n ≤ n)
low_in s places n name {j} (MayBegin.first e) = (omega arith, subst (λ (i : ℕ). i * step_of n ≤ n) (sym e) (rw (zero-mul (step_of n)) (omega arith)))
low_in s places n name {j} (MayBegin.further k h) = let w = (above_not s places n name j h).0 in (k, omega arith)

module _ (s places name : List ℕ) (n : ℕ) {l : Pairs} {f : ℕ} (hm : many [] ◌∷◌ n argument_at s 7 ≡ got l f) (up : ascending l ≡ true) (pl : PlacesOf s 7 n places) where
  -- the arguments from a place on
  place_on : (j : ℕ) → j * step_of n < n → many [] ◌∷◌ (n - j * step_of n) argument_at s (get_or places j 0) ≡ got (drop (j * step_of n) l) f
  unfolding PlacesOf
  place_on j h =
      let k = many_split s (j * step_of n) (n - j * step_of n) n 7 (omega arith) hm in
      subst (λ (i : ℕ). many [] ◌∷◌ (n - j * step_of n) argument_at s i ≡ got (drop (j * step_of n) l) f) (sym (pl j h (take (j * step_of n) l) k.0 k.1)) k.2

  found_from : (j : ℕ) → j * step_of n < n → first_named name l ≡ first_named name (drop (j * step_of n) l) → meant s (sought_from s name (n - j * step_of n) (get_or places j 0)) ≡ first_named name l
  found_from j h e =
      sought_means s name (n - j * step_of n) (get_or places j 0) (place_on j h)
      ∙ sought_first name (drop (j * step_of n) l) (ascending_drop (j * step_of n) l up)
      ∙ sym e

  none_given : (c at : ℕ) → c ≤ 0 → meant s (sought_from s name c at) ≡ none
  unfolding readable sought shown_option meant
  none_given zero at z = refl
  none_given (suc c) at z = absurd (omega arith)

  found_first : (j : ℕ) → j ≡ 0 → meant s (sought_from s name (n - j * step_of n) (get_or places j 0)) ≡ first_named name l
  unfolding first_named
  found_first j e = go n refl
    where
      zeroed : j * step_of n ≡ 0
      zeroed = ap (λ (i : ℕ). i * step_of n) e ∙ zero-mul (step_of n)

      nothing : first_named {A = Argument} name [] ≡ none
      nothing = refl

      go : (m : ℕ) → n ≡ m → meant s (sought_from s name (n - j * step_of n) (get_or places j 0)) ≡ first_named name l
      go zero z =
          many_nil [] ◌∷◌ argument_at s n 7 (omega arith) hm (λ w _.
          none_given (n - j * step_of n) (get_or places j 0) (omega arith) ∙ sym (ap (first_named name) w ∙ nothing))
      go (suc m) z = found_from j (omega (arith, zeroed)) (ap (λ (d : ℕ). first_named name (drop d l)) (sym zeroed))

  found_place : {j : ℕ} → MayBegin s places n name j → meant s (sought_from s name (n - j * step_of n) (get_or places j 0)) ≡ first_named name l
  unfolding is_past
  found_place {j} (MayBegin.first e) = found_first j e
  found_place {j} (MayBegin.further k h) =
      let w = above_not s places n name j h in
      many_cons [] ◌∷◌ argument_at s (n - j * step_of n) (get_or places j 0) (omega (arith, w.0)) (place_on j w.0) (λ a e t ha ht q.
      argument_elim s (get_or places j 0) ha (λ m p v hi hv wa.
      let past : before name a.0 ≡ false = ap (λ (y : List ℕ × Argument). before name y.0) wa ∙ subst (λ (g : Got (List ℕ)). is_past g name ≡ false) (id_str s (get_or places j 0) hi) w.1 in
      found_from j w.0 (drop_named name (j * step_of n) l up a t q past)))

-- what is found, where no count can be read and where one is
module _ (s places name : List ℕ) {r : Num} (is : r ≡ num_of (number_at 2 s 5)) where
  pub found_none : r ≡ None → {g : Option Given} → g ≡ None → FoundBy s places name g
  found_none h e = no_count (num_none is h) e

  pub found_here : {count from : ℕ} → r ≡ Some (count, from) → {j : ℕ} → MayBegin s places count name j → {g : Option Given} → g ≡ sought_from s name (count - j * step_of count) (get_or places j 0) → FoundBy s places name g
  found_here {count} {from} h {j} low e = from_place count from j (num_is is h) low e

module _ {s places name : List ℕ} where
  -- a text that is found lies in the bytes, whatever they are
  pub found_within : {g : Option Given} → FoundBy s places name g → Within s g
  unfolding Within
  found_within (no_count h e) = subst (Within s) (sym e) tt
  found_within (from_place n f j h low e) = subst (Within s) (sym e) (sought_within s name (n - j * step_of n) (get_or places j 0))

  -- where the image is accepted and its places are noted, what is found is what the definition says
  pub found_means : {g : Option Given} → FoundBy s places name g → Noted s places → (l : Pairs) → judge s ≡ accepted l → meant s g ≡ first_named name l
  unfolding in_order Noted
  found_means {g} (no_count h e) noted l a = arguments_image_elim s (accepted_read s l a).1 (λ k hk hm. absurd (no k (sym h ∙ hk)))
    where
      no : (k : ℕ) → bad ≡ got k 7 → ⊥
      no k e = let z : ◌≡◌ {A = ℕ} 0 1 = cc in omega arith
  found_means {g} (from_place n f j h low e) noted l a =
      let w = accepted_read s l a in
      arguments_image_elim s w.1 (λ k hk hm.
      let q : k ≡ n = same k (sym hk ∙ h) in
      ap (meant s) e ∙ found_place s places name n (subst (λ (i : ℕ). many [] ◌∷◌ i argument_at s 7 ≡ got l w.0) q hm) (and_true _ _ w.2).0 (noted n (subst (λ (i : ℕ). number_at 2 s 5 ≡ got i 7) q hk)) low)
    where
      same : (k : ℕ) → got k 7 ≡ got n f → k ≡ n
      same k e = cc
