-- Steps of the walkers, on any bytes: what is read behind a head; of a list that goes as far as its records can be read, what stands first and what is left.
use Rattle.records.specs.Relations.Answer.{Next, Num}
use Rattle.std.specs.Prelude.{Some, None}
use mathlib.Core.Path.{◌≡◌, refl, ap, sym, ◌∙◌}
use mathlib.Core.Bool.{Bool, true, false}
use mathlib.Core.List.{List, [], ◌∷◌}
use mathlib.Core.Option.{Option, some, none}
use Prim.Native.Nat.{ℕ, zero, suc, ◌-◌, ◌≤◌, ◌<◌}
use native.Mathlib.Omega.{arith}
use lib.ListN.{length, get_or}
use lib.Dec.{eqb}
use Rattle.records.specs.Got.{Got, got, bad, Parser, after}
use Rattle.records.specs.Relations.Answer.{next_of, num_of}
use Rattle.records.specs.Bytes.{part, bytes_at, span_at, str_at}
use Rattle.decimals.specs.Bytes.{same_bytes}
use Rattle.decimals.proofs.Same.{same_eq}
use Rattle.records.proofs.Laws.{after_is, after_elim, next_stop, next_end, span_in}
use Rattle.records.proofs.Views.{num_is, num_none, next_is, next_none}
use Rattle.records.specs.Names.{first_named}
use Rattle.records.proofs.First.{named_here, named_past}
use Rattle.entries.specs.Lookup.{last_named}
use Rattle.records.specs.Optional.{or_else, option_of}
use Rattle.entries.specs.Outline.{behind, list_after, readable, kind_as, entry_head, attribute_head, attribute_outline}
use Rattle.walks.specs.Outline.{sized_at, pattern_outline}
use Rattle.walks.specs.Relations.Passes.{Passes}
use Rattle.entries.proofs.Open.{behind_is}

-- behind a head
module _ (n : ℕ) (p : Parser ℕ) (s : List ℕ) (at : ℕ) {r : Next} (is : r ≡ next_of (bytes_at n s at)) where
  pub behind_stop : r ≡ None → None ≡ num_of (behind n p s at)
  unfolding behind after num_of
  behind_stop h = rw (next_none is h)

  pub behind_step : {i : ℕ} {x : Num} → r ≡ Some i → x ≡ num_of (p s i) → x ≡ num_of (behind n p s at)
  behind_step {i} {x} h q = next_is is h (λ bs hb. q ∙ ap num_of (sym (behind_is n p s at hb)))

-- where a Str behind a head stands
pub behind_in : (n : ℕ) (s : List ℕ) (at : ℕ) {r : Num} {a e : ℕ} → r ≡ num_of (behind n span_at s at) → r ≡ Some (a, e) → (a ≤ e) × (e ≤ length s)
unfolding behind
behind_in n s at is h = after_elim (bytes_at n s at) _ (num_is is h) (λ bs i _ q. span_in s i q)

-- its bytes
pub behind_str : (n : ℕ) (s : List ℕ) (at : ℕ) {a e : ℕ} → behind n span_at s at ≡ got a e → behind n str_at s at ≡ got (part s a (e - a)) e
unfolding behind str_at
behind_str n s at h = after_elim (bytes_at n s at) _ h (λ bs i hb q. after_is (bytes_at n s at) _ hb ∙ after_is (span_at s i) _ q)

pub behind_no_str : (n : ℕ) (s : List ℕ) (at : ℕ) → behind n span_at s at ≡ bad → behind n str_at s at ≡ bad
unfolding behind after str_at
behind_no_str n s at h = go (bytes_at n s at) h
  where
    go : (g : Got (List ℕ)) → after g (λ bs i. span_at s i) ≡ bad → after g (λ bs i. str_at s i) ≡ bad
    go (got bs i) q = rw q
    go bad q = refl

-- an answer that holds whatever is asked, as nothing is read there
pub not_read : {A C : Type 0} {g : Got A} → Passes g None → (a : A) (f : ℕ) → g ≡ got a f → C
not_read h a f q = let w = h a f q in let z : ◌≡◌ {A = ℕ} 0 1 = cc in absurd (omega arith)

pub end_of : {A : Type 0} {g : Got A} {i : ℕ} → Passes g (Some i) → (a : A) (f : ℕ) → g ≡ got a f → f ≡ i
end_of h a f q = let w = h a f q in cc

pub told : {A : Type 0} {g : Got A} {r x : Next} → Passes g r → r ≡ x → Passes g x
told {g = g} h e = rw e at h

-- as far as they can be read
module _ {A B : Type 0} (head : Parser A) (whole : Parser B) (s : List ℕ) where
  pub list_none : (n at : ℕ) → n ≤ 0 → readable n head whole s at ≡ []
  unfolding readable
  list_none zero at z = refl
  list_none (suc n) at z = absurd (omega arith)

  pub list_bad : (n at : ℕ) → head s at ≡ bad → readable n head whole s at ≡ []
  unfolding readable list_after
  list_bad zero at h = refl
  list_bad (suc n) at h = rw h

  pub list_first : (n at : ℕ) {a : A} {e : ℕ} → 0 < n → head s at ≡ got a e → (l : List A) × (readable n head whole s at ≡ a ∷ l)
  unfolding readable list_after
  list_first zero at z h = absurd (omega arith)
  list_first (suc n) at z h = (list_after (whole s at) (λ b f. readable n head whole s f), rw h)

  pub list_stuck : (n at : ℕ) {a : A} {e : ℕ} → 0 < n → head s at ≡ got a e → whole s at ≡ bad → readable n head whole s at ≡ a ∷ []
  unfolding readable list_after
  list_stuck zero at z h w = absurd (omega arith)
  list_stuck (suc n) at z h w = rw (h, w)

  pub list_next : (n at : ℕ) {a : A} {e i : ℕ} {b : B} → 0 < n → head s at ≡ got a e → whole s at ≡ got b i → readable n head whole s at ≡ a ∷ readable (n - 1) head whole s i
  unfolding readable list_after
  list_next zero at z h w = absurd (omega arith)
  list_next (suc n) at {a = a} {i = i} z h w =
      let m : n ≡ suc n - 1 = omega arith in
      rw (h, w) (ap (λ (k : ℕ). a ∷ readable k head whole s i) m)

-- bytes that differ at a place
pub differ_at : (a b : List ℕ) (i : ℕ) → (get_or a i 0 ≡ get_or b i 0 → ⊥) → false ≡ same_bytes a b
differ_at a b i f = go (same_bytes a b) refl
  where
    go : (t : Bool) → same_bytes a b ≡ t → false ≡ t
    go true h = absurd (f (ap (λ (l : List ℕ). get_or l i 0) (same_eq a b h)))
    go false h = refl

-- of things with a name, the last
module _ {A : Type 0} (i : List ℕ) where
  or_or : (a b c : Option A) → or_else (or_else a b) c ≡ or_else a (or_else b c)
  unfolding or_else
  or_or none b c = refl
  or_or (some x) b c = refl

  pub last_more : (x : List ℕ × A) (l : List (List ℕ × A)) (o : Option A) → or_else (last_named i (x ∷ l)) o ≡ or_else (last_named i l) (or_else (option_of (same_bytes x.0 i) x.1) o)
  unfolding last_named
  last_more x l o = or_or (last_named i l) (option_of (same_bytes x.0 i) x.1) o

-- the first of a name, and the last, among those that can be read
module _ {A B : Type 0} (head : Parser (List ℕ × A)) (whole : Parser B) (s i : List ℕ) where
  abbrev pub FirstOf : ℕ → ℕ → Option A
  FirstOf n at = first_named i (readable n head whole s at)

  pub first_none : (n at : ℕ) → n ≤ 0 → FirstOf n at ≡ none
  unfolding first_named
  first_none n at z = ap (first_named i) (list_none head whole s n at z)

  pub first_bad : (n at : ℕ) → head s at ≡ bad → FirstOf n at ≡ none
  unfolding first_named
  first_bad n at h = ap (first_named i) (list_bad head whole s n at h)

  module _ (n at : ℕ) (z : 0 < n) {x : List ℕ × A} {e : ℕ} (h : head s at ≡ got x e) where
    pub first_here : same_bytes x.0 i ≡ true → FirstOf n at ≡ some x.1
    first_here y = let w = list_first head whole s n at z h in ap (first_named i) w.1 ∙ named_here i x w.0 y

    pub first_stuck : {r : Next} → same_bytes x.0 i ≡ false → r ≡ next_of (whole s at) → r ≡ None → FirstOf n at ≡ none
    unfolding first_named
    first_stuck y is b = ap (first_named i) (list_stuck head whole s n at z h (next_none is b)) ∙ named_past i x [] y

    pub first_next : {r : Next} {f : ℕ} → same_bytes x.0 i ≡ false → r ≡ next_of (whole s at) → r ≡ Some f → FirstOf n at ≡ FirstOf (n - 1) f
    first_next {f = f} y is k = next_is is k (λ b w. ap (first_named i) (list_next head whole s n at z h w) ∙ named_past i x (readable (n - 1) head whole s f) y)

  -- with the one found so far
  abbrev pub LastOf : ℕ → ℕ → Option A → Option A
  LastOf n at o = or_else (last_named i (readable n head whole s at)) o

  pub last_none : (n at : ℕ) (o : Option A) → n ≤ 0 → LastOf n at o ≡ o
  unfolding last_named or_else
  last_none n at o z = ap (λ (l : List (List ℕ × A)). or_else (last_named i l) o) (list_none head whole s n at z)

  pub last_bad : (n at : ℕ) (o : Option A) → head s at ≡ bad → LastOf n at o ≡ o
  unfolding last_named or_else
  last_bad n at o h = ap (λ (l : List (List ℕ × A)). or_else (last_named i l) o) (list_bad head whole s n at h)

  module _ (n at : ℕ) (o : Option A) (z : 0 < n) {x : List ℕ × A} {e : ℕ} (h : head s at ≡ got x e) where
    pub last_stuck : {r : Next} → r ≡ next_of (whole s at) → r ≡ None → LastOf n at o ≡ or_else (option_of (same_bytes x.0 i) x.1) o
    unfolding last_named or_else
    last_stuck is b = ap (λ (l : List (List ℕ × A)). or_else (last_named i l) o) (list_stuck head whole s n at z h (next_none is b)) ∙ last_more i x [] o

    pub last_next : {r : Next} {f : ℕ} → r ≡ next_of (whole s at) → r ≡ Some f → LastOf n at o ≡ LastOf (n - 1) f (or_else (option_of (same_bytes x.0 i) x.1) o)
    last_next {f = f} is k =
        next_is is k (λ b w.
        ap (λ (l : List (List ℕ × A)). or_else (last_named i l) o) (list_next head whole s n at z h w) ∙ last_more i x (readable (n - 1) head whole s f) o)

-- the heads, from what the code reads
pub entry_head_law : (s : List ℕ) (at : ℕ) {r : Num} {a e : ℕ} → r ≡ num_of (behind 1 span_at s at) → r ≡ Some (a, e) → entry_head s at ≡ got (part s a (e - a), kind_as (eqb (get_or s at 0) 1) at) e
unfolding entry_head
entry_head_law s at is h = after_is (behind 1 str_at s at) _ (behind_str 1 s at (num_is is h))

pub entry_no_head : (s : List ℕ) (at : ℕ) {r : Num} → r ≡ num_of (behind 1 span_at s at) → r ≡ None → entry_head s at ≡ bad
unfolding entry_head after
entry_no_head s at is h = rw (behind_no_str 1 s at (num_none is h))

pub attribute_head_law : (s : List ℕ) (at : ℕ) {t : List ℕ} {e : ℕ} → str_at s at ≡ got t e → attribute_head s at ≡ got (t, e) e
unfolding attribute_head
attribute_head_law s at h = after_is (str_at s at) _ h

pub attribute_no_head : (s : List ℕ) (at : ℕ) → str_at s at ≡ bad → attribute_head s at ≡ bad
unfolding attribute_head after
attribute_no_head s at h = rw h

pub attribute_past : (s : List ℕ) (at : ℕ) {t : List ℕ} {e : ℕ} {r : Next} → str_at s at ≡ got t e → r ≡ next_of (sized_at 4 s e) → r ≡ next_of (attribute_outline s at)
unfolding attribute_outline pattern_outline
attribute_past s at {e = e} h q = next_end (λ b. tt) (sized_at 4 s e) q ∙ ap next_of (sym (after_is (str_at s at) _ h))

module _ (s : List ℕ) (at : ℕ) {r : Next} (is : r ≡ next_of (str_at s at)) where
  pub attribute_stop : r ≡ None → None ≡ next_of (attribute_outline s at)
  unfolding attribute_outline
  attribute_stop h = next_stop (str_at s at) _ is h

  pub attribute_step : {p : ℕ} {x : Next} → r ≡ Some p → x ≡ next_of (sized_at 4 s p) → x ≡ next_of (attribute_outline s at)
  attribute_step h q = next_is is h (λ t w. attribute_past s at w q)
