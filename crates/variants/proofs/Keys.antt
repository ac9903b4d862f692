-- Keys and values: what the code tries of a key is what the definition says of it.
use Rattle.records.specs.Relations.Answer.{Next}
use mathlib.Core.Path.{◌≡◌, refl, ap, sym, subst, ◌∙◌}
use mathlib.Core.List.{List, [], ◌∷◌}
use mathlib.Core.Bool.{Bool, true, false, ◌&&◌, ◌||◌}
use mathlib.Core.Option.{Option, none}
use Rattle.std.specs.Prelude.{Some, None}
use Rattle.std.specs.Prelude as rust
use Prim.Native.Nat.{ℕ, ◌+◌, ◌-◌, ◌≤◌, ◌<◌}
use native.Mathlib.Omega.{arith}
use lib.Dec.{eqb}
use borrow.Author.Tests.{eqb-true, eqb-false, eq-eqb, ne_eqb}
use Rattle.decimals.specs.Bytes.{same_bytes}
use Rattle.decimals.specs.Relations.Shown.{shown, told}
use Rattle.decimals.specs.declared.types.Number as CodeNumber
use Rattle.decimals.specs.declared.types.Options as CodeOptions
use Rattle.decimals.proofs.Shown.{options_back}
use Rattle.literals.specs.Literal.{is_number, literal, read_number, with_fraction}
use Rattle.literals.specs.Relations.Shown.{literal_of}
use Rattle.numbers.specs.Number.{Number, default_options, same_number}
use Rattle.numbers.specs.Value.{Value, textual, numeric, nothing, wrong}
use Rattle.numbers.proofs.Equality.{flag_enough}
use Rattle.plural.specs.Plural.{category, category_number, keyword}
use Rattle.plural.proofs.Categories.{category_shown}
use Rattle.plural.specs.declared.types.Category.{Category}
use Rattle.records.specs.Bytes.{part}
use Rattle.records.specs.Tree.{Key}
use Rattle.resolution.specs.Resolve.{matches}
use Rattle.records.specs.Optional.{or_else, option_of}
use Rattle.variants.specs.Outline.{Outline, variants_at}
use Rattle.variants.specs.Choice.{first_of, key_matches, is_default, chosen_at}
use Rattle.variants.specs.Relations.Sought.{pattern_place, outline_in, equals, kinds_of, matches_by, tried, answers, Sees, sees_text, sees_number, Chooses}
use Rattle.variants.specs.declared.Asked.{Asked}
use Rattle.variants.specs.declared.Asked.TheVariants as asked
use Rattle.variants.specs.declared.Span.{Span}
use Rattle.variants.specs.declared.Sought.{Sought}
use Rattle.variants.specs.declared.Sought.TheVariants as sought

pub or_false : (b : Bool) → b || false ≡ b
or_false true = refl
or_false false = refl

or_true : (b : Bool) → b || true ≡ true
or_true true = refl
or_true false = refl

and_false : (b : Bool) → b && false ≡ false
and_false true = refl
and_false false = refl

-- a literal has no currency, so that the code compares it as the definition does
plain : (k : List ℕ) → (literal k).options.currency ≡ none
unfolding literal read_number with_fraction default_options
plain k = refl

code_back : (n : CodeNumber.Number) → shown (told n) ≡ n
code_back n = ap (λ (o : CodeOptions.Options). record { negative = n.negative; digits = n.digits; scale = n.scale; options = o }) (options_back n.options)

literal_same : (k : List ℕ) (n : CodeNumber.Number) → same_number (told (shown (literal k))) (told n) ≡ same_number (literal k) (told n)
literal_same k n = ap (λ (x : CodeNumber.Number). same_number (told (shown (literal k))) (told x)) (sym (code_back n)) ∙ flag_enough (literal k) (told n) (plain k)

-- a key that is a literal, or is none
module _ (k : List ℕ) (n : CodeNumber.Number) {c : rust.Option CodeNumber.Number} (is : c ≡ literal_of k) where
  literal_no : (t : Bool) → is_number k ≡ t → c ≡ None → is_number k ≡ false
  unfolding literal_of
  literal_no true e w = let z : Some (shown (literal k)) ≡ None = sym (rw (e, literal_of) at is) ∙ w in let y : ◌≡◌ {A = ℕ} 0 1 = cc in absurd (omega arith)
  literal_no false e w = e

  pub equals_no : c ≡ None → false ≡ equals k n
  unfolding equals
  equals_no w = rw (literal_no (is_number k) refl w)

  literal_yes : (t : Bool) → is_number k ≡ t → {m : CodeNumber.Number} → c ≡ Some m → (is_number k ≡ true) × (m ≡ shown (literal k))
  unfolding literal_of
  literal_yes true e w = let z : Some (shown (literal k)) ≡ Some _ = sym (rw (e, literal_of) at is) ∙ w in (e, (cc))
  literal_yes false e w = let z : None ≡ Some _ = sym (rw (e, literal_of) at is) ∙ w in let y : ◌≡◌ {A = ℕ} 0 1 = cc in absurd (omega arith)

  pub equals_is : {m : CodeNumber.Number} {r : Bool} → c ≡ Some m → r ≡ same_number (told m) (told n) → r ≡ equals k n
  unfolding equals
  equals_is w er =
      let q = literal_yes (is_number k) refl w in
      er ∙ ap (λ (x : CodeNumber.Number). same_number (told x) (told n)) q.1 ∙ literal_same k n ∙ sym (ap (λ (t : Bool). t && same_number (literal k) (told n)) q.0)

-- a key of a kind, and what is sought
pub by_text : (kind : ℕ) (k t : List ℕ) {x : Sought} {r : Bool} → x ≡ sought.Text → r ≡ same_bytes k t → r ≡ matches_by kind k t x
unfolding matches_by
by_text kind k t ex er = rw ex er

module _ (kind : ℕ) (k t : List ℕ) {x : Sought} {n : CodeNumber.Number} {c : Category} (ex : x ≡ sought.Number n c) where
  pub by_category : {r : Bool} → kind ≡ 1 → r ≡ same_bytes k (keyword (category_number c)) → r ≡ matches_by kind k t x
  unfolding matches_by
  by_category ek er = rw (ex, ek) (er ∙ sym (or_false (same_bytes k (keyword (category_number c)))))

  pub by_number : {r : Bool} → kind ≡ 2 → r ≡ equals k n → r ≡ matches_by kind k t x
  unfolding matches_by
  by_number ek er = rw (ex, ek) er

  pub by_none : (kind ≡ 1 → ⊥) → (kind ≡ 2 → ⊥) → false ≡ matches_by kind k t x
  unfolding matches_by
  by_none n1 n2 = rw (ex, ne_eqb kind 1 n1, ne_eqb kind 2 n2)

-- a key of the kind that is tried, or of another
pub kind_other : (a b : ℕ) (m : Bool) → (a ≡ b → ⊥) → eqb a b ≡ (eqb a b && m)
kind_other a b m h = rw (ne_eqb a b h)

pub kind_same : (a b : ℕ) (m : Bool) {r : Bool} → a ≡ b → r ≡ m → r ≡ (eqb a b && m)
kind_same a b m e h = rw (eq-eqb a b e) h

pub kinds_few : (x : Sought) → kinds_of x ≤ 2
unfolding kinds_of
kinds_few sought.Text = omega arith
kinds_few (sought.Number n c) = omega arith

-- the kinds that were tried
pub tried_is : (s t : List ℕ) (at : ℕ) (v : Span) (kind : ℕ) (x : Sought) {r b : Bool} → r ≡ (eqb v.kind kind && matches_by kind (part s v.from (v.to - v.from)) t x) → r ≡ b → tried kind t x (outline_in s at v) ≡ b
unfolding tried
tried_is s t at v kind x is e = sym is ∙ e

module _ (t : List ℕ) (o : Outline) where
  pub tried_more : (x : Sought) {kind : ℕ} → ((j : ℕ) → 1 ≤ j → j < kind → tried j t x o ≡ false) → tried kind t x o ≡ false → (j : ℕ) → 1 ≤ j → j < kind + 1 → tried j t x o ≡ false
  tried_more x {kind} all h j lo hi = go (eqb j kind) refl
    where
      go : (b : Bool) → eqb j kind ≡ b → tried j t x o ≡ false
      go true e = subst (λ (k : ℕ). tried k t x o ≡ false) (sym (eqb-true j kind e)) h
      go false e = let n = eqb-false j kind e in all j lo (omega arith)

  pub tried_all : (x : Sought) {kinds kind : ℕ} → kinds ≡ kinds_of x → kinds < kind → ((j : ℕ) → 1 ≤ j → j < kind → tried j t x o ≡ false) → answers t x o ≡ false
  unfolding answers kinds_of
  tried_all sought.Text ek lt all = all 1 (omega arith) (omega arith)
  tried_all (sought.Number n c) ek lt all = rw (all 1 (omega arith) (omega arith), all 2 (omega arith) (omega arith))

  pub tried_one : (x : Sought) {kinds kind : ℕ} → kinds ≡ kinds_of x → 1 ≤ kind → kind ≤ kinds → tried kind t x o ≡ true → answers t x o ≡ true
  unfolding answers kinds_of
  tried_one sought.Text {kinds} {kind} ek lo hi h = let e : kind ≡ 1 = omega arith in subst (λ (j : ℕ). tried j t sought.Text o ≡ true) e h
  tried_one (sought.Number n c) {kinds} {kind} ek lo hi h = go (eqb kind 1) refl
    where
      go : (b : Bool) → eqb kind 1 ≡ b → tried 1 t (sought.Number n c) o || tried 2 t (sought.Number n c) o ≡ true
      go true e = let e1 = eqb-true kind 1 e in rw (subst (λ (j : ℕ). tried j t (sought.Number n c) o ≡ true) e1 h)
      go false e =
          let n1 = eqb-false kind 1 e in
          let e2 : kind ≡ 2 = omega arith in
          ap (λ (b : Bool). tried 1 t (sought.Number n c) o || b) (subst (λ (j : ℕ). tried j t (sought.Number n c) o ≡ true) e2 h) ∙ or_true (tried 1 t (sought.Number n c) o)

-- what is sought is the value
pub answers_text : (locale : ℕ) (t : List ℕ) (o : Outline) → answers t sought.Text o ≡ key_matches locale (textual t) o
unfolding answers tried matches_by key_matches matches
answers_text locale t o =
    sym (ap (λ (b : Bool). (eqb o.kind 1 && same_bytes o.key t) || b) (ap (λ (b : Bool). eqb o.kind 2 && b) (and_false (is_number o.key)) ∙ and_false (eqb o.kind 2)) ∙ or_false (eqb o.kind 1 && same_bytes o.key t))

pub answers_number : (locale : ℕ) (t : List ℕ) (n : CodeNumber.Number) (c : Category) (o : Outline) → category_number c ≡ category locale (told n) → answers t (sought.Number n c) o ≡ key_matches locale (numeric (told n)) o
unfolding answers tried matches_by key_matches matches equals
answers_number locale t n c o ec =
    ap (λ (b : Bool). (eqb o.kind 1 && b) || (eqb o.kind 2 && (is_number o.key && same_number (literal o.key) (told n)))) (or_false (same_bytes o.key (keyword (category_number c))) ∙ ap (λ (j : ℕ). same_bytes o.key (keyword j)) ec)

-- tests that agree find the same
first_same : (by test : Outline → Bool) → ((o : Outline) → by o ≡ test o) → (os : List Outline) → first_of by os ≡ first_of test os
unfolding first_of
first_same by test e [] = refl
first_same by test e (o ∷ os) = rw (e o, first_same by test e os)

-- so what is chosen is the definition's choice
text_chosen : (locale : ℕ) (t s : List ℕ) (at : ℕ) → pattern_place (or_else (first_of (answers t sought.Text) (variants_at s at)) (first_of is_default (variants_at s at))) ≡ pattern_place (chosen_at locale (textual t) s at)
unfolding chosen_at
text_chosen locale t s at = ap (λ (o : Option Outline). pattern_place (or_else o (first_of is_default (variants_at s at)))) (first_same (answers t sought.Text) (key_matches locale (textual t)) (answers_text locale t) (variants_at s at))

number_chosen : (locale : ℕ) (t s : List ℕ) (at : ℕ) (n : CodeNumber.Number) (c : Category) → category_number c ≡ category locale (told n)
    → pattern_place (or_else (first_of (answers t (sought.Number n c)) (variants_at s at)) (first_of is_default (variants_at s at))) ≡ pattern_place (chosen_at locale (numeric (told n)) s at)
unfolding chosen_at
number_chosen locale t s at n c ec =
    ap (λ (o : Option Outline). pattern_place (or_else o (first_of is_default (variants_at s at)))) (first_same (answers t (sought.Number n c)) (key_matches locale (numeric (told n))) (λ o. answers_number locale t n c o ec) (variants_at s at))

-- what a value is compared by
pub sees_no_number : {a : Asked} → a ≡ asked.Text → Sees a sought.Text
sees_no_number e = subst (λ (a : Asked). Sees a sought.Text) (sym e) sees_text

pub sees_category : {a : Asked} {n : CodeNumber.Number} {locale : ℕ} {c : Category} → a ≡ asked.Number n locale → category_number c ≡ category locale (told n) → Sees a (sought.Number n c)
sees_category {n = n} {c = c} e ec = subst (λ (a : Asked). Sees a (sought.Number n c)) (sym e) (sees_number _ _ c ec)

pub asked_chosen : (a : Asked) (t s : List ℕ) (at : ℕ) {x : Sought} {r : Next} → Sees a x → r ≡ pattern_place (or_else (first_of (answers t x) (variants_at s at)) (first_of is_default (variants_at s at))) → Chooses a t s at r
unfolding Chooses
asked_chosen asked.Text t s at sees_text e = λ locale. e ∙ text_chosen locale t s at
asked_chosen (asked.Number n locale) t s at (sees_number _ _ c ec) e = e ∙ number_chosen locale t s at n c ec

-- a value that matches no key chooses the first default
module _ (locale : ℕ) (v : Value) (never-matches : (k : Key) → matches locale k v ≡ false) where
  key_never : (o : Outline) → key_matches locale v o ≡ false
  unfolding key_matches
  key_never o = rw (never-matches (Key.name o.key), never-matches (Key.number o.key), and_false (is_number o.key), and_false (eqb o.kind 1), and_false (eqb o.kind 2))

  first_never : (os : List Outline) → first_of (key_matches locale v) os ≡ none
  unfolding first_of or_else option_of
  first_never [] = refl
  first_never (o ∷ os) = rw (key_never o, first_never os)

  default_chosen : (s : List ℕ) (at : ℕ) → pattern_place (first_of is_default (variants_at s at)) ≡ pattern_place (chosen_at locale v s at)
  unfolding chosen_at or_else
  default_chosen s at = sym (ap (λ (o : Option Outline). pattern_place (or_else o (first_of is_default (variants_at s at)))) (first_never (variants_at s at)))

nothing_matches : (locale : ℕ) (k : Key) → matches locale k nothing ≡ false
unfolding matches
nothing_matches locale (Key.name k) = refl
nothing_matches locale (Key.number k) = refl

wrong_matches : (locale : ℕ) (k : Key) → matches locale k wrong ≡ false
unfolding matches
wrong_matches locale (Key.name k) = refl
wrong_matches locale (Key.number k) = refl

pub nothing_chosen : (locale : ℕ) (s : List ℕ) (at : ℕ) → pattern_place (first_of is_default (variants_at s at)) ≡ pattern_place (chosen_at locale nothing s at)
nothing_chosen locale s at = default_chosen locale nothing (nothing_matches locale) s at

pub wrong_chosen : (locale : ℕ) (s : List ℕ) (at : ℕ) → pattern_place (first_of is_default (variants_at s at)) ≡ pattern_place (chosen_at locale wrong s at)
wrong_chosen locale s at = default_chosen locale wrong (wrong_matches locale) s at

-- what the code shows of a number matches the keys that the number does
pub shown_matches : (locale : ℕ) (k : Key) (x : Number) → matches locale k (numeric (told (shown x))) ≡ matches locale k (numeric x)
unfolding matches
shown_matches locale (Key.name k) x = ap (λ (j : ℕ). same_bytes k (keyword j)) (category_shown locale x)
shown_matches locale (Key.number k) x = sym (literal_same k (shown x)) ∙ flag_enough (literal k) x (plain k)
