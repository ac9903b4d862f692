-- Laws of NUMBER's result: in range where no merge was refused.
use Rattle.resolver.proofs.Single.Puts.{refuse_some}
use Rattle.state.specs.Progress.{refused_of}
use Rattle.refusals.specs.declared.Refusal.TheVariants as refusal
use mathlib.Core.Path.{◌≡◌, refl, ap, sym, subst, ◌∙◌}
use mathlib.Core.List.{List, [], ◌∷◌}
use mathlib.Core.Bool.{Bool, true, false, ◌&&◌, not}
use mathlib.Core.Option.{some}
use Rattle.std.specs.Prelude.{Ok, Err}
use Rattle.numbers.specs.Relations.Shown.{too_long_error}
use Prim.Native.Nat.{ℕ, ◌≤◌}
use native.Mathlib.Omega.{arith}
use lib.Dec.{ltb, leb}
use borrow.Author.Tests.{ltb-false, leb-true, le-leb}
use Rattle.decimals.specs.Bytes.{same_bytes}
use Rattle.decimals.specs.Decimal.{Options, Number, or_zero, digits_limit, scale_limit, fraction_limit}
use Rattle.decimals.specs.Text.{in_range}
use Rattle.numbers.specs.Value.{Value, textual, numeric, nothing, wrong, type_name, style_name, currency_name, currency_display_name, use_grouping_name, minimum_integer_digits_name, minimum_fraction_digits_name, maximum_fraction_digits_name, minimum_significant_digits_name, maximum_significant_digits_name, false_word, with_kind, with_style, with_currency, with_currency_display, with_use_grouping, with_minimum_integer_digits, with_minimum_fraction_digits, with_maximum_fraction_digits, with_minimum_significant_digits, with_maximum_significant_digits, kind_of, style_of, display_of, to_count, pick_options, merge_text, merge_count, merge_one, merge, too_long, with_options, number_function}
use Rattle.decimals.specs.Relations.Shown.{shown_options, shown}
use Rattle.decimals.specs.declared.types.Kind.{Kind}
use Rattle.decimals.specs.declared.types.Style.{Style}
use Rattle.decimals.specs.declared.types.Display.{Display}
use Rattle.decimals.specs.declared.types.Number as CodeNumber
use Rattle.decimals.specs.declared.types.Options as CodeOptions
use Rattle.records.specs.Got.{got}
use Rattle.records.specs.Tree.{Named}
use Rattle.records.specs.Decode.{many, named_at}
use Rattle.resolution.specs.Effect.{M, Done, ret, ◌>>◌}
use Rattle.resolution.specs.Resolve.{note_merges, merges_of}
use Rattle.state.specs.declared.Progress.{Progress}
use Rattle.values.specs.declared.Value as CodeValue
use Rattle.values.specs.declared.Value.TheVariants as val
use Rattle.resolver.specs.Relations.Meets.{World, world, named_texts, NamedIn, Runs, a_number, a_wrong}
use Rattle.resolver.specs.Relations.Leaves.{FirstIs, first_none, first_number, first_other, NumberAt}
use Rattle.state.specs.Setters.{refuse_s}
use Rattle.resolver.specs.Relations.Values.{merged_all}
use Rattle.resolver.proofs.Single.Laws.{kept_same, runs_ret, runs_then}
use Rattle.resolver.proofs.Single.Steps.{runs_over, runs_as}
use Rattle.resolver.proofs.Single.Merges.{long_or, notes_fine, notes_long}

-- a merge that was not refused leaves the fraction's minimum in range
module _ (o : Options) (h : or_zero o.minimum_fraction_digits ≤ fraction_limit) where
  text_ranged : (a b c d f : Bool) (k : Kind) (s : Style) (t : List ℕ) (y : Display) (g : Bool)
      → or_zero (pick_options a (with_kind k o) (pick_options b (with_style s o) (pick_options c (with_currency (some t) o) (pick_options d (with_currency_display y o) (pick_options f (with_use_grouping g o) o))))).minimum_fraction_digits ≤ fraction_limit
  unfolding with_kind with_style with_currency with_currency_display with_use_grouping
  text_ranged true b c d f k s t y g = h
  text_ranged false true c d f k s t y g = h
  text_ranged false false true d f k s t y g = h
  text_ranged false false false true f k s t y g = h
  text_ranged false false false false true k s t y g = h
  text_ranged false false false false false k s t y g = h

  count_ranged : (a b c d f : Bool) (k : ℕ) → (b ≡ true → k ≤ fraction_limit)
      → or_zero (pick_options a (with_minimum_integer_digits (some k) o) (pick_options b (with_minimum_fraction_digits (some k) o) (pick_options c (with_maximum_fraction_digits (some k) o) (pick_options d (with_minimum_significant_digits (some k) o) (pick_options f (with_maximum_significant_digits (some k) o) o))))).minimum_fraction_digits ≤ fraction_limit
  unfolding with_minimum_integer_digits with_minimum_fraction_digits with_maximum_fraction_digits with_minimum_significant_digits with_maximum_significant_digits or_zero
  count_ranged true b c d f k e = h
  count_ranged false true c d f k e = e refl
  count_ranged false false true d f k e = h
  count_ranged false false false true f k e = h
  count_ranged false false false false true k e = h
  count_ranged false false false false false k e = h

  one_ranged : (name : List ℕ) (v : Value) → too_long name v ≡ false → or_zero (merge_one name v o).minimum_fraction_digits ≤ fraction_limit
  unfolding merge_one merge_text merge_count too_long
  one_ranged name (textual s) e = text_ranged (same_bytes name type_name) (same_bytes name style_name) (same_bytes name currency_name) (same_bytes name currency_display_name) (same_bytes name use_grouping_name) (kind_of s) (style_of s) s (display_of s) (not (same_bytes s false_word))
  one_ranged name (numeric n) e = count_ranged (same_bytes name minimum_integer_digits_name) (same_bytes name minimum_fraction_digits_name) (same_bytes name maximum_fraction_digits_name) (same_bytes name minimum_significant_digits_name) (same_bytes name maximum_significant_digits_name) (to_count n)
      (λ q. ltb-false fraction_limit (to_count n) (sym (ap (λ (t : Bool). t && ltb fraction_limit (to_count n)) q) ∙ e))
  one_ranged name nothing e = h
  one_ranged name wrong e = h

all_ranged : (es : List (List ℕ × Value)) (o : Options) {c : CodeOptions.Options} → merged_all es o ≡ Ok c → or_zero o.minimum_fraction_digits ≤ fraction_limit → or_zero (merge es o).minimum_fraction_digits ≤ fraction_limit
unfolding merged_all merge
all_ranged [] o e h = h
all_ranged (x ∷ es) o {c} e h = go (too_long x.0 x.1) refl e (λ q k. all_ranged es (merge_one x.0 x.1 o) q k)
  where
    go : (t : Bool) → too_long x.0 x.1 ≡ t → long_or t (merged_all es (merge_one x.0 x.1 o)) ≡ Ok c
        → (merged_all es (merge_one x.0 x.1 o) ≡ Ok c → or_zero (merge_one x.0 x.1 o).minimum_fraction_digits ≤ fraction_limit → or_zero (merge es (merge_one x.0 x.1 o)).minimum_fraction_digits ≤ fraction_limit)
        → or_zero (merge es (merge_one x.0 x.1 o)).minimum_fraction_digits ≤ fraction_limit
    go true f q g = let z : ◌≡◌ {A = ℕ} 0 1 = cc in absurd (omega arith)
    go false f q g = g q (one_ranged o h x.0 x.1 f)

-- the parts of being in range
and_both : (a b : Bool) → a && b ≡ true → (a ≡ true) × (b ≡ true)
and_both true b h = (refl, h)
and_both false b h = let z : ◌≡◌ {A = ℕ} 0 1 = cc in absurd (omega arith)

range_fraction : (n : Number) → in_range n ≡ true → or_zero n.options.minimum_fraction_digits ≤ fraction_limit
unfolding in_range
range_fraction n h = leb-true _ _ (and_both (leb n.scale scale_limit) (leb (or_zero n.options.minimum_fraction_digits) fraction_limit) (and_both (ltb n.digits digits_limit) (leb n.scale scale_limit && leb (or_zero n.options.minimum_fraction_digits) fraction_limit) h).1).1

range_with : (n : Number) (o : Options) → in_range n ≡ true → or_zero o.minimum_fraction_digits ≤ fraction_limit → in_range (with_options o n) ≡ true
unfolding in_range with_options
range_with n o h k = let a = and_both (ltb n.digits digits_limit) (leb n.scale scale_limit && leb (or_zero n.options.minimum_fraction_digits) fraction_limit) h in let b = and_both (leb n.scale scale_limit) (leb (or_zero n.options.minimum_fraction_digits) fraction_limit) a.1 in rw (a.0, b.0, le-leb (or_zero o.minimum_fraction_digits) fraction_limit k)

-- NUMBER, by its first value
first_merges : (n : Number) (l : List Value) (ns : List (List ℕ × Value)) → (merges_of (numeric n ∷ l) ns ≡ note_merges ns) × (number_function (numeric n ∷ l) ns ≡ numeric (with_options (merge ns n.options) n))
unfolding merges_of number_function
first_merges n l ns = (refl, refl)

none_merges : (ns : List (List ℕ × Value)) → (merges_of [] ns ≡ ret tt) × (number_function [] ns ≡ wrong)
unfolding merges_of number_function
none_merges ns = (refl, refl)

other_merges : (v : Value) (l : List Value) (ns : List (List ℕ × Value)) → ((n : Number) → v ≡ numeric n → ⊥) → (merges_of (v ∷ l) ns ≡ ret tt) × (number_function (v ∷ l) ns ≡ wrong)
unfolding merges_of number_function
other_merges (textual s) l ns h = (refl, refl)
other_merges (numeric n) l ns h = absurd (h n refl)
other_merges nothing l ns h = (refl, refl)
other_merges wrong l ns h = (refl, refl)

-- a call whose first value is no number
none_number : {c : CodeValue.Value} {vs : List Value} (ns : List (List ℕ × Value)) → FirstIs c vs → ((m : CodeNumber.Number) → c ≡ val.Number m → ⊥) → (merges_of vs ns ≡ ret tt) × (number_function vs ns ≡ wrong)
none_number ns (first_none e _) h = subst (λ (y : List Value). (merges_of y ns ≡ ret tt) × (number_function y ns ≡ wrong)) (sym e) (none_merges ns)
none_number ns (first_number n l e ec _) h = absurd (h (shown n) ec)
none_number ns (first_other v l e nn _) h = subst (λ (y : List Value). (merges_of y ns ≡ ret tt) × (number_function y ns ≡ wrong)) (sym e) (other_merges v l ns nn)

-- one whose first value is a number
is_first : {C : Type 0} {c : CodeValue.Value} {vs : List Value} {m : CodeNumber.Number} → c ≡ val.Number m → FirstIs c vs → ((n : Number) (l : List Value) → vs ≡ numeric n ∷ l → m ≡ shown n → in_range n ≡ true → C) → C
is_first e (first_none _ ec) k = let z : ◌≡◌ {A = ℕ} 0 1 = cc in absurd (omega arith)
is_first {m = m} e (first_number n l ev ec r) k = k n l ev (same (sym e ∙ ec)) r
  where
    same : {a b : CodeNumber.Number} → val.Number a ≡ val.Number b → a ≡ b
    same h = cc
is_first {m = m} e (first_other v l _ _ h) k = absurd (h m e)

merges_as : {w v : World} (vs : List Value) (ns : List (List ℕ × Value)) {m : M Done} → merges_of vs ns ≡ m → Runs (m >> ret (some (number_function vs ns))) w v → Runs (merges_of vs ns >> ret (some (number_function vs ns))) w v
merges_as vs ns e h = runs_as (ap (λ (y : M Done). y >> ret (some (number_function vs ns))) e) h

module _ (i w : List ℕ) (st : Progress) (at count base : ℕ) {first : CodeValue.Value} where
  pub number_over : {c : CodeValue.Value} → ((refused_of st) ≡ 0 → ⊥) → NumberAt i w st at count base first st c
  number_over h = record { kept = λ x l t. kept_same _; runs = λ ns f vs low _ _ _ x l t. runs_over _ _ h; holds = λ ns f vs low _ _ _ args back z. absurd (h z) }

  pub number_other : ((m : CodeNumber.Number) → first ≡ val.Number m → ⊥) → NumberAt i w st at count base first st val.Wrong
  number_other h = record {
    kept = λ x l t. kept_same _;
    runs = λ ns f vs low _ fi _ x l t. merges_as vs (named_texts ns) (none_number (named_texts ns) fi h).0 (runs_then (runs_ret tt _) (kept_same _) (λ _. runs_ret _ _));
    holds = λ ns f vs low _ fi _ args back _ _. a_wrong refl (none_number (named_texts ns) fi h).1;
  }

  module _ {m : CodeNumber.Number} (e : first ≡ val.Number m) where
    pub number_long : {r : Progress} → (refused_of st) ≡ 0 → ((x : Options) (ns : Named) (f low : ℕ) → m.options ≡ shown_options x → many [] ◌∷◌ count named_at i at ≡ got ns f → NamedIn w low base ns → Err too_long_error ≡ merged_all (named_texts ns) x)
        → r ≡ refuse_s refusal.ManyDigits st → NumberAt i w st at count base first r val.Wrong
    number_long {r} z h er = subst (λ (y : Progress). NumberAt i w st at count base first y val.Wrong) (sym er) (record {
      kept = λ x l t. record { begun = omega arith; over = λ n. absurd (n z) };
      runs = λ ns f vs low all fi ni x l t. is_first e fi (λ n k ev em _.
          merges_as vs (named_texts ns) (ap (λ (y : List Value). merges_of y (named_texts ns)) ev ∙ (first_merges n k (named_texts ns)).0)
          (runs_then (notes_long i x l w t st z (named_texts ns) n.options (sym (h n.options ns f low (ap (λ (y : CodeNumber.Number). y.options) em) all ni))) (kept_same _) (λ _. runs_over _ _ (refuse_some refusal.ManyDigits st))));
      holds = λ ns f vs low all fi ni args back _ q. absurd (refuse_some refusal.ManyDigits st q);
    })

    pub number_merged : {o : CodeOptions.Options} → ((x : Options) (ns : Named) (f low : ℕ) → m.options ≡ shown_options x → many [] ◌∷◌ count named_at i at ≡ got ns f → NamedIn w low base ns → Ok o ≡ merged_all (named_texts ns) x)
        → NumberAt i w st at count base first st (val.Number (record { negative = m.negative; digits = m.digits; scale = m.scale; options = o }))
    unfolding with_options
    number_merged {o} h = record {
      kept = λ x l t. kept_same _;
      runs = λ ns f vs low all fi ni x l t. is_first e fi (λ n k ev em _.
          merges_as vs (named_texts ns) (ap (λ (y : List Value). merges_of y (named_texts ns)) ev ∙ (first_merges n k (named_texts ns)).0)
          (runs_then (notes_fine (named_texts ns) n.options _ (sym (h n.options ns f low (ap (λ (y : CodeNumber.Number). y.options) em) all ni))).0 (kept_same _) (λ _. runs_ret _ _)));
      holds = λ ns f vs low all fi ni args back _ _. is_first e fi (λ n k ev em rg.
          let q = sym (h n.options ns f low (ap (λ (y : CodeNumber.Number). y.options) em) all ni) in
          let c = (notes_fine (named_texts ns) n.options (world i [] [] w [] st) q).1 in
          a_number (with_options (merge (named_texts ns) n.options) n)
          (ap (λ (y : CodeNumber.Number). val.Number (record { negative = y.negative; digits = y.digits; scale = y.scale; options = o })) em ∙ ap (λ (y : CodeOptions.Options). val.Number (record { negative = n.negative; digits = n.digits; scale = n.scale; options = y })) c)
          (range_with n (merge (named_texts ns) n.options) rg (all_ranged (named_texts ns) n.options q (range_fraction n rg)))
          (ap (λ (y : List Value). number_function y (named_texts ns)) ev ∙ (first_merges n k (named_texts ns)).1));
    }
