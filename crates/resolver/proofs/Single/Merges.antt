-- Laws of NUMBER's options: merged one after the other, and refused where the definition's trace is.
use Rattle.refusals.specs.Numbers.{number_of}
use Rattle.state.specs.Progress.{refused_of}
use Rattle.refusals.specs.declared.Refusal.TheVariants as refusal
use mathlib.Core.Path.{◌≡◌, refl, ap, sym, ◌∙◌}
use mathlib.Core.List.{List, [], ◌∷◌}
use mathlib.Core.Bool.{Bool, true, false, ◌&&◌, not}
use mathlib.Core.Option.{Option, some}
use Prim.Native.Nat.{ℕ, ◌≤◌, ◌<◌}
use native.Mathlib.Omega.{arith}
use lib.Dec.{ltb}
use borrow.Author.Tests.{ltb-true, ltb-false, le-leb, lt-leb}
use Rattle.decimals.specs.Bytes.{same_bytes}
use Rattle.decimals.specs.Decimal.{Options, Number, fraction_limit}
use Rattle.literals.specs.Literal.{is_number, literal}
use Rattle.numbers.specs.Value.{Value, textual, numeric, nothing, wrong, type_name, style_name, currency_name, currency_display_name, use_grouping_name, minimum_integer_digits_name, minimum_fraction_digits_name, maximum_fraction_digits_name, minimum_significant_digits_name, maximum_significant_digits_name, false_word, with_kind, with_style, with_currency, with_currency_display, with_use_grouping, with_minimum_integer_digits, with_minimum_fraction_digits, with_maximum_fraction_digits, with_minimum_significant_digits, with_maximum_significant_digits, kind_of, style_of, display_of, to_count, pick_options, merge_text, merge_count, merge_one, merge, too_long}
use Rattle.decimals.specs.Relations.Shown.{shown_text, told_text, shown_options, told_options, shown, told}
use Rattle.literals.specs.Relations.Shown.{literal_of}
use Rattle.numbers.specs.Relations.Shown.{merged_of, too_long_error}
use Rattle.std.specs.Prelude as rust
use Rattle.std.specs.Prelude.{Some, None, Ok, Err}
use Rattle.decimals.specs.declared.types.Kind.{Kind}
use Rattle.decimals.specs.declared.types.Style.{Style}
use Rattle.decimals.specs.declared.types.Display.{Display}
use Rattle.decimals.specs.declared.types.Number as CodeNumber
use Rattle.decimals.specs.declared.types.Options as CodeOptions
use Rattle.numbers.specs.declared.merge.TooLong.{TooLong}
use Rattle.decimals.proofs.Shown.{count_there, text_back}
use Rattle.resolution.specs.Effect.{merged, ◌>>◌, emit}
use Rattle.resolution.specs.Resolve.{note_if, note_one, note_merges}
use Rattle.resolution.specs.Exec.{Machine, Limits, ran, refused, exec, and_then, step, allow, allow_if}
use Rattle.state.specs.declared.Progress.{Progress}
use Rattle.resolver.specs.Relations.Meets.{World, world, ended, Runs}
use Rattle.state.specs.Setters.{refuse_s}
use Rattle.resolver.specs.Relations.Values.{merged_all}
use Rattle.resolver.proofs.Single.Laws.{kept_same, moved_none, runs_ret, runs_then}
use Rattle.resolver.proofs.Single.Puts.{acts_refuse, refuse_some}
use Rattle.resolver.proofs.Single.Steps.{runs_over, runs_as}

-- a merge that is refused, or what follows it
abbrev pub long_or : Bool → rust.Result CodeOptions.Options TooLong → rust.Result CodeOptions.Options TooLong
long_or t r = elim t [ true ↦ Err too_long_error | false ↦ r ]

-- of a currency only its flag is seen
module _ (x : Option (List ℕ)) (o : Options) (e : shown_text x ≡ shown_text o.currency) where
  text_flag : (a b c d f : Bool) (k : Kind) (s : Style) (t : List ℕ) (y : Display) (g : Bool)
      → shown_options (pick_options a (with_kind k (with_currency x o)) (pick_options b (with_style s (with_currency x o)) (pick_options c (with_currency (some t) (with_currency x o)) (pick_options d (with_currency_display y (with_currency x o)) (pick_options f (with_use_grouping g (with_currency x o)) (with_currency x o))))))
      ≡ shown_options (pick_options a (with_kind k o) (pick_options b (with_style s o) (pick_options c (with_currency (some t) o) (pick_options d (with_currency_display y o) (pick_options f (with_use_grouping g o) o)))))
  unfolding with_kind with_style with_currency with_currency_display with_use_grouping
  text_flag true b c d f k s t y g = rw e
  text_flag false true c d f k s t y g = rw e
  text_flag false false true d f k s t y g = refl
  text_flag false false false true f k s t y g = rw e
  text_flag false false false false true k s t y g = rw e
  text_flag false false false false false k s t y g = rw e

  count_flag : (a b c d f : Bool) (k : ℕ)
      → shown_options (pick_options a (with_minimum_integer_digits (some k) (with_currency x o)) (pick_options b (with_minimum_fraction_digits (some k) (with_currency x o)) (pick_options c (with_maximum_fraction_digits (some k) (with_currency x o)) (pick_options d (with_minimum_significant_digits (some k) (with_currency x o)) (pick_options f (with_maximum_significant_digits (some k) (with_currency x o)) (with_currency x o))))))
      ≡ shown_options (pick_options a (with_minimum_integer_digits (some k) o) (pick_options b (with_minimum_fraction_digits (some k) o) (pick_options c (with_maximum_fraction_digits (some k) o) (pick_options d (with_minimum_significant_digits (some k) o) (pick_options f (with_maximum_significant_digits (some k) o) o)))))
  unfolding with_currency with_minimum_integer_digits with_minimum_fraction_digits with_maximum_fraction_digits with_minimum_significant_digits with_maximum_significant_digits
  count_flag true b c d f k = rw e
  count_flag false true c d f k = rw e
  count_flag false false true d f k = rw e
  count_flag false false false true f k = rw e
  count_flag false false false false true k = rw e
  count_flag false false false false false k = rw e

  merge_flag : (name : List ℕ) (v : Value) → shown_options (merge_one name v (with_currency x o)) ≡ shown_options (merge_one name v o)
  unfolding merge_one merge_text merge_count with_currency
  merge_flag name (textual s) = text_flag (same_bytes name type_name) (same_bytes name style_name) (same_bytes name currency_name) (same_bytes name currency_display_name) (same_bytes name use_grouping_name) (kind_of s) (style_of s) s (display_of s) (not (same_bytes s false_word))
  merge_flag name (numeric n) = count_flag (same_bytes name minimum_integer_digits_name) (same_bytes name minimum_fraction_digits_name) (same_bytes name maximum_fraction_digits_name) (same_bytes name minimum_significant_digits_name) (same_bytes name maximum_significant_digits_name) (to_count n)
  merge_flag name nothing = rw e
  merge_flag name wrong = rw e

told_is : (o : Options) → told_options (shown_options o) ≡ with_currency (told_text (shown_text o.currency)) o
unfolding with_currency
told_is o = simp count_there

-- what is shown of a merge is computed from what is shown
pub merged_told : (name : List ℕ) (v : Value) (o : Options) → shown_options (merge_one name v (told_options (shown_options o))) ≡ shown_options (merge_one name v o)
merged_told name v o = ap (λ (p : Options). shown_options (merge_one name v p)) (told_is o) ∙ merge_flag (told_text (shown_text o.currency)) o (text_back (shown_text o.currency)) name v

-- one option that is text
pub merge_text_is : (name t : List ℕ) (p : Options) {v : Value} {o m : CodeOptions.Options} → o ≡ shown_options p → v ≡ textual t → m ≡ shown_options (merge_text name t (told_options o)) → Ok m ≡ merged_of name v p
unfolding merged_of too_long merge_one
merge_text_is name t p eo ev em = rw (ev, em, eo) (ap Ok (merged_told name (textual t) p))

long_told : (name : List ℕ) (y : Number) → too_long name (numeric (told (shown y))) ≡ too_long name (numeric y)
unfolding too_long to_count
long_told name y = refl

one_told : (name : List ℕ) (y : Number) (o : Options) → merge_one name (numeric (told (shown y))) o ≡ merge_one name (numeric y) o
unfolding merge_one to_count
one_told name y o = refl

merged_same : (name : List ℕ) (v v' : Value) (o o' : Options) → too_long name v ≡ too_long name v' → shown_options (merge_one name v o) ≡ shown_options (merge_one name v' o') → merged_of name v o ≡ merged_of name v' o'
unfolding merged_of
merged_same name v v' o o' f g =
    ap (λ (t : Bool). long_or t (Ok (shown_options (merge_one name v o)))) f
    ∙ ap (λ (m : CodeOptions.Options). long_or (too_long name v') (Ok m)) g

-- one that is a number
pub merge_number_is : (name : List ℕ) (y : Number) (p : Options) {v : Value} {o : CodeOptions.Options} {n : CodeNumber.Number} {r : rust.Result CodeOptions.Options TooLong}
    → o ≡ shown_options p → v ≡ numeric y → n ≡ shown y → r ≡ merged_of name (numeric (told n)) (told_options o) → r ≡ merged_of name v p
merge_number_is name y p {o = o} eo ev en er =
    er ∙ ap (λ (n : CodeNumber.Number). merged_of name (numeric (told n)) (told_options o)) en ∙ ap (λ (q : CodeOptions.Options). merged_of name (numeric (told (shown y))) (told_options q)) eo
    ∙ merged_same name (numeric (told (shown y))) (numeric y) (told_options (shown_options p)) p (long_told name y) (ap shown_options (one_told name y (told_options (shown_options p))) ∙ merged_told name (numeric y) p)
    ∙ sym (ap (λ (w : Value). merged_of name w p) ev)

-- a literal that was read
pub literal_is : (t : List ℕ) {r : rust.Option CodeNumber.Number} {n : CodeNumber.Number} → is_number t ≡ true → r ≡ literal_of t → r ≡ Some n → n ≡ shown (literal t)
unfolding literal_of
literal_is t {r} {n} h e q = let w : Some n ≡ Some (shown (literal t)) = sym q ∙ (rw (h, literal_of) at e) in cc

pub literal_bad : {C : Type 0} (t : List ℕ) {r : rust.Option CodeNumber.Number} → is_number t ≡ true → r ≡ literal_of t → r ≡ None → C
unfolding literal_of
literal_bad t {r} h e q = let w : None ≡ Some (shown (literal t)) = sym q ∙ (rw (h, literal_of) at e) in let z : ◌≡◌ {A = ℕ} 0 1 = cc in absurd (omega arith)

-- all of them: the first, then the others
module _ (name : List ℕ) (v : Value) (es : List (List ℕ × Value)) (o : Options) where
  pub all_long : merged_of name v o ≡ Err too_long_error → merged_all ((name, v) ∷ es) o ≡ Err too_long_error
  unfolding merged_of merged_all
  all_long h = go (too_long name v) refl h
    where
      go : (t : Bool) → too_long name v ≡ t → long_or t (Ok (shown_options (merge_one name v o))) ≡ Err too_long_error → long_or t (merged_all es (merge_one name v o)) ≡ Err too_long_error
      go true e q = refl
      go false e q = let z : ◌≡◌ {A = ℕ} 0 1 = cc in absurd (omega arith)

  pub all_next : {m : CodeOptions.Options} → merged_of name v o ≡ Ok m → (m ≡ shown_options (merge_one name v o)) × (merged_all ((name, v) ∷ es) o ≡ merged_all es (merge_one name v o)) × (too_long name v ≡ false)
  unfolding merged_of merged_all
  all_next {m} h = go (too_long name v) refl h
    where
      go : (t : Bool) → too_long name v ≡ t → long_or t (Ok (shown_options (merge_one name v o))) ≡ Ok m → (m ≡ shown_options (merge_one name v o)) × (long_or t (merged_all es (merge_one name v o)) ≡ merged_all es (merge_one name v o)) × (t ≡ false)
      go true e q = let z : ◌≡◌ {A = ℕ} 0 1 = cc in absurd (omega arith)
      go false e q = ((cc), refl, refl)

-- a merge that is in range, or beyond
long_numeric : (name : List ℕ) (n : Number) (b t : Bool) → same_bytes name minimum_fraction_digits_name ≡ b → ltb fraction_limit (to_count n) ≡ t → too_long name (numeric n) ≡ b && t
unfolding too_long
long_numeric name n b t e f = rw (e, f)

note_numeric : (name : List ℕ) (n : Number) (b : Bool) → same_bytes name minimum_fraction_digits_name ≡ b → note_one name (numeric n) ≡ note_if b n
unfolding note_one
note_numeric name n b e = ap (λ (t : Bool). note_if t n) e

merged_in : (L : Limits) (k : ℕ) (m : Machine) → k ≤ fraction_limit → exec L (merged k ∷ []) m ≡ ran m
unfolding exec step allow allow_if and_then
merged_in L k m h = rw (le-leb k fraction_limit h)

merged_out : (L : Limits) (k : ℕ) (m : Machine) → fraction_limit < k → exec L (merged k ∷ []) m ≡ refused 17
unfolding exec step allow allow_if and_then
merged_out L k m h = rw (lt-leb k fraction_limit h)

emit_runs : (k : ℕ) (w : World) → k ≤ fraction_limit → Runs (emit (merged k)) w w
unfolding emit
emit_runs k w h L s m l =
    let q = moved_none w s (tt {0}) in
    ended m (merged_in L k m h) l refl (record { store = q.store; front = q.front; back = q.back; rest = q.rest; aside = q.aside; depth = q.depth; trail = q.trail; stay = q.stay; outs = q.outs })

clash_bool : {C : Type 0} {t : Bool} → t ≡ true → t ≡ false → C
clash_bool p q = let z : ◌≡◌ {A = ℕ} 0 1 = cc in absurd (omega arith)

pub note_fine : (name : List ℕ) (v : Value) (w : World) → too_long name v ≡ false → Runs (note_one name v) w w
unfolding note_one note_if
note_fine name (textual s) w h = runs_ret tt w
note_fine name nothing w h = runs_ret tt w
note_fine name wrong w h = runs_ret tt w
note_fine name (numeric n) w h = go (same_bytes name minimum_fraction_digits_name) refl (ltb fraction_limit (to_count n)) refl
  where
    go : (b : Bool) → same_bytes name minimum_fraction_digits_name ≡ b → (t : Bool) → ltb fraction_limit (to_count n) ≡ t → Runs (note_one name (numeric n)) w w
    go true e true f = clash_bool (long_numeric name n true true e f) h
    go true e false f = runs_as (note_numeric name n true e) (emit_runs (to_count n) w (ltb-false fraction_limit (to_count n) f))
    go false e t f = runs_as (note_numeric name n false e) (runs_ret tt w)

module _ (i x l w t : List ℕ) (st : Progress) (z : (refused_of st) ≡ 0) where
  emit_long : (k : ℕ) → fraction_limit < k → Runs (emit (merged k)) (world i x l w t st) (world i x l w t (refuse_s refusal.ManyDigits st))
  unfolding emit number_of
  emit_long k h = (acts_refuse i x l w t st refusal.ManyDigits (emit (merged k)) z (λ L s m lv. merged_out L k m h) refl).runs

  pub note_long : (name : List ℕ) (v : Value) → too_long name v ≡ true → Runs (note_one name v) (world i x l w t st) (world i x l w t (refuse_s refusal.ManyDigits st))
  unfolding too_long note_if
  note_long name (textual s) h = clash_bool h refl
  note_long name nothing h = clash_bool h refl
  note_long name wrong h = clash_bool h refl
  note_long name (numeric n) h = go (same_bytes name minimum_fraction_digits_name) refl (ltb fraction_limit (to_count n)) refl
    where
      go : (b : Bool) → same_bytes name minimum_fraction_digits_name ≡ b → (y : Bool) → ltb fraction_limit (to_count n) ≡ y → Runs (note_one name (numeric n)) (world i x l w t st) (world i x l w t (refuse_s refusal.ManyDigits st))
      go true e true f = runs_as (note_numeric name n true e) (emit_long (to_count n) (ltb-true fraction_limit (to_count n) f))
      go true e false f = clash_bool h (long_numeric name n true false e f)
      go false e y f = clash_bool h (long_numeric name n false y e f)

-- all the merges of a call
pub notes_fine : (es : List (List ℕ × Value)) (o : Options) (w : World) {c : CodeOptions.Options} → merged_all es o ≡ Ok c → Runs (note_merges es) w w × (c ≡ shown_options (merge es o))
unfolding note_merges merged_all merge
notes_fine [] o w {c} h = (runs_ret tt w, let q : Ok (shown_options o) ≡ Ok c = h in cc)
notes_fine (e ∷ es) o w {c} h = go (too_long e.0 e.1) refl h (λ q. notes_fine es (merge_one e.0 e.1 o) w q)
  where
    go : (t : Bool) → too_long e.0 e.1 ≡ t → long_or t (merged_all es (merge_one e.0 e.1 o)) ≡ Ok c
        → (merged_all es (merge_one e.0 e.1 o) ≡ Ok c → Runs (note_merges es) w w × (c ≡ shown_options (merge es (merge_one e.0 e.1 o)))) → Runs (note_one e.0 e.1 >> note_merges es) w w × (c ≡ shown_options (merge es (merge_one e.0 e.1 o)))
    go true f q g = let y : ◌≡◌ {A = ℕ} 0 1 = cc in absurd (omega arith)
    go false f q g = let r = g q in (runs_then (note_fine e.0 e.1 w f) (kept_same w) (λ _. r.0), r.1)

module _ (i x l w t : List ℕ) (st : Progress) (z : (refused_of st) ≡ 0) where
  pub notes_long : (es : List (List ℕ × Value)) (o : Options) → merged_all es o ≡ Err too_long_error → Runs (note_merges es) (world i x l w t st) (world i x l w t (refuse_s refusal.ManyDigits st))
  unfolding note_merges merged_all
  notes_long [] o h = let y : ◌≡◌ {A = ℕ} 0 1 = cc in absurd (omega arith)
  notes_long (e ∷ es) o h = go (too_long e.0 e.1) refl h (λ q. notes_long es (merge_one e.0 e.1 o) q)
    where
      go : (b : Bool) → too_long e.0 e.1 ≡ b → long_or b (merged_all es (merge_one e.0 e.1 o)) ≡ Err too_long_error
          → (merged_all es (merge_one e.0 e.1 o) ≡ Err too_long_error → Runs (note_merges es) (world i x l w t st) (world i x l w t (refuse_s refusal.ManyDigits st))) → Runs (note_one e.0 e.1 >> note_merges es) (world i x l w t st) (world i x l w t (refuse_s refusal.ManyDigits st))
      go true f q g = runs_then (note_long i x l w t st z e.0 e.1 f) (kept_same _) (λ _. runs_over (note_merges es) _ (refuse_some refusal.ManyDigits st))
      go false f q g = runs_then (note_fine e.0 e.1 _ f) (record { begun = omega arith; over = λ y. absurd (y z) }) (λ _. g q)

-- there is one refusal of a merge
pub long_is : (r : rust.Result CodeOptions.Options TooLong) → rust.is_err r ≡ true → r ≡ Err too_long_error
long_is (Ok o) h = let z : ◌≡◌ {A = ℕ} 0 1 = cc in absurd (omega arith)
long_is (Err x) h = refl
