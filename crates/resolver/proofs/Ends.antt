-- The ways in which a formatting returns.
use mathlib.Core.Path.{◌≡◌, refl, ap, sym, subst, ◌∙◌}
use mathlib.Core.List.{List}
use mathlib.Core.Option.{Option}
use Prim.Native.Nat.{ℕ, ◌≤◌, ◌<◌, min}
use native.Mathlib.Omega.{arith}
use lib.ListN.{length}
use borrow.Author.Tests.{le-leb, lt-leb}
use Rattle.records.specs.Got.{got}
use Rattle.records.specs.Tree.{Pattern}
use Rattle.records.specs.Decode.{entry_pattern_at}
use Rattle.records.specs.Images.{Store, Argument, store_of}
use Rattle.order.specs.Accepted.{accepted, refused_for, judge}
use Rattle.arguments.specs.Relations.Places.{Noted}
use Rattle.records.specs.Errors.{list_header}
use Rattle.resolution.specs.Effect.{Bytes}
use Rattle.resolution.specs.Exec.{Ran, start}
use Rattle.resolution.specs.Format.{Answer, finished, refused_before, refused_running, Buffers, Formatted, refuse, or_refuse, ended, format_with, format_arguments, format, limits_of, run_pattern}
use Rattle.layout.specs.Exact.{Octets}
use Rattle.theorems.specs.HighestUse.{highest_use}
use Rattle.theorems.specs.Figures.{FigureIs}
use Rattle.theorems.proofs.Formattings.{few_unfound}
use Rattle.theorems.proofs.Figures.{answers_highest}
use Rattle.state.specs.declared.Progress.{Progress}
use Rattle.resolver.specs.Relations.Meets.{lent, env, Setup, setting_of, find_of}
use Rattle.state.specs.Setters.{max_unfound, new_s}
use Rattle.resolver.specs.declared.format.Figures.{Figures}
use Rattle.resolver.specs.declared.format.Failure.{Failure}
use Rattle.resolver.specs.declared.format.Failure.TheVariants as failure
use Rattle.resolver.specs.Formats.{answer_of, gave}
use Rattle.refusals.specs.declared.Refusal.{Refusal}
use Rattle.refusals.specs.declared.Refusal.TheVariants as refusal
use Rattle.refusals.specs.Numbers.{number_of}
use Rattle.std.specs.Prelude.{Result, Ok, Err}
use Rattle.std.specs.Result.{IsErrAnd}
use Rattle.std.proofs.lemmas.Result.{err_from_is_err_and}
use Rattle.resolver.specs.Relations.Runs.{Part, stopped, stopped_of, PatternFound, refuses, finds, Rests, RanAs, RunOn, closed}
use Rattle.resolver.proofs.Whole.{buffers, rests_start}
use Rattle.resolver.proofs.Finish.{closes}

-- the count of lookups unfound is never so high that it stops
answer_is : (x : Answer) → ((t e b u w : ℕ) → x ≡ finished t e b u w → u ≤ max_unfound) → stopped_of x ≡ x
unfolding stopped_of
answer_is (finished t e b u w) h = let m : min u max_unfound ≡ u = omega (arith, h t e b u w refl) in ap (λ (j : ℕ). finished t e b j w) m
answer_is (refused_before n) h = refl
answer_is (refused_running n) h = refl

pub stopped_is : (f : Formatted) → ((t e b u w : ℕ) → f.answer ≡ finished t e b u w → u ≤ max_unfound) → stopped f ≡ f
unfolding stopped
stopped_is f h = ap (λ (a : Answer). record { answer = a; buffers = f.buffers }) (answer_is f.answer h)

-- a formatting that the definition refuses before its run
refused_is : (s id : Bytes) (a : Option Bytes) (image x l w : Bytes) (why : Refusal) {r : Result Figures Failure} → format s id a image (buffers x l w) ≡ refuse (number_of why) (buffers x l w) → r ≡ Err (failure.Refused why)
    → gave r x l w ≡ format s id a image (buffers x l w)
unfolding refuse answer_of gave
refused_is s id a image x l w why e er = ap (λ (c : Result Figures Failure). gave c x l w) er ∙ sym e

-- what `?` passes on of a refusal before the run
pub failed_on : {A : Type 0} (r : Result A Failure) {why : Refusal} → IsErrAnd r (λ y. y ≡ failure.Refused why) → r ≡ Err (failure.Refused why)
failed_on r k = let z = err_from_is_err_and r k in z.1 ∙ ap Err z.2

module _ (s id : Bytes) (a : Option Bytes) (image x l w : Bytes) {p : Part} (h : PatternFound s id a p) where
  -- 4, 8, 11, 12
  pub format_refused : {n : Refusal} {r : Result Figures Failure} → p ≡ Err n → r ≡ Err (failure.Refused n) → gave r x l w ≡ format s id a image (buffers x l w)
  format_refused {n} {r} e er = go h
    where
      go : PatternFound s id a p → gave r x l w ≡ format s id a image (buffers x l w)
      go (refuses m e' f) = let q : m ≡ n = cc in refused_is s id a image x l w n (f image (buffers x l w) ∙ ap (λ (i : Refusal). refuse (number_of i) (buffers x l w)) q) er
      go (finds q st used pt f e' hs hp k) = let z : ◌≡◌ {A = ℕ} 0 1 = cc in absurd (omega arith)

  module _ (q : ℕ) (e : p ≡ Ok q) where
    found_elim : {C : Type 0} → ((st : Store) (used : ℕ) (pt : Pattern) (f : ℕ) → store_of s ≡ got st used → entry_pattern_at s q ≡ got pt f → format s id a image (buffers x l w) ≡ format_arguments st pt (judge image) (buffers x l w) → C) → C
    found_elim {C} c = go h
      where
        go : PatternFound s id a p → C
        go (refuses m e' f) = let z : ◌≡◌ {A = ℕ} 0 1 = cc in absurd (omega arith)
        go (finds q' st used pt f e' hs hp k) = let eq : q' ≡ q = cc in c st used pt f hs (subst (λ (j : ℕ). entry_pattern_at s j ≡ got pt f) eq hp) (k image (buffers x l w))

    -- 13, 19
    pub format_arguments_law : {why : Refusal} {r : Result Figures Failure} → judge image ≡ refused_for (number_of why) → r ≡ Err (failure.Refused why) → gave r x l w ≡ format s id a image (buffers x l w)
    unfolding format_arguments
    format_arguments_law {why} e er = found_elim (λ st used pt f hs hp k. refused_is s id a image x l w why (k ∙ rw e) er)

    module _ {args : List (Bytes × Argument)} (ha : judge image ≡ accepted args) where
      -- 7, of a list buffer that has no room for a header
      pub format_header : {r : Result Figures Failure} → length l < 5 → r ≡ Err (failure.Refused refusal.ShortList) → gave r x l w ≡ format s id a image (buffers x l w)
      unfolding format_arguments format_with or_refuse list_header number_of
      format_header small er = found_elim (λ st used pt f hs hp k. refused_is s id a image x l w refusal.ShortList (k ∙ rw (ha, lt-leb 5 (length l) small)) er)

      -- the run
      pub format_run : {places x₁ l₁ w₁ : Bytes} {p sc : Progress} {n : ℕ} {given : Formatted} → Noted image places → Octets s → 5 ≤ length l → p ≡ new_s (length w) → RunOn (env s (lent image places)) q x l w p x₁ l₁ w₁ sc → n ≡ sc.begun
          → given ≡ closed sc n (buffers x₁ l₁ w₁) → given ≡ format s id a image (buffers x l w)
      unfolding format_arguments format_with or_refuse list_header run_pattern
      format_run {places} {x₁} {l₁} {w₁} {p = p} {sc = sc} {n = n} nt oct big ep ru en g = found_elim (λ st used pt f hs hp k.
          let u : Setup (env s (lent image places)) = record { held = st; used = used; held_at = hs; given = args; given_at = ha; noted = nt } in
          let o : Ran = run_pattern (setting_of (env s (lent image places)) u) (find_of (env s (lent image places)) u) (limits_of (buffers x l w)) pt in
          let begins : Rests x l w p start = subst (λ (y : Progress). Rests x l w y start) (sym ep) (rests_start x l w big) in
          let ran : RanAs o x l p x₁ l₁ w₁ sc sc.begun = (ru.runs u pt f hp start (unfold start in refl) begins).0 in
          let c : closed sc n (buffers x₁ l₁ w₁) ≡ stopped (ended o (buffers x l w)) = closes x l w p x₁ l₁ w₁ sc n ru.text_size ru.list_size ru.work_size o (subst (λ (j : ℕ). RanAs o x l p x₁ l₁ w₁ sc j) (sym en) ran) in
          let d : format s id a image (buffers x l w) ≡ ended o (buffers x l w) = k ∙ rw (ha, le-leb 5 (length l) big) in
          g ∙ c ∙ sym (ap stopped d) ∙ stopped_is (format s id a image (buffers x l w)) (λ t e b u v h. omega (arith, few_unfound s id a image (buffers x l w) oct t e b u v h)))

-- what gives the definition's answer gives its figure
pub figured : (r : Result Figures Failure) (x l w : Bytes) (o : Formatted) (n : ℕ) → gave r x l w ≡ o → FigureIs o.answer n → FigureIs (answer_of r) n
unfolding gave
figured r x l w o n h = subst (λ (a : Answer). FigureIs a n) (sym (ap (λ (y : Formatted). y.answer) h))

-- both parts of a formatting's contract from the first
pub with_figure : (r : Result Figures Failure) (x l w s id : Bytes) (a : Option Bytes) (image : Bytes) (b : Buffers) → gave r x l w ≡ format s id a image b
    → (gave r x l w ≡ format s id a image b) × FigureIs (answer_of r) (highest_use s id a image)
with_figure r x l w s id a image b h = (h, figured r x l w (format s id a image b) (highest_use s id a image) h (answers_highest s id a image b))
