-- Laws of a function's result as text.
use mathlib.Core.Path.{◌≡◌, refl, ap, subst, ◌∙◌}
use mathlib.Core.List.{List, [], ◌∷◌, ◌++◌, append_assoc}
use mathlib.Core.Bool.{Bool, true, false}
use mathlib.Core.Option.{Option, none, some}
use Prim.Native.Nat.{ℕ, ◌-◌, ◌≤◌}
use native.Mathlib.Omega.{arith}
use lib.ListN.{length}
use Rattle.arguments.specs.Relations.Given.{between}
use Rattle.arguments.proofs.Laws.{between_in}
use Rattle.numbers.specs.Value.{Value, textual, numeric, nothing, wrong, value_text}
use Rattle.records.specs.Bytes.{part}
use Rattle.records.specs.Errors.{Referred, reference}
use Rattle.resolution.specs.Effect.{Bytes, report, ◌>>◌, emit, write}
use Rattle.resolution.specs.Resolve.{braced, write_ref_error, write_result}
use Rattle.values.specs.declared.Value as CodeValue
use Rattle.values.specs.declared.Value.TheVariants as val
use Rattle.resolver.specs.Relations.Meets.{World, lent, env, Kept, Acts, Holds, in_store, in_args, in_work, a_number, is_nothing, a_wrong}
use Rattle.resolver.specs.Relations.Leaves.{ResultIs, has_result, is_no_function, ResultAt}
use Rattle.resolver.proofs.Single.Laws.{kept_then, acts_then}
use Rattle.resolver.proofs.Single.Steps.{runs_as}
use Rattle.resolver.proofs.Single.Variables.{part_small}

-- the text of a result, by what it is
result_text : (i : Bytes) (v : Value) → (v ≡ wrong → ⊥) → write_result i (some v) ≡ write (value_text v)
unfolding write_result value_text
result_text i (textual s) h = refl
result_text i (numeric n) h = refl
result_text i nothing h = refl
result_text i wrong h = absurd (h refl)

result_wrong_text : (i : Bytes) → write_result i (some wrong) ≡ write (i ++ (40 ∷ 41 ∷ []))
unfolding write_result
result_wrong_text i = refl

result_none_text : (i : Bytes) → write_result i none ≡ (emit (report (reference Referred.function i none)) >> write (123 ∷ i ++ (40 ∷ 41 ∷ 125 ∷ [])))
unfolding write_result write_ref_error braced
result_none_text i = ap (λ (b : Bytes). emit (report (reference Referred.function i none)) >> write (123 ∷ b)) (append_assoc i (40 ∷ 41 ∷ []) (125 ∷ []))

holds_wrong : {i a w : List ℕ} {low : ℕ} {c : CodeValue.Value} {v : Value} → Holds i a w low c v → c ≡ val.Wrong → v ≡ wrong
holds_wrong (in_store b e p q r s) h = let z : ◌≡◌ {A = ℕ} 0 1 = cc in absurd (omega arith)
holds_wrong (in_args b e p q r s) h = let z : ◌≡◌ {A = ℕ} 0 1 = cc in absurd (omega arith)
holds_wrong (in_work b e p l q r s) h = let z : ◌≡◌ {A = ℕ} 0 1 = cc in absurd (omega arith)
holds_wrong (a_number n p q r) h = let z : ◌≡◌ {A = ℕ} 0 1 = cc in absurd (omega arith)
holds_wrong (is_nothing p q) h = let z : ◌≡◌ {A = ℕ} 0 1 = cc in absurd (omega arith)
holds_wrong (a_wrong p q) h = q

holds_other : {i a w : List ℕ} {low : ℕ} {c : CodeValue.Value} {v : Value} → Holds i a w low c v → (c ≡ val.Wrong → ⊥) → v ≡ wrong → ⊥
holds_other (in_store b e p q r s) h k = let z : ◌≡◌ {A = ℕ} 0 1 = cc in omega arith
holds_other (in_args b e p q r s) h k = let z : ◌≡◌ {A = ℕ} 0 1 = cc in omega arith
holds_other (in_work b e p l q r s) h k = let z : ◌≡◌ {A = ℕ} 0 1 = cc in omega arith
holds_other (a_number n p q r) h k = let z : ◌≡◌ {A = ℕ} 0 1 = cc in omega arith
holds_other (is_nothing p q) h k = let z : ◌≡◌ {A = ℕ} 0 1 = cc in omega arith
holds_other (a_wrong p q) h k = h p

-- the result of a call that was made, and of one that was not
result_there : {C : Type 0} {i a w : List ℕ} {low : ℕ} {found : Bool} {c : CodeValue.Value} {o : Option Value} → found ≡ true → ResultIs i a w low found c o → ((v : Value) → o ≡ some v → Holds i a w low c v → C) → C
result_there e (has_result v _ eo h) k = k v eo h
result_there e (is_no_function f _ _) k = let z : ◌≡◌ {A = ℕ} 0 1 = cc in absurd (omega arith)

result_missing : {i a w : List ℕ} {low : ℕ} {found : Bool} {c : CodeValue.Value} {o : Option Value} → found ≡ false → ResultIs i a w low found c o → o ≡ none
result_missing e (has_result v f eo h) = let z : ◌≡◌ {A = ℕ} 0 1 = cc in absurd (omega arith)
result_missing e (is_no_function _ _ eo) = eo

module _ (s args places : List ℕ) (a b : ℕ) {found : Bool} {c : CodeValue.Value} where
  -- where the name is no part of the store, nothing is asked but that what was begun and refused stays
  result_in : {w v : World} → Kept w v → (a ≤ b → b ≤ length s → ResultAt (env s (lent args places)) a b found c w v) → ResultAt (env s (lent args places)) a b found c w v
  result_in kp h = record { kept = kp; runs = λ o r p q. (h p q).runs o r p q }

  wrong_part : {w v : World} → found ≡ true → c ≡ val.Wrong → Acts (write (part s a (b - a) ++ (40 ∷ 41 ∷ []))) w v → ResultAt (env s (lent args places)) a b found c w v
  wrong_part f e h = record {
    kept = h.kept;
    runs = λ o r p q n. result_there f r (λ y eo k. runs_as (ap (write_result (part s a (b - a))) (eo ∙ ap some (holds_wrong k e)) ∙ result_wrong_text (part s a (b - a))) h.runs);
  }

  pub result_value : {w v : World} → found ≡ true → (c ≡ val.Wrong → ⊥) → Kept w v → ((y : Value) → Holds s args w.work w.st.back c y → Acts (write (value_text y)) w v) → ResultAt (env s (lent args places)) a b found c w v
  result_value f e kp h = record {
    kept = kp;
    runs = λ o r p q n. result_there f r (λ y eo k. runs_as (ap (write_result (part s a (b - a))) eo ∙ result_text (part s a (b - a)) y (holds_other k e)) (h y k).runs);
  }

  none_part : {w u v : World} → found ≡ false → Kept w u → (length (part s a (b - a)) ≤ 255 → Acts (emit (report (reference Referred.function (part s a (b - a)) none))) w u) → Acts (write (123 ∷ part s a (b - a) ++ (40 ∷ 41 ∷ 125 ∷ []))) u v
      → ResultAt (env s (lent args places)) a b found c w v
  none_part f kp h g = record {
    kept = kept_then kp g.kept;
    runs = λ o r p q n. runs_as (ap (write_result (part s a (b - a))) (result_missing f r) ∙ result_none_text (part s a (b - a))) (acts_then (h (part_small s a (b - a) n)) g).runs;
  }

  module _ {n : Bytes} (en : n ≡ between s a b) where
    pub result_wrong : {w v : World} → found ≡ true → c ≡ val.Wrong → Acts (write (n ++ (40 ∷ 41 ∷ []))) w v → ResultAt (env s (lent args places)) a b found c w v
    result_wrong {w} {v} f e h = result_in h.kept (λ p q. wrong_part f e (subst (λ (m : Bytes). Acts (write (m ++ (40 ∷ 41 ∷ []))) w v) (en ∙ between_in s a b p q) h))

    pub result_none : {w u v : World} → found ≡ false → Kept w u → (length n ≤ 255 → Acts (emit (report (reference Referred.function n none))) w u) → Acts (write (123 ∷ n ++ (40 ∷ 41 ∷ 125 ∷ []))) u v
        → ResultAt (env s (lent args places)) a b found c w v
    result_none {w} {u} {v} f kp h g = result_in (kept_then kp g.kept) (λ p q.
        let e = en ∙ between_in s a b p q in
        none_part f kp (subst (λ (m : Bytes). length m ≤ 255 → Acts (emit (report (reference Referred.function m none))) w u) e h) (subst (λ (m : Bytes). Acts (write (123 ∷ m ++ (40 ∷ 41 ∷ 125 ∷ []))) u v) e g))
