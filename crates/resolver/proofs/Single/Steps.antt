-- Steps of the leaves over variables: an action under an equation, an expression that was cut short.
use Rattle.state.specs.Progress.{refused_of}
use mathlib.Core.Path.{◌≡◌, ap, sym, subst, ◌∙◌}
use mathlib.Core.List.{List}
use mathlib.Core.Bool.{true, false}
use Prim.Native.Nat.{ℕ, ◌-◌}
use Rattle.records.specs.Got.{got, bad}
use Rattle.records.specs.Bytes.{byte_at}
use Rattle.records.specs.Tree.{Expression}
use Rattle.records.specs.Decode.{expression, inline}
use Rattle.records.proofs.Views.{both, never, select_elim, expression_elim}
use Rattle.resolution.specs.Effect.{M, write}
use Rattle.resolution.specs.Resolve.{braced, error_of, cut_short, mark}
use Rattle.state.specs.declared.Progress.{Progress}
use Rattle.resolver.specs.Relations.Meets.{World, Runs, Acts}
use Rattle.resolver.specs.Relations.Leaves.{ErrorAt, CutAt}
use Rattle.resolver.proofs.Single.Laws.{kept_same, runs_ret, runs_dirty}
use Rattle.resolver.proofs.Single.Puts.{acts_over}

-- an action under an equation
pub runs_as : {A : Type 0} {w v : World} {m n : M A} → m ≡ n → Runs n w v → Runs m w v
runs_as {w = w} {v = v} e h = subst (λ n. Runs n w v) (sym e) h

pub acts_as : {A : Type 0} {w v : World} {m n : M A} → m ≡ n → Acts n w v → Acts m w v
acts_as {w = w} {v = v} e h = subst (λ n. Acts n w v) (sym e) h

-- where the world was refused, nothing is asked
pub runs_over : {A : Type 0} (m : M A) (w : World) → ((refused_of w.st) ≡ 0 → ⊥) → Runs m w w
runs_over m w h = (acts_over m w h).runs

-- an expression that was cut short
module _ (s : List ℕ) (at : ℕ) (x w : List ℕ) (st : Progress) where
  pub cut_over : ((refused_of st) ≡ 0 → ⊥) → CutAt s at x w st x w st
  cut_over h = record { kept = λ l t. kept_same _; runs = λ l t d i f q. runs_over _ _ h }

  pub cut_clean : st.dirty ≡ false → CutAt s at x w st x w st
  unfolding cut_short mark
  cut_clean h = record { kept = λ l t. kept_same _; runs = λ l t d i f q. runs_dirty _ false h (kept_same _) (runs_ret tt _) }

  pub cut_none : byte_at s at ≡ bad → CutAt s at x w st x w st
  cut_none h = record { kept = λ l t. kept_same _; runs = λ l t d i f q. expression_elim s at d q (λ p hb z k. never h hb) (λ tag p i' hb nt z ew hi. never h hb) }

  module _ (tag p : ℕ) (h : byte_at s at ≡ got tag p) (dirt : st.dirty ≡ true) {x' w' : List ℕ} {r : Progress} where
    pub cut_select : tag ≡ 8 → ErrorAt s p x w st x' w' r → CutAt s at x w st x' w' r
    unfolding cut_short mark error_of
    cut_select t8 e = record {
      kept = e.kept;
      runs = λ l t d i f g. runs_dirty _ true dirt (e.kept l t) (expression_elim s at d g
          (λ p' hb z k. both h hb (λ _ ep. select_elim (expression (d - 1)) (inline (d - 1)) s p' k (λ i' q k' q' vs hi hk zk hv ew.
          runs_as (ap (λ (y : Expression). write (braced (error_of y))) ew) (e.runs l t (d - 1) i' q (subst (λ (j : ℕ). inline (d - 1) s j ≡ got i' q) (sym ep) hi)))))
          (λ tag' p' i' hb nt z ew hi. both h hb (λ et _. absurd (nt (sym et ∙ t8)))));
    }

    pub cut_inline : (tag ≡ 8 → ⊥) → ErrorAt s at x w st x' w' r → CutAt s at x w st x' w' r
    unfolding cut_short mark error_of
    cut_inline n8 e = record {
      kept = e.kept;
      runs = λ l t d i f g. runs_dirty _ true dirt (e.kept l t) (expression_elim s at d g
          (λ p' hb z k. both h hb (λ et _. absurd (n8 et)))
          (λ tag' p' i' hb nt z ew hi. runs_as (ap (λ (y : Expression). write (braced (error_of y))) ew) (e.runs l t d i' f hi)));
    }
