-- An expression: a select, or an inline one.
use Rattle.state.specs.Progress.{refused_of}
use mathlib.Core.Path.{◌≡◌, ap, sym, subst, ◌∙◌}
use Prim.Native.Nat.{ℕ, ◌-◌}
use native.Mathlib.Omega.{arith}
use Rattle.records.specs.Got.{got, bad}
use Rattle.records.specs.Bytes.{byte_at}
use Rattle.records.specs.Tree.{Expression}
use Rattle.records.specs.Decode.{select_at, expression, inline}
use Rattle.records.proofs.Views.{both, never, expression_elim}
use Rattle.resolution.specs.Resolve.{write_expression}
use Rattle.resolver.specs.Relations.Meets.{World, Env, setting_of, find_of, cross_of}
use Rattle.resolver.specs.Relations.Members.{ExpressionAt, SelectAt, InlineAt}
use Rattle.resolver.proofs.Single.Laws.{kept_same}
use Rattle.resolver.proofs.Single.Steps.{runs_as, runs_over}

module _ (e : Env) (left at : ℕ) where
  pub expression_over : (w : World) → ((refused_of w.st) ≡ 0 → ⊥) → ExpressionAt e left at w w
  expression_over w h = record { kept = kept_same w; runs = λ u y f k n t here. runs_over _ w h }

  pub expression_deep : (w : World) → left ≡ 0 → ExpressionAt e left at w w
  expression_deep w h = record { kept = kept_same w; runs = λ u y f k. expression_elim e.store at left k (λ p hb z q. absurd (omega arith)) (λ tag p i hb nt z ey hi. absurd (omega arith)) }

  pub expression_none : (w : World) → byte_at e.store at ≡ bad → ExpressionAt e left at w w
  expression_none w h = record { kept = kept_same w; runs = λ u y f k. expression_elim e.store at left k (λ p hb z q. never h hb) (λ tag p i hb nt z ey hi. never h hb) }

  module _ (tag p : ℕ) {w v : World} (hb : byte_at e.store at ≡ got tag p) where
    pub expression_select : tag ≡ 8 → SelectAt e (left - 1) p w v → ExpressionAt e left at w v
    expression_select t8 g = record {
      kept = g.kept;
      runs = λ u y f k n t here. expression_elim e.store at left k
          (λ p' hb' z q. both hb hb' (λ _ ep. g.runs u y f (subst (λ (j : ℕ). select_at (expression (left - 1)) (inline (left - 1)) e.store j ≡ got y f) (sym ep) q) n t here))
          (λ tag' p' i hb' nt z ey hi. both hb hb' (λ et _. absurd (nt (sym et ∙ t8))));
    }

    pub expression_inline : (tag ≡ 8 → ⊥) → InlineAt e left at w v → ExpressionAt e left at w v
    unfolding write_expression
    expression_inline n8 g = record {
      kept = g.kept;
      runs = λ u y f k n t here. expression_elim e.store at left k
          (λ p' hb' z q. both hb hb' (λ et _. absurd (n8 et)))
          (λ tag' p' i hb' nt z ey hi. runs_as (ap (λ (x : Expression). write_expression (setting_of e u) (find_of e u) (cross_of e u n) t x) ey) (g.runs u i f hi n t here));
    }
