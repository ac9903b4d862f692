-- A call whose arguments are known: what each holder of its Id makes of it.
use Rattle.state.specs.Progress.{refused_of}
use mathlib.Core.Path.{◌≡◌, refl, ap, sym, subst, ◌∙◌}
use mathlib.Core.List.{List}
use mathlib.Core.Bool.{Bool, true, false}
use Prim.Native.Nat.{ℕ, ◌-◌}
use Rattle.records.specs.Got.{got, bad}
use Rattle.records.specs.Bytes.{part, number_at, span_at}
use Rattle.records.specs.Images.{Store, store_of}
use Rattle.records.proofs.Views.{both, never}
use Rattle.entries.specs.Lookup.{find_in}
use Rattle.entries.specs.Relations.Meets.{HolderAt}
use Rattle.entries.specs.declared.Holder.{Holder as Held}
use Rattle.std.specs.Prelude as rust
use Rattle.entries.specs.declared.Holder.TheVariants as found
use Rattle.state.specs.declared.Progress.{Progress}
use Rattle.values.specs.declared.Value as CodeValue
use Rattle.values.specs.declared.Value.TheVariants as val
use Rattle.state.specs.Setters.{back_s, counted_s, missing_s}
use Rattle.resolver.specs.Relations.Meets.{world, env}
use Rattle.resolver.specs.Relations.Leaves.{NamedAt, NumberAt}
use Rattle.resolver.specs.Relations.Members.{PositionalAt}
use Rattle.resolver.proofs.Single.Puts.{counts}
use Rattle.resolver.specs.Relations.Answers.{AnswerAt, AppliedAt}
use Rattle.resolver.proofs.Calls.{called_stopped, called_unnamed, called_halted, called_function, called_message, called_term, called_lost}

module _ (s w2 : List ℕ) (s2 : Progress) (id : List ℕ) (named m base : ℕ) (first : CodeValue.Value) (old : ℕ) {h : rust.Option Held}
    (hold : (st : Store) (f : ℕ) → store_of s ≡ got st f → HolderAt s (find_in st.items id) h) where
  holds : (a p : ℕ) → id ≡ part s a (p - a) → (st : Store) (f : ℕ) → store_of s ≡ got st f → HolderAt s (find_in st.items (part s a (p - a))) h
  holds a p e st f k = subst (λ (i : List ℕ). HolderAt s (find_in st.items i) h) e (hold st f k)

  pub answer_function : {s3 r : Progress} {c : CodeValue.Value} → h ≡ rust.Some found.Function → NumberAt s w2 s2 named m base first s3 c → r ≡ back_s old s3 → AnswerAt s w2 s2 id named m base first old r true c
  answer_function {s3} {r} {c} eh nb er = record {
    called = λ image left at a p sp ei w x l w1 t s1 end pos hm nm z1 z2 eb eo.
        called_function (env s image) left at sp w pos hm nm z1 z2 (holds a p ei) eh (subst (λ (b : ℕ). NumberAt s w2 s2 named m b first s3 c) eb nb) (er ∙ ap (λ (b : ℕ). back_s b s3) eo);
  }

  pub answer_message : {r : Progress} {q : ℕ} → h ≡ rust.Some (found.Message q) → r ≡ back_s old s2 → AnswerAt s w2 s2 id named m base first old r false val.Wrong
  answer_message {r} eh er = record {
    called = λ image left at a p sp ei w x l w1 t s1 end pos hm nm z1 z2 eb eo. called_message (env s image) left at sp w pos hm nm z1 z2 (holds a p ei) eh (er ∙ ap (λ (b : ℕ). back_s b s2) eo);
  }

  pub answer_term : {r : Progress} {q : ℕ} → h ≡ rust.Some (found.Term q) → r ≡ back_s old s2 → AnswerAt s w2 s2 id named m base first old r false val.Wrong
  answer_term {r} eh er = record {
    called = λ image left at a p sp ei w x l w1 t s1 end pos hm nm z1 z2 eb eo. called_term (env s image) left at sp w pos hm nm z1 z2 (holds a p ei) eh (er ∙ ap (λ (b : ℕ). back_s b s2) eo);
  }

  pub answer_nothing : {r : Progress} → h ≡ rust.None → r ≡ missing_s old s2 → AnswerAt s w2 s2 id named m base first old r false val.Wrong
  answer_nothing {r} eh er = record {
    called = λ image left at a p sp ei w x l w1 t s1 end pos hm nm z1 z2 eb eo.
        called_lost (env s image) left at sp w pos hm nm z1 z2 (holds a p ei) eh (counts refl) (er ∙ ap (λ (b : ℕ). back_s b (counted_s s2)) eo);
  }

-- the same answer, where the value and whether there was a function are told by other names
pub answer_as : {s w2 : List ℕ} {s2 : Progress} {id : List ℕ} {named m base : ℕ} {first : CodeValue.Value} {old : ℕ} {r : Progress} {b d : Bool} {c v : CodeValue.Value} → b ≡ d → c ≡ v
    → AnswerAt s w2 s2 id named m base first old r d v → AnswerAt s w2 s2 id named m base first old r b c
answer_as {s} {w2} {s2} {id} {named} {m} {base} {first} {old} {r} {b} {d} {c} {v} eb ec g =
    subst (λ (o : Bool). AnswerAt s w2 s2 id named m base first old r o c) (sym eb) (subst (λ (q : CodeValue.Value). AnswerAt s w2 s2 id named m base first old r d q) (sym ec) g)

-- a call whose positional arguments are known: how far it comes
module _ (s : List ℕ) (at : ℕ) {w1 : List ℕ} {s1 : Progress} {first : CodeValue.Value} {end old : ℕ} where
  -- refused while they were resolved
  pub applied_stopped : (b : Bool) (c : CodeValue.Value) → ((refused_of s1) ≡ 0 → ⊥) → AppliedAt s at w1 s1 first end old w1 s1 b c
  applied_stopped b c z = record { called = λ image left a p sp w x l t pos eo. called_stopped (env s image) left at sp w pos b c z }

  -- no Str is its Id: never
  pub applied_none : (b : Bool) (c : CodeValue.Value) → span_at s at ≡ bad → AppliedAt s at w1 s1 first end old w1 s1 b c
  applied_none b c h = record { called = λ image left a p sp w x l t pos eo. never h sp }

  -- no named ones stand there: never
  pub applied_unnamed : (b : Bool) (c : CodeValue.Value) → number_at 2 s end ≡ bad → AppliedAt s at w1 s1 first end old w1 s1 b c
  applied_unnamed b c h = record { called = λ image left a p sp w x l t pos eo. called_unnamed (env s image) left at sp w pos b c h }

  module _ {m named : ℕ} (hm : number_at 2 s end ≡ got m named) {w2 : List ℕ} {s2 : Progress} (nm : NamedAt s named m w1 s1 w2 s2) where
    -- refused while the named ones were resolved
    pub applied_halted : (b : Bool) (c : CodeValue.Value) → ((refused_of s2) ≡ 0 → ⊥) → AppliedAt s at w1 s1 first end old w2 s2 b c
    applied_halted b c z = record { called = λ image left a p sp w x l t pos eo. called_halted (env s image) left at sp w pos hm nm b c z }

    -- all are known: the answer
    pub applied_answer : {a p : ℕ} {r : Progress} {b : Bool} {c : CodeValue.Value} → span_at s at ≡ got a p → (refused_of s1) ≡ 0 → (refused_of s2) ≡ 0
        → AnswerAt s w2 s2 (part s a (p - a)) named m s1.back first old r b c → AppliedAt s at w1 s1 first end old w2 r b c
    applied_answer {a} {p} sp z1 z2 g = record {
      called = λ image left a' p' sp' w x l t pos eo. both sp sp' (λ ea ep.
          g.called image left at a p sp refl w x l w1 t s1 end (subst (λ (j : ℕ). PositionalAt (env s image) left j w (world s x l w1 t s1) first end) (sym ep) pos) hm nm z1 z2 refl eo);
    }
