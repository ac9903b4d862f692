-- A call whose arguments are known.
use Rattle.state.specs.Progress.{refused_of}
use Rattle.std.specs.Prelude.{◌≡◌, List, Bool, ℕ, ◌-◌}
use Rattle.records.specs.Got.{got}
use Rattle.records.specs.Bytes.{part, number_at, span_at}
use Rattle.state.specs.declared.Progress.{Progress}
use Rattle.values.specs.declared.Value as CodeValue
use Rattle.resolver.specs.Relations.Meets.{Lent, World, world, env}
use Rattle.resolver.specs.Relations.Leaves.{NamedAt}
use Rattle.resolver.specs.Relations.Members.{PositionalAt, CalledAt}

-- what is answered where the positional arguments end at `base` and the named ones are known: the call's answer, its arguments freed down to `old`
pub record AnswerAt (s w2 : List ℕ) (s2 : Progress) (id : List ℕ) (named m base : ℕ) (first : CodeValue.Value) (old : ℕ) (r : Progress) (found : Bool) (c : CodeValue.Value) : Type 0 where
  pub called : (image : Lent) (left at a p : ℕ) → span_at s at ≡ got a p → id ≡ part s a (p - a) → (w : World) (x l w1 t : List ℕ) (s1 : Progress) (end : ℕ)
      → PositionalAt (env s image) left p w (world s x l w1 t s1) first end → number_at 2 s end ≡ got m named → NamedAt s named m w1 s1 w2 s2
      → (refused_of s1) ≡ 0 → (refused_of s2) ≡ 0 → base ≡ s1.back → old ≡ w.st.back → CalledAt (env s image) left at w (world s x l w2 t r) found c

-- what is answered where the positional arguments are known: their first value and their end, and the call's arguments are freed down to `old`
pub record AppliedAt (s : List ℕ) (at : ℕ) (w1 : List ℕ) (s1 : Progress) (first : CodeValue.Value) (end old : ℕ) (w2 : List ℕ) (r : Progress) (found : Bool) (c : CodeValue.Value) : Type 0 where
  pub called : (image : Lent) (left a p : ℕ) → span_at s at ≡ got a p → (w : World) (x l t : List ℕ) → PositionalAt (env s image) left p w (world s x l w1 t s1) first end → old ≡ w.st.back
      → CalledAt (env s image) left at w (world s x l w2 t r) found c
