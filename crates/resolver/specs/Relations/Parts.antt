-- What the parts of a writer ensure that stand outside of the writers that call each other: what the writer then ensures, for whatever came before.
use Rattle.records.specs.Relations.Answer.{Num}
use Rattle.std.specs.Prelude.{Some, None}
use Rattle.std.specs.Prelude.{◌≡◌, List, Bool, true, ℕ, ◌+◌, ◌-◌}
use Rattle.records.specs.Got.{got}
use Rattle.records.specs.Bytes.{byte_at}
use Rattle.state.specs.declared.Progress.{Progress}
use Rattle.state.specs.Setters.{aside_s}
use Rattle.values.specs.declared.Value as CodeValue
use Rattle.std.specs.Prelude as rust
use Rattle.state.specs.declared.Referring.{Referring}
use Rattle.resolver.specs.Relations.Meets.{Lent, World, world, Env, env}
use Rattle.resolver.specs.Relations.Leaves.{ReferenceIs}
use Rattle.resolver.specs.Relations.Members.{InlineAt, ValueAt, TextValueAt, CalledAt, TermAt}

-- a tag that is none of a call, a message, a term and an inline placeable
pub record Lone (tag : ℕ) : Type 0 where
  pub no_call : tag ≡ 3 → ⊥
  pub no_message : tag ≡ 4 → ⊥
  pub no_term : tag ≡ 5 → ⊥
  pub no_nested : tag ≡ 7 → ⊥

-- what holds no other expression, past its tag, written, and resolved
abbrev pub LeafWritten : Env → ℕ → ℕ → World → World → Type 0
LeafWritten e tag p w v = (left at : ℕ) → byte_at e.store at ≡ got tag p → Lone tag → InlineAt e left at w v

abbrev pub LeafResolved : Env → ℕ → ℕ → World → World → CodeValue.Value → Type 0
LeafResolved e tag p w v c = (left at : ℕ) → byte_at e.store at ≡ got tag p → Lone tag → ValueAt e left at w v c

-- the result of a call, its Id at p, written: where the call led from w₀ to w
abbrev pub CallWritten : Env → ℕ → Bool → CodeValue.Value → World → World → Type 0
CallWritten e p found c w v = (left at tag : ℕ) (w₀ : World) → byte_at e.store at ≡ got tag p → tag ≡ 3 → CalledAt e (left - 1) p w₀ w found c → InlineAt e left at w₀ v

-- a text of its own, once it is made: where an inline expression was written aside, its value
pub record TextKept (start : ℕ) (was : Bool) (w : List ℕ) (st : Progress) (w' : List ℕ) (r : Progress) (c : CodeValue.Value) : Type 0 where
  pub kept : (e : Env) (left at : ℕ) (x l w₀ t : List ℕ) (s₀ : Progress) {s₁ : Progress} → s₁ ≡ aside_s true s₀ → (i x₁ l₁ t₁ : List ℕ) → InlineAt e left at (world e.store x l w₀ t s₁) (world i x₁ l₁ w t₁ st)
      → start ≡ s₀.front → was ≡ s₀.aside → TextValueAt e left at (world e.store x l w₀ t s₀) (world i x₁ l₁ w' t₁ r) c

-- the Flag of a term reference's arguments, its tag at `at`, and the position past it
pub data TermFlag (s : List ℕ) (at : ℕ) (r : Num) : Type 0 where
  flagged : (flag p : ℕ) (q : rust.Option Referring) (y : Referring) → r ≡ Some (flag, p) → ReferenceIs s (at + 1) q → q ≡ rust.Some y → byte_at s y.end ≡ got flag p → TermFlag s at r
  unflagged : r ≡ None → ((image : Lent) (left : ℕ) (w : World) → TermAt (env s image) left at w w) → TermFlag s at r
