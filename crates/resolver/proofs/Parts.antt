-- What the writers that call each other make of the parts that stand outside of them; and arguments whose values are not kept.
use Rattle.state.specs.Progress.{refused_of}
use Rattle.records.specs.Relations.Answer.{Num}
use Rattle.std.specs.Prelude.{Some, None}
use mathlib.Core.Path.{◌≡◌, ap, sym, subst, ◌∙◌}
use mathlib.Core.List.{List}
use mathlib.Core.Bool.{true, false}
use Prim.Native.Nat.{ℕ, suc, ◌+◌, ◌-◌, ◌<◌}
use native.Mathlib.Omega.{arith}
use Rattle.records.specs.Got.{got}
use Rattle.records.specs.Bytes.{byte_at, number_at}
use Rattle.records.proofs.Views.{both, inline_elim}
use Rattle.heads.specs.Tags.{text_tag}
use Rattle.heads.proofs.Heads.{no_text_tag}
use Rattle.state.specs.declared.Progress.{Progress}
use Rattle.state.specs.Setters.{aside_s}
use Rattle.std.specs.Prelude as rust
use Rattle.state.specs.declared.Referring.{Referring}
use Rattle.values.specs.declared.Value as CodeValue
use Rattle.resolver.specs.Relations.Meets.{Lent, World, world, Env, env}
use Rattle.resolver.specs.Relations.Leaves.{ReferenceIs}
use Rattle.resolver.specs.Relations.Members.{PositionalAt, TermAt, TextValueAt, ValueAt}
use Rattle.resolver.specs.Relations.Parts.{Lone, TermFlag, flagged, unflagged}
use Rattle.resolver.proofs.Calls.{InlinesAt, Taken, none_yet, one_is, taken_first, taken_later}

-- a variable holds no other expression; nor does what is no call and gives no text
pub lone_variable : {tag : ℕ} → tag ≡ 6 → Lone tag
lone_variable e = record { no_call = λ q. omega arith; no_message = λ q. omega arith; no_term = λ q. omega arith; no_nested = λ q. omega arith }

pub lone_other : (tag : ℕ) → (tag ≡ 3 → ⊥) → text_tag tag ≡ false → Lone tag
lone_other tag n3 h = let no = no_text_tag tag h in record { no_call = n3; no_message = no.0; no_term = no.1; no_nested = no.2 }

-- the Flag of a term reference's arguments, and where there is none
pub flag_is : {C : Type 0} {s : List ℕ} {at : ℕ} {r : Num} {flag p : ℕ} → TermFlag s at r → r ≡ Some (flag, p)
    → ((q : rust.Option Referring) (y : Referring) → ReferenceIs s (at + 1) q → q ≡ rust.Some y → byte_at s y.end ≡ got flag p → C) → C
flag_is {flag = flag} {p = p} (flagged f o q y e rd er hb) er' c =
    let h : ◌≡◌ {A = Num} (Some (f, o)) (Some (flag, p)) = sym e ∙ er' in
    let pair : ◌≡◌ {A = ℕ × ℕ} (f, o) (flag, p) = cc in
    let ef : f ≡ flag = ap (λ (x : ℕ × ℕ). x.0) pair in
    let eo : o ≡ p = ap (λ (x : ℕ × ℕ). x.1) pair in
    c q y rd er (hb ∙ ap (λ (j : ℕ). got j o) ef ∙ ap (λ (j : ℕ). got flag j) eo)
flag_is (unflagged e h) er' c = let z : ◌≡◌ {A = ℕ} 0 1 = cc in absurd (omega arith)

pub flag_none : {s : List ℕ} {at : ℕ} {r : Num} → TermFlag s at r → r ≡ None → (image : Lent) (left : ℕ) (w : World) → TermAt (env s image) left at w w
flag_none (flagged f o q y e rd er hb) er' = let z : ◌≡◌ {A = ℕ} 0 1 = cc in absurd (omega arith)
flag_none (unflagged e h) er' = h

-- nothing stands so deep
pub text_deep : (e : Env) (left at : ℕ) (x l w t : List ℕ) (st : Progress) {s1 : Progress} (c : CodeValue.Value) → s1 ≡ aside_s true st → left ≡ 0 → TextValueAt e left at (world e.store x l w t st) (world e.store x l w t s1) c
text_deep e left at x l w t st c es h = record {
  kept = record { begun = (let o = ap (λ (q : Progress). q.begun) es in omega arith); over = λ f. ap (λ (q : Progress). (refused_of q)) es };
  runs = λ u y f k. inline_elim e.store at left k (λ tag p hb z b. absurd (omega arith));
  holds = λ u y f k n t here L s m lv z. inline_elim e.store at left k (λ tag p hb z b. absurd (omega arith));
}

-- one argument more, and some first value
pub taken_next : {e : Env} {left n start : ℕ} {w : World} {i p : ℕ} {first : CodeValue.Value} {now u : World} {x : CodeValue.Value} (q : ℕ) → 0 < i → Taken e left n start w i p first now → ValueAt e left p now u x
    → (c : CodeValue.Value) × Taken e left n start w (i - 1) q c u
taken_next {x = x} q z (none_yet ei ep ew ef) h = (x, taken_first q z ei (none_yet ei ep ew ef) h)
taken_next {first = first} q z (one_is lt v k kp) h = (first, taken_later q z (λ ei. omega arith) (one_is lt v k kp) h)

module _ (e : Env) (left at : ℕ) where
  -- arguments that end nowhere: never
  pub positional_stop : {n start : ℕ} {w v : World} → number_at 2 e.store at ≡ got n start → ((end : ℕ) → InlinesAt e left n start w v end) → (c : CodeValue.Value) (q : ℕ) → PositionalAt e left at w v c q
  positional_stop {n} {start} hn g c q = record {
    kept = (g 0).kept;
    runs = λ u k b xs f hk hx m t here. both hn hk (λ ek eb. (g 0).runs u xs f (rw (ek, eb) hx) m t here);
    ends = λ k b xs f hk hx. both hn hk (λ ek eb. let o = (g (suc f)).ends xs f (rw (ek, eb) hx) in absurd (omega arith));
    first_is = λ u k b xs f hk hx m t here L s o lv z. both hn hk (λ ek eb. let y = (g (suc f)).ends xs f (rw (ek, eb) hx) in absurd (omega arith));
  }

  -- the same arguments, their first value and their end under other names
  pub positional_as : {w v : World} {first c : CodeValue.Value} {q end : ℕ} → c ≡ first → end ≡ q → PositionalAt e left at w v first q → PositionalAt e left at w v c end
  positional_as {w} {v} {first} {c} {q} {end} ec ee h = subst (λ (o : CodeValue.Value). PositionalAt e left at w v o end) (sym ec) (subst (λ (o : ℕ). PositionalAt e left at w v first o) (sym ee) h)
