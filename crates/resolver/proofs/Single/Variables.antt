-- Laws of variables: what is found among a term's arguments and among the formatting's.
use mathlib.Core.Path.{◌≡◌, refl, ap, sym, subst, ◌∙◌}
use mathlib.Core.List.{List, [], ◌∷◌, ◌++◌}
use mathlib.Core.Bool.{Bool, true, false}
use mathlib.Core.Option.{Option, none, some}
use Prim.Native.Nat.{ℕ, zero, suc, ◌-◌, ◌≤◌, ◌<◌}
use native.Mathlib.Omega.{arith}
use lib.ListN.{length, drop, length-take}
use borrow.Author.Tests.{lt-ltb, le-leb}
use Rattle.numbers.specs.Number.{default_options, in_range, or_zero, digits_limit, scale_limit}
use Rattle.numbers.specs.Value.{Value, textual, wrong, value_text}
use Rattle.decimals.specs.Relations.Shown.{shown_options}
use Rattle.decimals.specs.declared.types.Options as CodeOptions
use Rattle.records.specs.Got.{got}
use Rattle.records.specs.Bytes.{part}
use Rattle.decimals.specs.Bytes.{same_bytes}
use Rattle.records.specs.Tree.{Named}
use Rattle.records.specs.Decode.{many, named_at}
use Rattle.records.specs.Images.{Argument, argument_at, argument_value_at}
use Rattle.order.specs.Accepted.{accepted, judge}
use Rattle.order.proofs.Accepted.{accepted_read}
use Rattle.records.specs.Errors.{Referred, reference}
use Rattle.records.proofs.Views.{many_cons, many_nil}
use Rattle.records.specs.Names.{first_named}
use Rattle.arguments.specs.Relations.Given.{meant, Within, between}
use Rattle.arguments.specs.declared.Given.{Given}
use Rattle.arguments.specs.declared.Given.TheVariants as goal
use Rattle.arguments.proofs.Laws.{between_in}
use Rattle.arguments.proofs.Views.{argument_elim, argument_value_elim, argument_number_elim, arguments_image_elim}
use Rattle.records.specs.Optional.{or_else, option_of}
use Rattle.resolution.specs.Effect.{Bytes, report, Locals, State, Out, M, ret, ◌>>=◌, ◌>>◌, emit, write, get_locals}
use Rattle.resolution.specs.Resolve.{found_or, variable_in, get_variable, write_variable, or_wrong, braced}
use Rattle.resolution.specs.Format.{value_of, values_of}
use Rattle.resolution.specs.Exec.{Machine, Limits}
use Rattle.state.specs.declared.Progress.{Progress}
use Rattle.values.specs.declared.Value as CodeValue
use Rattle.values.specs.declared.Value.TheVariants as val
use Rattle.std.specs.Prelude as rust
use Rattle.resolver.specs.Relations.Meets.{World, world, Live, named_texts, NamedIn, LocalsAt, no_locals, some_locals, Ended, Runs, Kept, Acts, Holds, in_store, in_args, in_work, a_number, is_nothing, a_wrong, lent, env, Setup}
use Rattle.resolver.specs.Relations.Leaves.{LocalIs, is_there, is_missing, variable_of, MissingAt, VariableAt, VariableValueAt}
use Rattle.resolver.specs.Relations.Values.{value_of_some, Ranged}
use Rattle.resolver.proofs.Single.Laws.{kept_same, kept_then, ended_none, ended_then, runs_ret, runs_then}

-- what a name has, among arguments and among their values
values_or : (a b : Option Argument) → value_of_some (or_else a b) ≡ or_else (value_of_some a) (value_of_some b)
unfolding or_else value_of_some
values_or none b = refl
values_or (some v) b = refl

values_option : (t : Bool) (v : Argument) → value_of_some (option_of t v) ≡ option_of t (value_of v)
unfolding option_of value_of_some
values_option true v = refl
values_option false v = refl

pub first_values : (n : Bytes) (l : List (Bytes × Argument)) → value_of_some (first_named n l) ≡ first_named n (values_of l)
unfolding first_named values_of value_of_some
first_values n [] = refl
first_values n (a ∷ l) =
    let t : Bool = same_bytes a.0 n in
    values_or (option_of t a.1) (first_named n l)
    ∙ ap (λ (o : Option Value). or_else o (value_of_some (first_named n l))) (values_option t a.1)
    ∙ ap (or_else (option_of t (value_of a.1))) (first_values n l)

-- the numbers of an arguments image are in range
value_ranged : (s : List ℕ) (at : ℕ) {v : Argument} {e : ℕ} → argument_value_at s at ≡ got v e → Ranged (some v)
unfolding Ranged
value_ranged s at h = argument_value_elim s at h
    (λ p t hb ht w. subst (λ (y : Argument). Ranged (some y)) (sym w) tt)
    (λ p hb hn. argument_number_elim s p hn (λ f p d q k hf hd z hk y w. subst (λ (x : Argument). Ranged (some x)) (sym w) (z, y)))
    (λ hb w. subst (λ (y : Argument). Ranged (some y)) (sym w) tt)

or_ranged : (a b : Option Argument) → Ranged a → Ranged b → Ranged (or_else a b)
unfolding or_else
or_ranged none b h g = g
or_ranged (some v) b h g = h

option_ranged : (t : Bool) (v : Argument) → Ranged (some v) → Ranged (option_of t v)
unfolding option_of Ranged
option_ranged true v h = h
option_ranged false v h = tt

nothing_ranged : (n : Bytes) → Ranged (first_named n [])
unfolding first_named Ranged
nothing_ranged n = tt

from_ranged : (n : Bytes) (s : List ℕ) (c at : ℕ) (l : List (Bytes × Argument)) {f : ℕ} → many [] ◌∷◌ c argument_at s at ≡ got l f → Ranged (first_named n l)
unfolding first_named
from_ranged n s zero at l h = many_nil [] ◌∷◌ argument_at s zero at (omega arith) h (λ e _. subst (λ (y : List (Bytes × Argument)). Ranged (first_named n y)) (sym e) (nothing_ranged n))
from_ranged n s (suc c) at l {f} h = many_cons [] ◌∷◌ argument_at s (suc c) at (omega arith) h (λ a e t ha ht w.
    argument_elim s at ha (λ m p v hm hv wa.
    let r : Ranged (some a.1) = subst (λ (y : Bytes × Argument). Ranged (some y.1)) (sym wa) (value_ranged s p hv) in
    let m : suc c - 1 ≡ c = omega arith in
    subst (λ (y : List (Bytes × Argument)). Ranged (first_named n y)) (sym w)
    (or_ranged (option_of (same_bytes a.0 n) a.1) (first_named n t) (option_ranged (same_bytes a.0 n) a.1 r) (from_ranged n s c e t (subst (λ (j : ℕ). many [] ◌∷◌ j argument_at s e ≡ got t f) m ht)))))

pub first_ranged : (n s : List ℕ) {l : List (Bytes × Argument)} → judge s ≡ accepted l → Ranged (first_named n l)
first_ranged n s {l} h = arguments_image_elim s (accepted_read s l h).1 (λ k _ hm. from_ranged n s k 7 l hm)

-- an argument as a value
module _ (i s w : List ℕ) (low : ℕ) where
  pub argument_text : (a e : ℕ) → Within s (rust.Some (goal.Text a e)) → LocalIs i s w low (rust.Some (val.Args a e)) (value_of_some (meant s (rust.Some (goal.Text a e))))
  unfolding meant value_of_some value_of Within
  argument_text a e h = is_there _ _ refl refl (in_args a e refl h.0 h.1 (ap textual (between_in s a e h.0 h.1)))

  pub argument_number : (f : Bool) (d k : ℕ) {o : CodeOptions.Options} → o ≡ shown_options default_options → Ranged (meant s (rust.Some (goal.Number f d k)))
      → LocalIs i s w low (rust.Some (val.Number (record { negative = f; digits = d; scale = k; options = o }))) (value_of_some (meant s (rust.Some (goal.Number f d k))))
  unfolding meant value_of_some value_of Ranged in_range default_options or_zero
  argument_number f d k e h = is_there _ _ refl refl (a_number (record { negative = f; digits = d; scale = k; options = default_options }) (rw e) (ranged f d k h.0 h.1) refl)
    where
      ranged : (f : Bool) (d k : ℕ) → d < digits_limit → k ≤ scale_limit → in_range (record { negative = f; digits = d; scale = k; options = default_options }) ≡ true
      ranged f d k a b = rw (lt-ltb d digits_limit a, le-leb k scale_limit b)

  pub argument_nothing : LocalIs i s w low (rust.Some val.Nothing) (value_of_some (meant s (rust.Some goal.Nothing)))
  unfolding meant value_of_some value_of
  argument_nothing = is_there _ _ refl refl (is_nothing refl refl)

  pub argument_missing : LocalIs i s w low rust.None (value_of_some (meant s rust.None))
  unfolding meant value_of_some
  argument_missing = is_missing refl refl

-- what a variable is, by the state's record of a term's arguments
pub variable_outside : (args : List (Bytes × Value)) (i : Bytes) {w : World} {l : Locals} → LocalsAt w l → w.st.local ≡ false → variable_of args i l ≡ first_named i args
unfolding variable_of
variable_outside args i (no_locals _ e) h = rw e
variable_outside args i (some_locals _ _ _ t _ _ _ _) h = let z : ◌≡◌ {A = ℕ} 0 1 = cc in absurd (omega arith)

-- a variable that is there
get_found : (args : List (Bytes × Value)) (i : Bytes) (s : State) (l : Locals) (v : Value) → s.locals ≡ l → variable_of args i l ≡ some v → get_variable args i s ≡ record { trace = []; text = []; kept = 0; state = s; value = some v }
unfolding get_variable get_locals ◌>>=◌ ret variable_in found_or variable_of
get_found args i s none v e h = rw (e, h)
get_found args i s (some l) v e h = rw (e, h)

-- one that is missing: listed outside of terms
get_inside : (args : List (Bytes × Value)) (i : Bytes) (s : State) (l : List (Bytes × Value)) → s.locals ≡ some l → first_named i l ≡ none → get_variable args i s ≡ record { trace = []; text = []; kept = 0; state = s; value = none }
unfolding get_variable get_locals ◌>>=◌ ◌>>◌ ret variable_in found_or
get_inside args i s l e h = rw (e, h)

get_outside : (args : List (Bytes × Value)) (i : Bytes) (s : State) → s.locals ≡ none → first_named i args ≡ none → get_variable args i s ≡ (emit (report (reference Referred.variable i none)) >> ret none) s
unfolding get_variable get_locals ◌>>=◌ ◌>>◌ ret variable_in found_or emit
get_outside args i s e h = rw (e, h)

module _ (args : List (Bytes × Value)) (name : Bytes) {B : Type 0} (f : Option Value → M B) where
  -- the same under an equation
  then_as : {w u v : World} {L : Limits} (s : State) {k : Machine} (y : Out (Option Value)) → get_variable args name s ≡ y → Kept u v → Ended L w u y k → ((k' : Machine) → Live L u y.state k' → Ended L u v (f y.value y.state) k')
      → Ended L w v ((get_variable args name >>= f) s) k
  then_as {w} {u} {v} {L} s {k} y e kp h g =
      ended_then (get_variable args name) f L s k (subst (λ (q : Out (Option Value)). Ended L w u q k) (sym e) h) kp
      (λ k' l' mv. subst (λ (q : Out (Option Value)). Live L u q.state k' → Ended L u v (f q.value q.state) k') (sym e) (g k') l')

  pub run_found : {w v : World} {o : Value} → Kept w v → Runs (f (some o)) w v → (L : Limits) (s : State) (k : Machine) → Live L w s k → variable_of args name s.locals ≡ some o → Ended L w v ((get_variable args name >>= f) s) k
  run_found {w = w} {o = o} kp h L s k l e = then_as s _ (get_found args name s s.locals o refl e) kp (ended_none L w s k (some o) l) (λ k' l'. h L s k' l')

  pub value_found : {o : Value} (s : State) → variable_of args name s.locals ≡ some o → ((get_variable args name >>= f) s).value ≡ (f (some o) s).value
  unfolding ◌>>=◌
  value_found {o} s e = ap (λ (q : Out (Option Value)). (f q.value q.state).value) (get_found args name s s.locals o refl e)

  module _ (i x l w t : List ℕ) (st : Progress) {l' : List ℕ} {r : Progress} (ms : MissingAt l st name l' r) {v : World} (kp : Kept (world i x l' w t r) v) (small : length name ≤ 255) (h : Runs (f none) (world i x l' w t r) v) (L : Limits) (s : State) (k : Machine)
      (lv : Live L (world i x l w t st) s k) where
    missing_inside : (ns : List (Bytes × Value)) → s.locals ≡ some ns → st.local ≡ true → first_named name ns ≡ none → Ended L (world i x l w t st) v ((get_variable args name >>= f) s) k
    missing_inside ns e b n =
        let q = ms.inside b in
        let o : world i x l w t st ≡ world i x l' w t r = ap (λ (y : List ℕ). world i x y w t st) (sym q.1) ∙ ap (λ (y : Progress). world i x l' w t y) (sym q.0) in
        then_as s _ (get_inside args name s ns e n) kp (subst (λ (y : World). Ended {A = Option Value} L (world i x l w t st) y (record { trace = []; text = []; kept = 0; state = s; value = none }) k) o (ended_none L (world i x l w t st) s k none lv)) (λ k' l''. h L s k' l'')

    missing_outside : s.locals ≡ none → st.local ≡ false → first_named name args ≡ none → Ended L (world i x l w t st) v ((get_variable args name >>= f) s) k
    unfolding emit ◌>>◌ ◌>>=◌ ret
    missing_outside e b n = then_as s _ (get_outside args name s e n) kp
        (runs_then (ms.outside b small i x w t).runs (kept_same (world i x l' w t r)) (λ _. runs_ret none (world i x l' w t r)) L s k lv) (λ k' l''. h L s k' l'')

    missing_by : (o : Locals) → s.locals ≡ o → LocalsAt (world i x l w t st) o → variable_of args name o ≡ none → Ended L (world i x l w t st) v ((get_variable args name >>= f) s) k
    unfolding variable_of
    missing_by o eo (no_locals b n) e = missing_outside (eo ∙ n) b (sym (ap (variable_of args name) n) ∙ e)
    missing_by o eo (some_locals ns g low b m n _ _) e = missing_inside _ (eo ∙ n) b (sym (ap (variable_of args name) n) ∙ e)

    pub run_missing : variable_of args name s.locals ≡ none → Ended L (world i x l w t st) v ((get_variable args name >>= f) s) k
    run_missing e = missing_by s.locals refl lv.locals e

  value_by : (s : State) (o : Locals) → s.locals ≡ o → variable_of args name o ≡ none → ((get_variable args name >>= f) s).value ≡ (f none s).value
  unfolding ◌>>=◌ variable_of emit ◌>>◌ ret
  value_by s none eo e = ap (λ (q : Out (Option Value)). (f q.value q.state).value) (get_outside args name s eo e)
  value_by s (some ns) eo e = ap (λ (q : Out (Option Value)). (f q.value q.state).value) (get_inside args name s ns eo e)

  pub value_missing : (s : State) → variable_of args name s.locals ≡ none → ((get_variable args name >>= f) s).value ≡ (f none s).value
  value_missing s e = value_by s s.locals refl e

-- an answer of the search, by what it is
pub argument_as : (i s w : List ℕ) (low : ℕ) {found g : rust.Option Given} {r : rust.Option CodeValue.Value} → found ≡ g → (Within s g → Ranged (meant s g) → LocalIs i s w low r (value_of_some (meant s g))) → Within s found → Ranged (meant s found) → LocalIs i s w low r (value_of_some (meant s found))
argument_as i s w low {r = r} e h = subst (λ (y : rust.Option Given). Within s y → Ranged (meant s y) → LocalIs i s w low r (value_of_some (meant s y))) (sym e) h

-- a value that lies above a place lies above a lower one
holds_lower : {i a w : List ℕ} {low back : ℕ} {c : CodeValue.Value} {v : Value} → back ≤ low → Holds i a w low c v → Holds i a w back c v
holds_lower h (in_store b e p q r s) = in_store b e p q r s
holds_lower h (in_args b e p q r s) = in_args b e p q r s
holds_lower h (in_work b e p l q r s) = in_work b e p (omega arith) q r s
holds_lower h (a_number n p q r) = a_number n p q r
holds_lower h (is_nothing p q) = is_nothing p q
holds_lower h (a_wrong p q) = a_wrong p q

local_lower : {i a w : List ℕ} {low back : ℕ} {r : rust.Option CodeValue.Value} {o : Option Value} → back ≤ low → LocalIs i a w low r o → LocalIs i a w back r o
local_lower h (is_there c v p q k) = is_there c v p q (holds_lower h k)
local_lower h (is_missing p q) = is_missing p q

-- a variable among a term's arguments
pub variable_inside : (args : List (Bytes × Value)) (name i a : List ℕ) {w : World} {l : Locals} {r : rust.Option CodeValue.Value} → LocalsAt w l → w.st.local ≡ true
    → ((low f : ℕ) (ns : Named) → many [] ◌∷◌ w.st.local_count named_at w.store w.st.local_at ≡ got ns f → NamedIn w.work low w.st.local_base ns → LocalIs i a w.work low r (first_named name (named_texts ns)))
    → LocalIs i a w.work w.st.back r (variable_of args name l)
unfolding variable_of
variable_inside args name i a (no_locals b _) h k = let z : ◌≡◌ {A = ℕ} 0 1 = cc in absurd (omega arith)
variable_inside args name i a {w} {r = r} (some_locals ns f low b m e lo x) h k = subst (λ (o : Locals). LocalIs i a w.work w.st.back r (variable_of args name o)) (sym e) (local_lower lo (k low f ns m x))

-- a variable among the formatting's
pub variable_given : (name i a : List ℕ) (g : rust.Option Given) {goal : List (Bytes × Argument)} {w : World} {l : Locals} {r : rust.Option CodeValue.Value} → judge a ≡ accepted goal → LocalsAt w l → w.st.local ≡ false
    → Within a g → meant a g ≡ first_named name goal
    → ((low : ℕ) → Within a g → Ranged (meant a g) → LocalIs i a w.work low r (value_of_some (meant a g))) → LocalIs i a w.work w.st.back r (variable_of (values_of goal) name l)
variable_given name i a g {goal} {w = w} {l = l} {r = r} ha lc h wi e k =
    subst (λ (o : Option Value). LocalIs i a w.work w.st.back r o) (ap value_of_some e ∙ first_values name goal ∙ sym (variable_outside (values_of goal) name lc h))
    (k w.st.back wi (subst Ranged (sym e) (first_ranged name a ha)))

-- a missing variable
pub missing_silent : {l : List ℕ} {st : Progress} {name : Bytes} → st.local ≡ true → MissingAt l st name l st
missing_silent h = record { kept = λ i x w t. kept_same _; inside = λ _. (refl, refl); outside = λ b. let z : ◌≡◌ {A = ℕ} 0 1 = cc in absurd (omega arith) }

pub missing_listed : {l l' : List ℕ} {st r : Progress} {name : Bytes} → st.local ≡ false → ((i x w t : List ℕ) → Kept (world i x l w t st) (world i x l' w t r))
    → (length name ≤ 255 → (i x w t : List ℕ) → Acts (emit (report (reference Referred.variable name none))) (world i x l w t st) (world i x l' w t r)) → MissingAt l st name l' r
missing_listed h k a = record { kept = k; inside = λ b. (let z : ◌≡◌ {A = ℕ} 0 1 = cc in absurd (omega arith)); outside = λ _. a }

-- a part is no longer than it says
pub part_small : (s : List ℕ) (a n : ℕ) → n ≤ 255 → length (part s a n) ≤ 255
part_small s a n h = let q = length-take n (drop a s) in omega arith

-- a variable written
module _ (s args places : List ℕ) (a b : ℕ) (x l w t : List ℕ) (st : Progress) where
  module _ {r : rust.Option CodeValue.Value} (fd : (u : Setup (env s (lent args places))) (L : Limits) (q : State) (k : Machine) → Live L (world s x l w t st) q k → LocalIs s args w st.back r (variable_of (values_of u.given) (part s a (b - a)) q.locals)) where
    found_there : {C : Type 0} {c : CodeValue.Value} → r ≡ rust.Some c → {o : Option Value} → LocalIs s args w st.back r o → ((v : Value) → o ≡ some v → Holds s args w st.back c v → C) → C
    found_there {c = c} e (is_there c' v p q h) k = let y : c' ≡ c = same (sym p ∙ e) in k v q (subst (λ (z : CodeValue.Value). Holds s args w st.back z v) y h)
      where
        same : {m n : CodeValue.Value} → rust.Some m ≡ rust.Some n → m ≡ n
        same h = cc
    found_there e (is_missing p q) k = let z : ◌≡◌ {A = ℕ} 0 1 = cc in absurd (omega arith)

    found_none : r ≡ rust.None → {o : Option Value} → LocalIs s args w st.back r o → o ≡ none
    found_none e (is_there c' v p q h) = let z : ◌≡◌ {A = ℕ} 0 1 = cc in absurd (omega arith)
    found_none e (is_missing p q) = q

    write_found_part : {c : CodeValue.Value} {v : World} → r ≡ rust.Some c → Kept (world s x l w t st) v → ((y : Value) → Holds s args w st.back c y → Acts (write (value_text y)) (world s x l w t st) v) → VariableAt (env s (lent args places)) a b (world s x l w t st) v
    unfolding write_variable
    write_found_part e kp h = record {
      kept = kp;
      runs = λ u p q n z L m k lv. found_there e (fd u L m k lv) (λ y ey hy. run_found (values_of u.given) (part s a (b - a)) (λ o. write_variable (part s a (b - a)) o) kp (h y hy).runs L m k lv ey);
    }

    resolve_found_part : {c : CodeValue.Value} → r ≡ rust.Some c → VariableValueAt (env s (lent args places)) a b (world s x l w t st) (world s x l w t st) c
    unfolding or_wrong ret
    resolve_found_part {c} e = record {
      kept = kept_same _;
      runs = λ u p q n z L m k lv. found_there e (fd u L m k lv) (λ y ey hy. run_found (values_of u.given) (part s a (b - a)) (λ o. or_wrong o) (kept_same _) (runs_ret y _) L m k lv ey);
      holds = λ u p q n z L m k lv _. found_there e (fd u L m k lv) (λ y ey hy. subst (λ (o : Value). Holds s args w st.back c o) (sym (value_found (values_of u.given) (part s a (b - a)) (λ o. or_wrong o) m ey)) hy);
    }

    module _ {l' : List ℕ} {s₁ : Progress} (e : r ≡ rust.None) (ms : MissingAt l st (part s a (b - a)) l' s₁) where
      write_missing_part : {v : World} → Acts (write (123 ∷ 36 ∷ part s a (b - a) ++ (125 ∷ []))) (world s x l' w t s₁) v → VariableAt (env s (lent args places)) a b (world s x l w t st) v
      unfolding write_variable braced
      write_missing_part h = record {
        kept = kept_then (ms.kept s x w t) h.kept;
        runs = λ u p q n z L m k lv. run_missing (values_of u.given) (part s a (b - a)) (λ o. write_variable (part s a (b - a)) o) s x l w t st ms h.kept (part_small s a (b - a) n) h.runs L m k lv (found_none e (fd u L m k lv));
      }

      resolve_missing_part : VariableValueAt (env s (lent args places)) a b (world s x l w t st) (world s x l' w t s₁) val.Wrong
      unfolding or_wrong ret
      resolve_missing_part = record {
        kept = ms.kept s x w t;
        runs = λ u p q n z L m k lv. run_missing (values_of u.given) (part s a (b - a)) (λ o. or_wrong o) s x l w t st ms (kept_same _) (part_small s a (b - a) n) (runs_ret wrong _) L m k lv (found_none e (fd u L m k lv));
        holds = λ u p q n z L m k lv _. a_wrong refl (value_missing (values_of u.given) (part s a (b - a)) (λ o. or_wrong o) m (found_none e (fd u L m k lv)));
      }

  -- a variable whose name is a part of the store, if it is one
  module _ {n : Bytes} (en : n ≡ between s a b) {r : rust.Option CodeValue.Value} (fd : (u : Setup (env s (lent args places))) (L : Limits) (q : State) (k : Machine) → Live L (world s x l w t st) q k → LocalIs s args w st.back r (variable_of (values_of u.given) n q.locals)) where
    fd_at : a ≤ b → b ≤ length s → (u : Setup (env s (lent args places))) (L : Limits) (q : State) (k : Machine) → Live L (world s x l w t st) q k → LocalIs s args w st.back r (variable_of (values_of u.given) (part s a (b - a)) q.locals)
    fd_at p q u L j k lv = subst (λ (m : Bytes). LocalIs s args w st.back r (variable_of (values_of u.given) m j.locals)) (en ∙ between_in s a b p q) (fd u L j k lv)

    pub write_found : {c : CodeValue.Value} {v : World} → r ≡ rust.Some c → Kept (world s x l w t st) v → ((y : Value) → Holds s args w st.back c y → Acts (write (value_text y)) (world s x l w t st) v) → VariableAt (env s (lent args places)) a b (world s x l w t st) v
    write_found e kp h = record { kept = kp; runs = λ u p q. (write_found_part (fd_at p q) e kp h).runs u p q }

    pub resolve_found : {c : CodeValue.Value} → r ≡ rust.Some c → VariableValueAt (env s (lent args places)) a b (world s x l w t st) (world s x l w t st) c
    resolve_found e = record { kept = kept_same _; runs = λ u p q. (resolve_found_part (fd_at p q) e).runs u p q; holds = λ u p q. (resolve_found_part (fd_at p q) e).holds u p q }

    module _ {l' : List ℕ} {s₁ : Progress} (e : r ≡ rust.None) (ms : MissingAt l st n l' s₁) where
      ms_at : a ≤ b → b ≤ length s → MissingAt l st (part s a (b - a)) l' s₁
      ms_at p q = subst (λ (m : Bytes). MissingAt l st m l' s₁) (en ∙ between_in s a b p q) ms

      pub write_missing : {v : World} → Acts (write (123 ∷ 36 ∷ n ++ (125 ∷ []))) (world s x l' w t s₁) v → VariableAt (env s (lent args places)) a b (world s x l w t st) v
      write_missing {v} h = record {
        kept = kept_then (ms.kept s x w t) h.kept;
        runs = λ u p q. (write_missing_part (fd_at p q) e (ms_at p q) (subst (λ (m : Bytes). Acts (write (123 ∷ 36 ∷ m ++ (125 ∷ []))) (world s x l' w t s₁) v) (en ∙ between_in s a b p q) h)).runs u p q;
      }

      pub resolve_missing : VariableValueAt (env s (lent args places)) a b (world s x l w t st) (world s x l' w t s₁) val.Wrong
      resolve_missing = record {
        kept = ms.kept s x w t;
        runs = λ u p q. (resolve_missing_part (fd_at p q) e (ms_at p q)).runs u p q;
        holds = λ u p q. (resolve_missing_part (fd_at p q) e (ms_at p q)).holds u p q;
      }

-- a variable's value, under another name
pub local_as : {i a w : List ℕ} {low : ℕ} {r q : rust.Option CodeValue.Value} {o : Option Value} → r ≡ q → LocalIs i a w low q o → LocalIs i a w low r o
local_as {i} {a} {w} {low} {o = o} e h = subst (λ (x : rust.Option CodeValue.Value). LocalIs i a w low x o) (sym e) h
