-- The value of an inline expression: a literal, a variable, a call's result, or a text of its own.
use Rattle.state.specs.Progress.{refused_of}
use mathlib.Core.Path.{◌≡◌, refl, ap, sym, subst, ◌∙◌}
use mathlib.Core.List.{List}
use mathlib.Core.Bool.{Bool, true}
use mathlib.Core.Option.{Option, none, some}
use Prim.Native.Nat.{ℕ, ◌-◌, ◌≤◌}
use native.Mathlib.Omega.{arith}
use lib.ListN.{length, drop, length-drop}
use lib.Seq.{length-take-le}
use Rattle.numbers.specs.Number.{is_number, literal}
use Rattle.numbers.specs.Value.{Value, textual, numeric, wrong}
use Rattle.decimals.specs.Relations.Shown.{shown}
use Rattle.records.specs.Got.{got, bad}
use Rattle.records.specs.Bytes.{part, byte_at, str_at}
use Rattle.records.specs.Tree.{Inline, variable}
use Rattle.records.specs.Decode.{id_at, literal_number_at, inline}
use Rattle.records.proofs.Views.{both, never, id_str, string_str, number_str, ruled_elim, inline_elim}
use Rattle.buffers.specs.Relations.Append.{moved_back, Keeps}
use Rattle.buffers.proofs.Place.{moved_keeps}
use Rattle.resolution.specs.Effect.{Bytes, State, M, ret, ◌>>=◌, capture, release}
use Rattle.resolution.specs.Exec.{Machine, Limits}
use Rattle.resolution.specs.Resolve.{Trail, held, or_wrong, call_function, get_arguments, write_inline, resolve_inline}
use Rattle.state.specs.declared.Progress.{Progress}
use Rattle.values.specs.declared.Value as CodeValue
use Rattle.values.specs.declared.Value.TheVariants as val
use Rattle.resolver.specs.Relations.Meets.{World, world, Live, Ended, Runs, Kept, Holds, a_number as holds-number, a_wrong, Env, Setup, setting_of, find_of, cross_of}
use Rattle.resolver.specs.Relations.Leaves.{ResultIs, has_result, is_no_function, StringAt, VariableValueAt}
use Rattle.resolver.specs.Relations.Members.{Here, InlineAt, ValueAt, TextValueAt, CalledAt}
use Rattle.resolver.specs.Relations.Parts.{TextKept}
use Rattle.state.specs.Setters.{aside_s, kept_s}
use Rattle.resolver.proofs.Single.Laws.{kept_same, runs_ret, ended_then}
use Rattle.resolver.proofs.Single.Steps.{runs_as, runs_over}
use Rattle.resolver.proofs.Single.Capture.{opened, live_opened, ended_capture, holds_capture, capture_stopped, capture_lies, ended_held}
use Rattle.variants.proofs.Literals.{id_short}
use Rattle.literals.proofs.Ranged.{literal_ranged}
use Rattle.resolver.proofs.Bodies.{string_body, number_body, message_body, term_body, variable_body, nested_body, str_body, function_body, no_body}
use Rattle.resolver.proofs.Single.Values.{string_value_law}
use Rattle.heads.specs.Tags.{text_tag}
use Rattle.heads.proofs.Heads.{text_tag_law}

-- a value, or Error where there is none: nothing more is done
runs_or : (o : Option Value) (w : World) → Runs (or_wrong o) w w
unfolding or_wrong
runs_or none w = runs_ret wrong w
runs_or (some v) w = runs_ret v w

module _ (e : Env) (left at : ℕ) where
  pub value_over : (w : World) (c : CodeValue.Value) → ((refused_of w.st) ≡ 0 → ⊥) → ValueAt e left at w w c
  value_over w c h = record { kept = kept_same w; runs = λ u y f k n t here. runs_over _ w h; holds = λ u y f k n t here L s m lv z. absurd (h z) }

  pub value_deep : (w : World) (c : CodeValue.Value) → left ≡ 0 → ValueAt e left at w w c
  value_deep w c h = record {
    kept = kept_same w;
    runs = λ u y f k n t here. inline_elim e.store at left k (λ tag p hb z b. absurd (omega arith));
    holds = λ u y f k n t here L s m lv z. inline_elim e.store at left k (λ tag p hb z b. absurd (omega arith));
  }

  pub value_none : (w : World) (c : CodeValue.Value) → byte_at e.store at ≡ bad → ValueAt e left at w w c
  value_none w c h = record {
    kept = kept_same w;
    runs = λ u y f k n t here. inline_elim e.store at left k (λ tag p hb z b. never h hb);
    holds = λ u y f k n t here L s m lv z. inline_elim e.store at left k (λ tag p hb z b. never h hb);
  }

  module _ (tag p : ℕ) (hb : byte_at e.store at ≡ got tag p) where
    -- a message, a term, an inline placeable: a text of its own
    module _ {w v : World} {c : CodeValue.Value} (g : TextValueAt e left at w v c) where
      value_text_law : ((u : Setup e) (n : ℕ) (t : Trail) (y : Inline) (f : ℕ) → inline left e.store at ≡ got y f
          → resolve_inline (setting_of e u) (find_of e u) (cross_of e u n) t y ≡ held (capture (write_inline (setting_of e u) (find_of e u) (cross_of e u n) t y))) → ValueAt e left at w v c
      value_text_law is = record {
        kept = g.kept;
        runs = λ u y f k n t here. runs_as (is u n t y f k) (g.runs u y f k n t here);
        holds = λ u y f k n t here L s m lv z.
            subst (λ (q : M Value). Holds e.store e.given.args v.work v.st.back c (q s).value) (sym (is u n t y f k)) (g.holds u y f k n t here L s m lv z);
      }

      value_message : tag ≡ 4 → ValueAt e left at w v c
      unfolding resolve_inline
      value_message h = value_text_law (λ u n t y f k. message_body e.store at tag p hb left k h (λ i q a hn ha ey. rw ey))

      value_term : tag ≡ 5 → ValueAt e left at w v c
      unfolding resolve_inline
      value_term h = value_text_law (λ u n t y f k. term_body e.store at tag p hb left k h (λ i q a j r z hn ha hr ey. rw ey))

      value_nested : tag ≡ 7 → ValueAt e left at w v c
      unfolding resolve_inline
      value_nested h = value_text_law (λ u n t y f k. nested_body e.store at tag p hb left k h (λ x hx ey. rw ey))

      pub value_of_text : text_tag tag ≡ true → ValueAt e left at w v c
      value_of_text h = text_tag_law tag h value_message value_term value_nested

    -- no Str stands past the tag: never
    pub value_worse : (w : World) (c : CodeValue.Value) → (tag ≡ 4 → ⊥) → (tag ≡ 5 → ⊥) → (tag ≡ 7 → ⊥) → str_at e.store p ≡ bad → ValueAt e left at w w c
    value_worse w c n4 n5 n7 h = record {
      kept = kept_same w;
      runs = λ u y f k n t here. str_body e.store at tag p hb left k n4 n5 n7 h;
      holds = λ u y f k n t here L s m lv z. str_body e.store at tag p hb left k n4 n5 n7 h;
    }

    module _ {a f : ℕ} (hs : str_at e.store p ≡ got (part e.store a (f - a)) f) (le : a ≤ f) (ln : f ≤ length e.store) where
      abbrev str : Bytes
      str = part e.store a (f - a)

      same : {C : Type 0} {t : Bytes} {g : ℕ} → str_at e.store p ≡ got t g → (t ≡ str → C) → C
      same h c = both hs h (λ et _. c (sym et))

      -- a string literal
      pub value_string : {w w' : List ℕ} {st r : Progress} {c : CodeValue.Value} (x l t : List ℕ) → tag ≡ 1 → StringAt e.store a f w st w' r c
          → ValueAt e left at (world e.store x l w t st) (world e.store x l w' t r) c
      unfolding resolve_inline
      value_string {w} {w'} {st} {r} {c} x l t h g = record {
        kept = g.kept x l t;
        runs = λ u y j k n tr here. string_body e.store at tag p hb left k h (λ b q ey. same (string_str e.store p q) (λ eb.
            runs_as (ap (resolve_inline (setting_of e u) (find_of e u) (cross_of e u n) tr) (ey ∙ ap Inline.string eb)) (g.runs le ln x l t)));
        holds = λ u y j k n tr here L s m lv z. string_body e.store at tag p hb left k h (λ b q ey. same (string_str e.store p q) (λ eb.
            subst (λ (o : Value). Holds e.store e.given.args w' r.back c o)
            (sym (ap (λ (o : Inline). (resolve_inline (setting_of e u) (find_of e u) (cross_of e u n) tr o s).value) (ey ∙ ap Inline.string eb) ∙ string_value_law str s))
            (g.holds le ln e.given.args x l t L s m lv z)));
      }

      -- a number literal
      pub value_number : {c : CodeValue.Value} (w : World) → tag ≡ 2 → (a ≤ f → f ≤ length e.store → is_number str ≡ true → c ≡ val.Number (shown (literal str))) → ValueAt e left at w w c
      unfolding resolve_inline literal_number_at ret
      value_number {c} w h g = record {
        kept = kept_same w;
        runs = λ u y j k n tr here. number_body e.store at tag p hb left k h (λ b q ey. same (number_str e.store p q) (λ eb.
            runs_as (ap (resolve_inline (setting_of e u) (find_of e u) (cross_of e u n) tr) (ey ∙ ap Inline.number eb)) (runs_ret (numeric (literal str)) w)));
        holds = λ u y j k n tr here L s m lv z. number_body e.store at tag p hb left k h (λ b q ey. same (number_str e.store p q) (λ eb.
            ruled_elim _ e.store p q (λ _ _ _ ok.
            let nb : is_number str ≡ true = ap is_number (sym eb) ∙ ok in
            holds-number (literal str) (g le ln nb) (literal_ranged str nb) (ap (λ (o : Inline). (resolve_inline (setting_of e u) (find_of e u) (cross_of e u n) tr o s).value) (ey ∙ ap Inline.number eb)))));
      }

      -- a variable
      pub value_variable : {w v : World} {c : CodeValue.Value} → tag ≡ 6 → VariableValueAt e a f w v c → ValueAt e left at w v c
      unfolding resolve_inline
      value_variable {w} {v} {c} h g = record {
        kept = g.kept;
        runs = λ u y j k n tr here. variable_body e.store at tag p hb left k h (λ i q ey. same (id_str e.store p q) (λ ei.
            runs_as (ap (resolve_inline (setting_of e u) (find_of e u) (cross_of e u n) tr) (ey ∙ ap variable ei)) (g.runs u le ln (short q ei) here.same)));
        holds = λ u y j k n tr here L s m lv z. variable_body e.store at tag p hb left k h (λ i q ey. same (id_str e.store p q) (λ ei.
            subst (λ (o : Inline). Holds e.store e.given.args v.work v.st.back c (resolve_inline (setting_of e u) (find_of e u) (cross_of e u n) tr o s).value) (sym (ey ∙ ap variable ei))
            (g.holds u le ln (short q ei) here.same L s m lv z)));
      }
        where
          short : {i : Bytes} {j : ℕ} → id_at e.store p ≡ got i j → i ≡ str → f - a ≤ 255
          short q ei =
              let n : length str ≡ f - a = length-take-le (f - a) (drop a e.store) (let d = length-drop a e.store in omega arith) in
              let m = id_short e.store p q in
              let o = ap length ei in
              omega arith

    -- a call
    pub value_function : {w v : World} {found : Bool} {c : CodeValue.Value} → (tag ≡ 1 → ⊥) → (tag ≡ 2 → ⊥) → (tag ≡ 4 → ⊥) → (tag ≡ 5 → ⊥) → (tag ≡ 6 → ⊥) → (tag ≡ 7 → ⊥)
        → CalledAt e (left - 1) p w v found c → ValueAt e left at w v c
    unfolding resolve_inline or_wrong ret ◌>>=◌
    value_function {w} {v} {found} {c} n1 n2 n4 n5 n6 n7 g = record {
      kept = g.kept;
      runs = λ u y f k n t here. function_body e.store at tag p hb left k n4 n5 n7 n1 n2 n6 (λ i q xs ns hn ha ey.
          runs_as (ap (resolve_inline (setting_of e u) (find_of e u) (cross_of e u n) t) ey) (λ L s m lv.
          let a : M (Option Value) = release (get_arguments (setting_of e u) (find_of e u) (cross_of e u n) t xs ns >>= λ o. call_function (find_of e u) i o) in
          ended_then a (λ o. or_wrong o) L s m (g.runs u i q xs ns f hn ha n t here L s m lv) (kept_same v) (λ m' lv' mv. runs_or (a s).value v L (a s).state m' lv')));
      holds = λ u y f k n t here L s m lv z. function_body e.store at tag p hb left k n4 n5 n7 n1 n2 n6 (λ i q xs ns hn ha ey.
          let a : M (Option Value) = release (get_arguments (setting_of e u) (find_of e u) (cross_of e u n) t xs ns >>= λ o. call_function (find_of e u) i o) in
          subst (λ (o : Inline). Holds e.store e.given.args v.work v.st.back c (resolve_inline (setting_of e u) (find_of e u) (cross_of e u n) t o s).value) (sym ey)
          (or_value (a s).value (a s).state (g.result u i q xs ns f hn ha n t here L s m lv z)));
    }
      where
        or_value : (o : Option Value) (s : State) → ResultIs e.store e.given.args v.work v.st.back found c o → Holds e.store e.given.args v.work v.st.back c (or_wrong o s).value
        or_value none s (has_result x ef eo h) = let z : ◌≡◌ {A = ℕ} 0 1 = cc in absurd (omega arith)
        or_value none s (is_no_function ef ec eo) = a_wrong ec refl
        or_value (some o) s (has_result x ef eo h) = let ex : x ≡ o = cc in rw (← ex) h
        or_value (some o) s (is_no_function ef ec eo) = let z : ◌≡◌ {A = ℕ} 0 1 = cc in absurd (omega arith)

-- a text of its own
module _ (e : Env) (left at : ℕ) (x l w t : List ℕ) (st : Progress) {s1 : Progress} (es : s1 ≡ aside_s true st) (u : World) (g : InlineAt e left at (world e.store x l w t s1) u) where
  abbrev before : World
  before = world e.store x l w t st

  aside : InlineAt e left at (world e.store x l w t (aside_s true st)) u
  aside = subst (λ (q : Progress). InlineAt e left at (world e.store x l w t q) u) es g

  kept_all : Kept before u
  kept_all = record { begun = aside.kept.begun; over = aside.kept.over }

  ran_it : (p : Setup e) (y : Inline) (f : ℕ) → inline left e.store at ≡ got y f → (n : ℕ) (tr : Trail) → Here e before 0 n tr → (L : Limits) (s : State) (k : Machine) → Live L before s k
      → Ended L (world e.store x l w t (aside_s true st)) u (write_inline (setting_of e p) (find_of e p) (cross_of e p n) tr y s) (opened e.store x l w t st u k)
  ran_it p y f h n tr here L s k lv =
      aside.runs p y f h n tr (record { on = here.on; fuel = here.fuel; room = here.room; same = here.same }) L s (opened e.store x l w t st u k) (live_opened e.store x l w t st u lv)

  pub text_stopped : (c : CodeValue.Value) → ((refused_of u.st) ≡ 0 → ⊥) → TextValueAt e left at before u c
  text_stopped c f = record {
    kept = kept_all;
    runs = λ p y j h n tr here L s k lv.
        let m = write_inline (setting_of e p) (find_of e p) (cross_of e p n) tr y in
        ended_held (capture m) L s k (capture_stopped e.store x l w t st u m L s k f (ran_it p y j h n tr here L s k lv));
    holds = λ p y j h n tr here L s k lv r. absurd (f r);
  }

  -- a text that does not lie as it should: never
  pub text_never : (c : CodeValue.Value) → (refused_of u.st) ≡ 0 → (st.front ≤ u.st.front → u.st.front ≤ u.st.back → u.st.back ≤ length u.work → ⊥) → TextValueAt e left at before u c
  text_never c r f = record {
    kept = kept_all;
    runs = λ p y j h n tr here L s k lv.
        let q = capture_lies e.store x l w t st u (write_inline (setting_of e p) (find_of e p) (cross_of e p n) tr y) L s k r lv (ran_it p y j h n tr here L s k lv) in absurd (f q.0 q.1 q.2);
    holds = λ p y j h n tr here L s k lv _.
        let q = capture_lies e.store x l w t st u (write_inline (setting_of e p) (find_of e p) (cross_of e p n) tr y) L s k r lv (ran_it p y j h n tr here L s k lv) in absurd (f q.0 q.1 q.2);
  }

  pub text_made : (w3 : List ℕ) (n to : ℕ) {s3 : Progress} → (refused_of u.st) ≡ 0 → st.front ≤ u.st.front → u.st.front ≤ u.st.back → u.st.back ≤ length u.work
      → n ≡ u.st.front - st.front → to ≡ u.st.back - n → w3 ≡ moved_back u.work st.front n to → s3 ≡ kept_s st.front to st.aside u.st
      → TextValueAt e left at before (world u.store u.text u.list w3 u.trail s3) (val.Work to u.st.back)
  unfolding held capture ret ◌>>=◌
  text_made w3 n to {s3} r le₁ le₂ le₃ en et ew e3 =
      let kp : Keeps u.work st.front to n w3 = subst (λ (q : List ℕ). Keeps u.work st.front to n q) (sym ew) (moved_keeps u.work st.front n to (omega arith) (omega arith)) in
      record {
        kept = record { begun = (let a = aside.kept.begun in let b = ap (λ (q : Progress). q.begun) e3 in omega arith); over = λ f. ap (λ (q : Progress). (refused_of q)) e3 ∙ aside.kept.over f };
        runs = λ p y j h n' tr here L s k lv.
            let m = write_inline (setting_of e p) (find_of e p) (cross_of e p n') tr y in
            subst (λ (q : Progress). Ended L before (world u.store u.text u.list w3 u.trail q) (held (capture m) s) k) (sym e3)
            (ended_held (capture m) L s k (ended_capture e.store x l w t st u w3 n to en et kp m L s k r lv (ran_it p y j h n' tr here L s k lv)));
        holds = λ p y j h n' tr here L s k lv z.
            let m = write_inline (setting_of e p) (find_of e p) (cross_of e p n') tr y in
            subst (λ (q : Progress). Holds e.store e.given.args w3 q.back (val.Work to u.st.back) (textual (m s).text)) (sym e3)
            (holds_capture e.store x l w t st u w3 n to en et kp e.store e.given.args m L s k r lv (ran_it p y j h n' tr here L s k lv));
      }

-- what is left to do once a text of its own was written
module _ (start : ℕ) (was : Bool) (w : List ℕ) (st : Progress) where
  -- it was refused
  pub kept_stopped : (c : CodeValue.Value) → ((refused_of st) ≡ 0 → ⊥) → TextKept start was w st w st c
  kept_stopped c f = record { kept = λ e left at x l w₀ t s₀ es i x₁ l₁ t₁ g ef ea. text_stopped e left at x l w₀ t s₀ es _ g c f }

  -- it does not lie as it should: never
  pub kept_never : (c : CodeValue.Value) → (refused_of st) ≡ 0 → (start ≤ st.front → st.front ≤ st.back → st.back ≤ length w → ⊥) → TextKept start was w st w st c
  kept_never c r f = record { kept = λ e left at x l w₀ t s₀ es i x₁ l₁ t₁ g ef ea. text_never e left at x l w₀ t s₀ es _ g c r (λ p. f (subst (λ (j : ℕ). j ≤ st.front) (sym ef) p)) }

  -- it was moved to the back, and is the value
  pub kept_made : {w' : List ℕ} (n to : ℕ) {r : Progress} {c : CodeValue.Value} → (refused_of st) ≡ 0 → start ≤ st.front → st.front ≤ st.back → st.back ≤ length w
      → n ≡ st.front - start → to ≡ st.back - n → w' ≡ moved_back w start n to → r ≡ kept_s start to was st → c ≡ val.Work to st.back → TextKept start was w st w' r c
  kept_made {w'} n to {r} {c} z le₁ le₂ le₃ en et ew er ec = record {
    kept = λ e left at x l w₀ t s₀ es i x₁ l₁ t₁ g ef ea.
        subst (λ (q : CodeValue.Value). TextValueAt e left at (world e.store x l w₀ t s₀) (world i x₁ l₁ w' t₁ r) q) (sym ec)
        (text_made e left at x l w₀ t s₀ es _ g w' n to z (omega arith) le₂ le₃ (omega arith) et
        (ew ∙ ap (λ (j : ℕ). moved_back w j n to) ef) (er ∙ ap (λ (j : ℕ). kept_s j to was st) ef ∙ ap (λ (b : Bool). kept_s s₀.front to b st) ea));
  }

-- the same value, under another name
pub value_as : {e : Env} {left at : ℕ} {w v : World} {c d : CodeValue.Value} → c ≡ d → ValueAt e left at w v d → ValueAt e left at w v c
value_as {e} {left} {at} {w} {v} h g = subst (λ (q : CodeValue.Value). ValueAt e left at w v q) (sym h) g

module _ (e : Env) (left at tag p : ℕ) (hb : byte_at e.store at ≡ got tag p) where
  -- no inline expression has another tag: never
  pub value_other : (w : World) (c : CodeValue.Value) → (tag ≡ 4 → ⊥) → (tag ≡ 5 → ⊥) → (tag ≡ 7 → ⊥) → (tag ≡ 1 → ⊥) → (tag ≡ 2 → ⊥) → (tag ≡ 3 → ⊥) → (tag ≡ 6 → ⊥) → ValueAt e left at w w c
  value_other w c n4 n5 n7 n1 n2 n3 n6 = record {
    kept = kept_same w;
    runs = λ u y f k n t here. no_body e.store at tag p hb left k n4 n5 n7 n1 n2 n3 n6;
    holds = λ u y f k n t here L s m lv z. no_body e.store at tag p hb left k n4 n5 n7 n1 n2 n3 n6;
  }
