-- An inline expression, written: one step for each tag.
use Rattle.state.specs.Progress.{refused_of}
use Rattle.records.specs.Relations.Answer.{Num}
use Rattle.std.specs.Prelude.{Some}
use mathlib.Core.Path.{◌≡◌, refl, ap, sym, subst, ◌∙◌}
use mathlib.Core.List.{List}
use mathlib.Core.Bool.{Bool, true}
use Prim.Native.Nat.{ℕ, suc, ◌-◌, ◌≤◌}
use native.Mathlib.Omega.{arith}
use lib.ListN.{length, drop, length-drop}
use lib.Seq.{length-take-le}
use Rattle.numbers.specs.Number.{is_number, literal}
use Rattle.numbers.specs.Value.{Value, numeric, value_text}
use Rattle.decimals.specs.Relations.Shown.{shown}
use Rattle.unescape.specs.Unescape.{unescape}
use Rattle.records.specs.Got.{got, bad}
use Rattle.records.specs.Relations.Answer.{num_of}
use Rattle.records.specs.Bytes.{part, byte_at, span_at, str_at}
use Rattle.records.specs.Tree.{Inline, variable, term}
use Rattle.records.specs.Decode.{id_at, literal_number_at, inline}
use Rattle.records.proofs.Laws.{str_in}
use Rattle.records.proofs.Views.{both, never, str_is, ruled_elim, id_str, string_str, number_str, inline_elim}
use Rattle.resolution.specs.Effect.{Bytes, ◌>>=◌, write, release}
use Rattle.resolution.specs.Resolve.{Trail, call_function, write_result, write_inline, get_arguments}
use Rattle.values.specs.declared.Value as CodeValue
use Rattle.values.specs.declared.Value.TheVariants as val
use Rattle.resolver.specs.Relations.Meets.{World, Runs, Kept, Acts, Holds, a_number, Env, Setup, setting_of, find_of, cross_of}
use Rattle.resolver.specs.Relations.Leaves.{ResultAt, VariableAt}
use Rattle.resolver.specs.Relations.Members.{ExpressionAt, InlineAt, MessageAt, TermAt, CalledAt}
use Rattle.resolver.proofs.Single.Laws.{kept_same, kept_then, ended_then}
use Rattle.resolver.proofs.Single.Steps.{runs_over}
use Rattle.variants.proofs.Literals.{id_short}
use Rattle.literals.proofs.Ranged.{literal_ranged}
use Rattle.resolver.proofs.Bodies.{string_body, number_body, message_body, term_body, variable_body, nested_body, str_body, function_body, no_body}

-- the length of a part that lies in a list
part_length : (s : List ℕ) (a b : ℕ) → a ≤ b → b ≤ length s → length (part s a (b - a)) ≡ b - a
part_length s a b h k = length-take-le (b - a) (drop a s) (let q = length-drop a s in omega arith)

-- what a number literal's rule says
number_rule : (s : List ℕ) (at : ℕ) {t : List ℕ} {e : ℕ} → literal_number_at s at ≡ got t e → is_number t ≡ true
unfolding literal_number_at
number_rule s at {t} h = ruled_elim is_number s at h (λ p hs et ok. ok)

module _ (e : Env) (left at : ℕ) where
  abbrev Writes : Setup e → ℕ → Trail → World → World → Inline → Type 0
  Writes u n t w v y = Runs (write_inline (setting_of e u) (find_of e u) (cross_of e u n) t y) w v

  -- the same expression, under another name
  is_it : (u : Setup e) (n : ℕ) (t : Trail) {w v : World} {y x : Inline} → y ≡ x → Writes u n t w v x → Writes u n t w v y
  is_it u n t {w} {v} ey h = subst (λ (j : Inline). Writes u n t w v j) (sym ey) h

  pub inline_over : (w : World) → ((refused_of w.st) ≡ 0 → ⊥) → InlineAt e left at w w
  inline_over w h = record { kept = kept_same w; runs = λ u y f k n t here. runs_over _ w h }

  pub inline_deep : (w : World) → left ≡ 0 → InlineAt e left at w w
  inline_deep w h = record { kept = kept_same w; runs = λ u y f k. inline_elim e.store at left k (λ tag p hb z b. absurd (omega arith)) }

  pub inline_none : (w : World) → byte_at e.store at ≡ bad → InlineAt e left at w w
  inline_none w h = record { kept = kept_same w; runs = λ u y f k. inline_elim e.store at left k (λ tag p hb z b. never h hb) }

  module _ (tag p : ℕ) (hb : byte_at e.store at ≡ got tag p) where
    pub inline_nested : {w v : World} → tag ≡ 7 → ExpressionAt e (left - 1) p w v → InlineAt e left at w v
    unfolding write_inline
    inline_nested h g = record {
      kept = g.kept;
      runs = λ u y f k n t here. nested_body e.store at tag p hb left k h (λ x hx ey. is_it u n t ey (g.runs u x f hx n t here));
    }

    pub inline_message : {w v : World} → tag ≡ 4 → MessageAt e at w v → InlineAt e left at w v
    unfolding write_inline
    inline_message h g = record {
      kept = g.kept;
      runs = λ u y f k n t here. message_body e.store at tag p hb left k h (λ i q a hn ha ey.
          is_it u n t ey (g.runs u left i a f (k ∙ ap (λ (j : Inline). got j f) ey) n t here));
    }

    pub inline_term : {w v : World} → tag ≡ 5 → TermAt e (left - 1) at w v → InlineAt e left at w v
    unfolding write_inline
    inline_term h g = record {
      kept = g.kept;
      runs = λ u y f k n t here. term_body e.store at tag p hb left k h (λ i q a o r z hn ha hr ey.
          let el : left ≡ suc (left - 1) = omega arith in
          let k' : inline (suc (left - 1)) e.store at ≡ got (term i a r) f = subst (λ (d : ℕ). inline d e.store at ≡ got (term i a r) f) el (k ∙ ap (λ (j : Inline). got j f) ey) in
          is_it u n t ey (g.runs u i a r f k' n t here));
    }

    pub inline_worse : (w : World) → (tag ≡ 7 → ⊥) → (tag ≡ 4 → ⊥) → (tag ≡ 5 → ⊥) → str_at e.store p ≡ bad → InlineAt e left at w w
    inline_worse w n7 n4 n5 h = record { kept = kept_same w; runs = λ u y f k. str_body e.store at tag p hb left k n4 n5 n7 h }

    module _ {a b : ℕ} {r : Num} (is : r ≡ num_of (span_at e.store p)) (ha : r ≡ Some (a, b)) where
      abbrev name : Bytes
      name = part e.store a (b - a)

      same_str : {C : Type 0} {t : Bytes} {f : ℕ} → str_at e.store p ≡ got t f → (t ≡ name → f ≡ b → C) → C
      same_str h c = both h (str_is e.store p is ha) c

      inside : (a ≤ b) × (b ≤ length e.store)
      inside = str_in e.store p is ha

      short : {C : Type 0} {t : Bytes} {f : ℕ} → id_at e.store p ≡ got t f → (t ≡ name → f ≡ b → b - a ≤ 255 → C) → C
      short h c = same_str (id_str e.store p h) (λ et ef.
          c et ef (let q = id_short e.store p h in let o = ap length et in let l = part_length e.store a b inside.0 inside.1 in omega arith))

      pub inline_string : {w v : World} → tag ≡ 1 → Acts (write (unescape name)) w v → InlineAt e left at w v
      unfolding write_inline
      inline_string h g = record {
        kept = g.kept;
        runs = λ u y f k n t here. string_body e.store at tag p hb left k h (λ s hs ey. same_str (string_str e.store p hs) (λ es _. is_it u n t (ey ∙ ap Inline.string es) g.runs));
      }

      -- by what the literal's value is, and what is written of a value
      pub inline_number : {c : CodeValue.Value} {w v : World} → tag ≡ 2
          → (a ≤ b → b ≤ length e.store → is_number name ≡ true → c ≡ val.Number (shown (literal name)))
          → Kept w v → ((x : Value) → Holds e.store e.given.args w.work w.st.back c x → Acts (write (value_text x)) w v) → InlineAt e left at w v
      unfolding write_inline
      inline_number h c kp g = record {
        kept = kp;
        runs = λ u y f k n t here. number_body e.store at tag p hb left k h (λ s hs ey. same_str (number_str e.store p hs) (λ es _.
            let ok : is_number name ≡ true = ap is_number (sym es) ∙ number_rule e.store p hs in
            is_it u n t (ey ∙ ap Inline.number es)
            (g (numeric (literal name)) (a_number (literal name) (c inside.0 inside.1 ok) (literal_ranged name ok) refl)).runs));
      }

      pub inline_variable : {w v : World} → tag ≡ 6 → VariableAt e a b w v → InlineAt e left at w v
      unfolding write_inline
      inline_variable h g = record {
        kept = g.kept;
        runs = λ u y f k n t here. variable_body e.store at tag p hb left k h (λ s hs ey. short hs (λ es _ few.
            is_it u n t (ey ∙ ap variable es) (g.runs u inside.0 inside.1 few here.same)));
      }

      pub inline_function : {found : Bool} {c : CodeValue.Value} {w u1 v : World} → (tag ≡ 7 → ⊥) → (tag ≡ 4 → ⊥) → (tag ≡ 5 → ⊥) → (tag ≡ 1 → ⊥) → (tag ≡ 2 → ⊥) → (tag ≡ 6 → ⊥)
          → CalledAt e (left - 1) p w u1 found c → ResultAt e a b found c u1 v → InlineAt e left at w v
      unfolding write_inline
      inline_function {u1 = u1} {v = v} n7 n4 n5 n1 n2 n6 g r = record {
        kept = kept_then g.kept r.kept;
        runs = λ u y f k n t here. function_body e.store at tag p hb left k n4 n5 n7 n1 n2 n6 (λ i q xs ns hn hx ey. short hn (λ ei _ few.
            let m = release (get_arguments (setting_of e u) (find_of e u) (cross_of e u n) t xs ns >>= λ o. call_function (find_of e u) i o) in
            is_it u n t ey (λ L s k₀ lv.
            ended_then m (λ o. write_result i o) L s k₀ (g.runs u i q xs ns f hn hx n t here L s k₀ lv) r.kept (λ k' l' mv.
            let x = g.result u i q xs ns f hn hx n t here L s k₀ lv l'.go in
            subst (λ (j : Bytes). Runs (write_result j (m s).value) u1 v) (sym ei) (r.runs (m s).value x inside.0 inside.1 few) L (m s).state k' l'))));
      }

    -- no inline expression has another tag: never
    pub inline_other : (w : World) → (tag ≡ 7 → ⊥) → (tag ≡ 4 → ⊥) → (tag ≡ 5 → ⊥) → (tag ≡ 3 → ⊥) → (tag ≡ 1 → ⊥) → (tag ≡ 2 → ⊥) → (tag ≡ 6 → ⊥) → InlineAt e left at w w
    inline_other w n7 n4 n5 n3 n1 n2 n6 = record { kept = kept_same w; runs = λ u y f k. no_body e.store at tag p hb left k n4 n5 n7 n1 n2 n3 n6 }

    -- no Str stands past a call's tag: never
    pub inline_uncalled : {found : Bool} {c : CodeValue.Value} {w v : World} → tag ≡ 3 → str_at e.store p ≡ bad → CalledAt e (left - 1) p w v found c → InlineAt e left at w v
    inline_uncalled h b g = record { kept = g.kept; runs = λ u y f k. str_body e.store at tag p hb left k (λ o. omega arith) (λ o. omega arith) (λ o. omega arith) b }

    module _ {a b : ℕ} {r : Num} (is : r ≡ num_of (span_at e.store p)) (ha : r ≡ Some (a, b)) where
      -- a call, and then its result, written
      pub inline_called : {found : Bool} {c : CodeValue.Value} {w u1 v : World} → tag ≡ 3 → CalledAt e (left - 1) p w u1 found c → ResultAt e a b found c u1 v → InlineAt e left at w v
      inline_called h g k = inline_function is ha (λ o. omega arith) (λ o. omega arith) (λ o. omega arith) (λ o. omega arith) (λ o. omega arith) (λ o. omega arith) g k
