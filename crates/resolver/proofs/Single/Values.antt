-- Laws of values: string literals, kept at the workspace's back; named arguments, one after the other.
use Rattle.refusals.specs.Numbers.{number_of}
use Rattle.state.specs.Progress.{refused_of}
use Rattle.refusals.specs.declared.Refusal.TheVariants as refusal
use mathlib.Core.Path.{◌≡◌, refl, ap, sym, subst, ◌∙◌}
use mathlib.Core.List.{List, [], ◌∷◌, ◌++◌}
use mathlib.Core.Bool.{Bool, true, false, not}
use mathlib.Core.Logic.{⊎_elim}
use Prim.Native.Nat.{ℕ, suc, ◌+◌, ◌-◌, ◌≤◌, ◌<◌, max}
use native.Mathlib.Omega.{arith}
use lib.ListN.{length, take, drop}
use lib.Seq.{take-take}
use borrow.Author.Tests.{le-leb, lt-leb}
use Rattle.numbers.specs.Number.{literal}
use Rattle.numbers.specs.Value.{Value, textual, numeric}
use Rattle.buffers.specs.Relations.Append.{over, appended, Wrote}
use Rattle.unescape.specs.Unescape.{unescape, has_backslash}
use Rattle.unescape.proofs.Reading.{unescape_plain}
use Rattle.buffers.proofs.Place.{appended_fits, length_over, drop_over, front_over, part_over}
use Rattle.arguments.specs.Relations.Given.{between}
use Rattle.arguments.proofs.Laws.{between_in, between_after, between_past}
use Rattle.records.specs.Got.{got}
use Rattle.records.specs.Bytes.{part}
use Rattle.records.specs.Tree.{Literal, Named}
use Rattle.records.specs.Decode.{many, named_at}
use Rattle.records.proofs.Views.{many_cons, many_nil}
use Rattle.resolution.specs.Effect.{Bytes, put, open_text, keep_text, State, Out, M, ret, ◌>>=◌, write, capture}
use Rattle.resolution.specs.Resolve.{held, string_if, string_value, literal_value, named_values}
use Rattle.resolution.specs.Exec.{Machine, Limits, ran, refused, exec, and_then, step, allow, allow_if, put_at, put_work}
use Rattle.state.specs.declared.Progress.{Progress}
use Rattle.values.specs.declared.Value as CodeValue
use Rattle.values.specs.declared.Value.TheVariants as val
use Rattle.resolver.specs.declared.scope.value.NamedSpan.{NamedSpan}
use Rattle.std.specs.Prelude as rust
use Rattle.resolver.specs.Relations.Meets.{World, world, takes_if, takes, literal_text, named_texts, TextIn, NamedIn, named_none, named_more, Live, Moved, Ended, ended, stopped, Runs, Kept, locals_same, in_store, in_work}
use Rattle.resolver.specs.Relations.Leaves.{StringAt, NamedAt}
use Rattle.state.specs.Setters.{refuse_s, held_s}
use Rattle.resolver.specs.Relations.Values.{LiteralIs, a_string, is_digits, NamedReads}
use Rattle.resolver.proofs.Single.Laws.{kept_same, kept_then, append_nil, aside_nil, ended_then, runs_ret}
use Rattle.resolver.proofs.Single.Locals.{locals_stay, named_high, text_stays}
use Rattle.resolver.proofs.Single.Puts.{le_or_lt, work_m}
use Rattle.resolver.proofs.Single.Steps.{runs_over, runs_as}

-- an action, and one that its value decides
pub runs_bind : {A B : Type 0} {w u v : World} {m : M A} {f : A → M B} → Runs m w u → Kept u v → ((a : A) → Runs (f a) u v) → Runs (m >>= f) w v
runs_bind {m = m} {f = f} h kp g L s k l = ended_then m f L s k (h L s k l) kp (λ k' l' mv. g (m s).value L (m s).state k' l')

-- bytes that were written where there was room
pub written_at : (d : List ℕ) (at : ℕ) (b : Bytes) {n : ℕ} {r : Wrote} {e : List ℕ} → n ≡ length b → (r, e) ≡ appended d at b → at + n ≤ length d → e ≡ over d at b
written_at d at b en h k = ap (λ (y : Wrote × List ℕ). y.1) (h ∙ sym (appended_fits d at b {e = over d at b} {p = at + length b} (omega arith) refl refl))

-- a test that was turned round
pub flip_true : (b : Bool) → not b ≡ true → b ≡ false
flip_true true h = let z : ◌≡◌ {A = ℕ} 0 1 = cc in absurd (omega arith)
flip_true false h = refl

pub flip_false : (b : Bool) → not b ≡ false → b ≡ true
flip_false true h = refl
flip_false false h = let z : ◌≡◌ {A = ℕ} 0 1 = cc in absurd (omega arith)

-- what a text of its own does, with bytes that are known
module _ (L : Limits) (b : Bytes) (k : Machine) where
  keep_in : k.used + length b ≤ L.work_len → exec L (open_text ∷ put b ∷ keep_text ∷ []) k ≡ ran (work_m L b k)
  unfolding exec step put_at put_work allow allow_if and_then
  keep_in h =
      let q : suc k.nest - 1 ≡ k.nest = omega arith in
      rw (le-leb _ _ h) (ap (λ (n : ℕ). ran (record { written = k.written; errors = k.errors; nest = n; used = k.used + length b; high = max k.high (k.used + length b); begun = k.begun; expanded = k.expanded; unfounds = k.unfounds })) q)

  keep_out : L.work_len < k.used + length b → exec L (open_text ∷ put b ∷ keep_text ∷ []) k ≡ refused 16
  unfolding exec step put_at put_work allow allow_if and_then
  keep_out h = rw (lt-leb _ _ h)

held_out : (b : Bytes) (s : State) → held (capture (write b)) s ≡ record { trace = open_text ∷ put b ∷ keep_text ∷ []; text = []; kept = length b; state = s; value = textual b }
unfolding held capture write ◌>>=◌ ret
held_out b s = let e : 0 + length b + 0 ≡ length b = omega arith in ap (λ (n : ℕ). record { trace = open_text ∷ put b ∷ keep_text ∷ []; text = []; kept = n; state = s; value = textual b }) e

-- a string literal's value, by whether it has a backslash
string_plain : (t : Bytes) → has_backslash t ≡ false → string_value t ≡ ret (textual t)
unfolding string_value string_if
string_plain t h = rw h

string_marked : (t : Bytes) → has_backslash t ≡ true → string_value t ≡ held (capture (write (unescape t)))
unfolding string_value string_if
string_marked t h = rw h

plain_text : (w : List ℕ) (base : ℕ) (t : Bytes) → has_backslash t ≡ false → TextIn w base (Literal.string t)
unfolding TextIn
plain_text w base t h b = let z : ◌≡◌ {A = ℕ} 0 1 = cc in absurd (omega arith)

pub takes_plain : (t : Bytes) → has_backslash t ≡ false → takes (Literal.string t) ≡ 0
unfolding takes takes_if
takes_plain t h = rw h

pub takes_marked : (t : Bytes) → has_backslash t ≡ true → takes (Literal.string t) ≡ length (unescape t)
unfolding takes takes_if
takes_marked t h = rw h

marked_text : (w : List ℕ) (base : ℕ) (t : Bytes) → has_backslash t ≡ true → part w (base - length (unescape t)) (length (unescape t)) ≡ unescape t → TextIn w base (Literal.string t)
unfolding TextIn
marked_text w base t h e _ = ap (λ (n : ℕ). part w (base - n) n) (takes_marked t h) ∙ e

pub text_of : (w : List ℕ) (base : ℕ) (t : Bytes) → has_backslash t ≡ true → TextIn w base (Literal.string t) → part w (base - length (unescape t)) (length (unescape t)) ≡ unescape t
unfolding TextIn
text_of w base t h x = sym (ap (λ (n : ℕ). part w (base - n) n) (takes_marked t h)) ∙ x h

-- a string literal: what the code does in each case
module _ (i : List ℕ) (a e : ℕ) (w : List ℕ) (st : Progress) where
  pub string_over : {c : CodeValue.Value} → ((refused_of st) ≡ 0 → ⊥) → StringAt i a e w st w st c
  string_over h = record { kept = λ x l t. kept_same _; runs = λ _ _ x l t. runs_over _ _ h; size = refl; holds = λ _ _ args x l t L s k lv. absurd (h lv.go); text = λ _ _ x l t L s k lv. absurd (h lv.go) }

  pub string_here : has_backslash (part i a (e - a)) ≡ false → StringAt i a e w st w st (val.Store a e)
  string_here h = record {
    kept = λ x l t. kept_same _;
    runs = λ p q x l t. runs_as (string_plain _ h) (runs_ret _ _);
    size = refl;
    holds = λ p q args x l t L s k lv z. in_store a e refl p q (ap textual (unescape_plain _ h));
    text = λ p q x l t L s k lv z. plain_text w st.back (part i a (e - a)) h;
  }

  module _ (h : has_backslash (part i a (e - a)) ≡ true) (z : (refused_of st) ≡ 0) where
    pub string_full : {c : CodeValue.Value} {r : Progress} → (st.front ≤ st.back → st.back ≤ length w → st.back < st.front + length (unescape (part i a (e - a)))) → r ≡ refuse_s refusal.ShortWorkspace st → StringAt i a e w st w r c
    unfolding number_of
    string_full {r = r} f g =
        let b : r.begun ≡ st.begun = ap (λ (q : Progress). q.begun) g in
        let o : (refused_of r) ≡ 16 = ap (λ (q : Progress). (refused_of q)) g in
        record {
          kept = λ x l t. record { begun = omega arith; over = λ n. absurd (n z) };
          runs = λ p q x l t. runs_as (string_marked _ h) (λ L s k lv.
              stopped 16
              (ap (λ (y : Out Value). exec L y.trace k) (held_out _ s) ∙ keep_out L _ k (let p = lv.work_len in let q = lv.uses in let i = lv.front_in in let j = lv.back_in in let o = f i j in omega arith))
              (λ y. omega arith) o);
          size = refl;
          holds = λ p q args x l t L s k lv y. absurd (omega arith);
          text = λ p q x l t L s k lv y. absurd (omega arith);
        }

    module _ {n hi : ℕ} {w' : List ℕ} {r : Progress} (en : n ≡ length (unescape (part i a (e - a)))) (f : st.front + n ≤ st.back) (g : st.back ≤ length w) (ew : w' ≡ over w (st.back - n) (unescape (part i a (e - a))))
        (eh : hi ≡ max st.high (st.front + (length w' - (st.back - n)))) (er : r ≡ held_s (st.back - n) hi st) where
      len : length w' ≡ length w
      len = ap length ew ∙ length_over w (st.back - n) (unescape (part i a (e - a))) (omega arith)

      rest : drop st.back w' ≡ drop st.back w
      rest =
          let q : st.back - n + length (unescape (part i a (e - a))) ≡ st.back = omega arith in
          let d : drop (st.back - n + length (unescape (part i a (e - a)))) w' ≡ drop (st.back - n + length (unescape (part i a (e - a)))) w = ap (drop (st.back - n + length (unescape (part i a (e - a))))) ew ∙ drop_over w (st.back - n) (unescape (part i a (e - a))) (omega arith) in
          subst (λ (m : ℕ). drop m w' ≡ drop m w) q d

      before : take st.front w' ≡ take st.front w
      before =
          let d : take (st.back - n) w' ≡ take (st.back - n) w = ap (take (st.back - n)) ew ∙ front_over w (st.back - n) (unescape (part i a (e - a))) (omega arith) in
          sym (take-take st.front (st.back - n) w' (omega arith)) ∙ ap (take st.front) d ∙ take-take st.front (st.back - n) w (omega arith)

      there : part w' (st.back - n) (length (unescape (part i a (e - a)))) ≡ unescape (part i a (e - a))
      there = ap (λ (d : List ℕ). part d (st.back - n) (length (unescape (part i a (e - a))))) ew ∙ part_over w (st.back - n) (unescape (part i a (e - a))) (omega arith)

      kept_live : (x l t : List ℕ) (L : Limits) (s : State) (k : Machine) → Live L (world i x l w t st) s k → Live L (world i x l w' t (held_s (st.back - n) hi st)) s (work_m L (unescape (part i a (e - a))) k)
      kept_live x l t L s k lv =
          let p = lv.uses in
          let us : k.used + length (unescape (part i a (e - a))) ≡ st.front + (length w - (st.back - n)) = omega arith in
          record {
            go = lv.go;
            text_len = lv.text_len;
            list_len = lv.list_len;
            work_len = len ∙ lv.work_len;
            trail_len = lv.trail_len;
            text_in = lv.text_in;
            header_in = lv.header_in;
            list_in = lv.list_in;
            list_u32 = lv.list_u32;
            front_in = omega arith;
            back_in = (let q = len in omega arith);
            written = lv.written;
            listed = lv.listed;
            errors = lv.errors;
            nest = lv.nest;
            uses = (let q = len in omega arith);
            high = rw (us, lv.high) (sym (eh ∙ ap (λ (m : ℕ). max st.high (st.front + (m - (st.back - n)))) len));
            unfounds = lv.unfounds;
            begun = lv.begun;
            machine_begun = lv.machine_begun;
            dirty = lv.dirty;
            few = lv.few;
            most = lv.most;
            locals = locals_stay refl len (omega arith) rest refl refl refl refl lv.locals;
          }

      kept_moved : (x l t : List ℕ) (s : State) → Moved (world i x l w t st) (world i x l w' t (held_s (st.back - n) hi st)) (record { trace = open_text ∷ put (unescape (part i a (e - a))) ∷ keep_text ∷ []; text = []; kept = length (unescape (part i a (e - a))); state = s; value = textual (unescape (part i a (e - a))) })
      kept_moved x l t s = record {
        store = refl;
        front = before ∙ sym (ap (λ (q : List ℕ). take st.front w ++ q) (aside_nil st.aside) ∙ append_nil _);
        back = omega arith;
        rest = rest;
        aside = refl;
        depth = refl;
        trail = λ _. refl;
        stay = locals_same refl refl refl refl;
        outs = record { text_up = omega arith; list_up = omega arith; text_rest = refl; list_rest = refl };
      }

      pub string_kept : StringAt i a e w st w' r (val.Work (st.back - n) st.back)
      string_kept = subst (λ (q : Progress). StringAt i a e w st w' q (val.Work (st.back - n) st.back)) (sym er) (record {
        kept = λ x l t. record { begun = omega arith; over = λ _. refl };
        runs = λ p q x l t. runs_as (string_marked _ h) (λ L s k lv.
            subst (λ (y : Out Value). Ended L (world i x l w t st) (world i x l w' t (held_s (st.back - n) hi st)) y k) (sym (held_out _ s))
            (ended (work_m L (unescape (part i a (e - a))) k) (keep_in L _ k (let p = lv.work_len in let q = lv.uses in omega arith)) (kept_live x l t L s k lv) refl (kept_moved x l t s)));
        size = len;
        holds = λ p q args x l t L s k lv y.
            let m : st.back - (st.back - n) ≡ length (unescape (part i a (e - a))) = omega arith in
            in_work (st.back - n) st.back refl (omega arith) (omega arith) (let o = len in omega arith) (ap textual (sym (ap (part w' (st.back - n)) m ∙ there)));
        text = λ p q x l t L s k lv y. marked_text w' st.back (part i a (e - a)) h (subst (λ (m : ℕ). part w' (st.back - m) (length (unescape (part i a (e - a)))) ≡ unescape (part i a (e - a))) en there);
      })

-- the same of a part of the store, if it is one: a text with a backslash is
marked_part : (i : Bytes) {t : Bytes} (a e : ℕ) → t ≡ between i a e → has_backslash t ≡ true → t ≡ part i a (e - a)
unfolding has_backslash
marked_part i {t} a e h m = ⊎_elim
    (λ (p : a ≤ e). ⊎_elim (λ (q : e ≤ length i). h ∙ between_in i a e p q) (λ (q : length i < e). none (h ∙ between_past i a e q)) (le_or_lt e (length i)))
    (λ (p : e < a). none (h ∙ between_after i a e p))
    (le_or_lt a e)
  where
    none : t ≡ [] → t ≡ part i a (e - a)
    none z = let c : ◌≡◌ {A = ℕ} 0 1 = (let y : false ≡ true = sym (ap has_backslash z) ∙ m in cc) in absurd (omega arith)

module _ (i : Bytes) {t : Bytes} (a e : ℕ) {w : List ℕ} {st : Progress} (et : t ≡ between i a e) where
  pub string_stored : has_backslash t ≡ false → StringAt i a e w st w st (val.Store a e)
  string_stored h = record {
    kept = λ x l y. kept_same _;
    runs = λ p q. (at p q).runs p q;
    size = refl;
    holds = λ p q. (at p q).holds p q;
    text = λ p q. (at p q).text p q;
  }
    where
      at : a ≤ e → e ≤ length i → StringAt i a e w st w st (val.Store a e)
      at p q = string_here i a e w st (subst (λ (m : Bytes). has_backslash m ≡ false) (et ∙ between_in i a e p q) h)

  module _ (h : has_backslash t ≡ true) (z : (refused_of st) ≡ 0) where
    pub string_refused : {c : CodeValue.Value} {r : Progress} → (st.front ≤ st.back → st.back ≤ length w → st.back < st.front + length (unescape t)) → r ≡ refuse_s refusal.ShortWorkspace st → StringAt i a e w st w r c
    string_refused f g =
        let q = marked_part i a e et h in
        string_full i a e w st (subst (λ (m : Bytes). has_backslash m ≡ true) q h) z (subst (λ (m : Bytes). st.front ≤ st.back → st.back ≤ length w → st.back < st.front + length (unescape m)) q f) g

    pub string_held : {n hi : ℕ} {w' : List ℕ} {r : Progress} → n ≡ length (unescape t) → st.front + n ≤ st.back → st.back ≤ length w → w' ≡ over w (st.back - n) (unescape t)
        → hi ≡ max st.high (st.front + (length w' - (st.back - n))) → r ≡ held_s (st.back - n) hi st → StringAt i a e w st w' r (val.Work (st.back - n) st.back)
    string_held {n} {w' = w'} en f g ew eh er =
        let q = marked_part i a e et h in
        string_kept i a e w st (subst (λ (m : Bytes). has_backslash m ≡ true) q h) z (subst (λ (m : Bytes). n ≡ length (unescape m)) q en) f g (subst (λ (m : Bytes). w' ≡ over w (st.back - n) (unescape m)) q ew) eh er

-- the first of named arguments that were read, and the rest
module _ (s : List ℕ) (at : ℕ) {r : rust.Option NamedSpan} (read : NamedReads s at r) (n : ℕ) {ns : Named} {f : ℕ} (z : 0 < n) (all : many [] ◌∷◌ n named_at s at ≡ got ns f) where
  pub named_first : {C : Type 0} {sp : NamedSpan} → r ≡ rust.Some sp
      → ((x : List ℕ × Literal) (t : Named) → x.0 ≡ part s sp.from (sp.to - sp.from) → LiteralIs s sp.tag sp.start sp.end x.1 → many [] ◌∷◌ (n - 1) named_at s sp.end ≡ got t f → ns ≡ x ∷ t → C) → C
  named_first {sp = sp} h c = many_cons [] ◌∷◌ named_at s n at z all (λ x e t hx ht w.
      let q = read.reads sp h x e hx in
      c x t q.0 q.2 (subst (λ (j : ℕ). many [] ◌∷◌ (n - 1) named_at s j ≡ got t f) q.1 ht) w)

  pub named_never : {C : Type 0} → r ≡ rust.None → C
  named_never h = many_cons [] ◌∷◌ named_at s n at z all (λ x e t hx ht w. absurd (read.unread h x e hx))

ret_keeps : {A : Type 0} (a : A) (s : State) → (ret a s).kept ≡ 0
unfolding ret
ret_keeps a s = refl

ret_value : {A : Type 0} (a : A) (s : State) → (ret a s).value ≡ a
unfolding ret
ret_value a s = refl

-- the values of named arguments are their texts
pub string_value_law : (t : Bytes) (s : State) → (string_value t s).value ≡ textual (unescape t)
string_value_law t s = go (has_backslash t) refl
  where
    go : (b : Bool) → has_backslash t ≡ b → (string_value t s).value ≡ textual (unescape t)
    go true h = ap (λ (m : M Value). (m s).value) (string_marked t h) ∙ ap (λ (y : Out Value). y.value) (held_out (unescape t) s)
    go false h = ap (λ (m : M Value). (m s).value) (string_plain t h) ∙ ret_value (textual t) s ∙ ap textual (sym (unescape_plain t h))

literal_value_law : (x : Literal) (s : State) → (literal_value x s).value ≡ literal_text x
unfolding literal_value literal_text ret
literal_value_law (Literal.string t) s = string_value_law t s
literal_value_law (Literal.number t) s = refl

pub named_value : (ns : Named) (s : State) → (named_values ns s).value ≡ named_texts ns
unfolding named_values named_texts ◌>>=◌ ret
named_value [] s = refl
named_value (a ∷ l) s =
    ap (λ (v : Value). (a.0, v) ∷ (named_values l (literal_value a.1 s).state).value) (literal_value_law a.1 s)
    ∙ ap (λ (r : List (Bytes × Value)). (a.0, literal_text a.1) ∷ r) (named_value l (literal_value a.1 s).state)

string_keeps : (t : Bytes) (s : State) → (string_value t s).kept ≡ takes (Literal.string t)
string_keeps t s = go (has_backslash t) refl
  where
    go : (b : Bool) → has_backslash t ≡ b → (string_value t s).kept ≡ takes (Literal.string t)
    go true h = ap (λ (m : M Value). (m s).kept) (string_marked t h) ∙ ap (λ (y : Out Value). y.kept) (held_out (unescape t) s) ∙ sym (takes_marked t h)
    go false h = ap (λ (m : M Value). (m s).kept) (string_plain t h) ∙ ret_keeps (textual t) s ∙ sym (takes_plain t h)

-- a string literal and the named arguments after it
module _ (i w w₁ w' x l t : List ℕ) (st s₁ v : Progress) (b name : Bytes) (bs : Named) (L : Limits) (s : State) (k : Machine) (lv : Live L (world i x l w t st) s k)
    (text : (refused_of s₁) ≡ 0 → TextIn w₁ st.back (Literal.string b)) (kp : Kept (world i x l w₁ t s₁) (world i x l w' t v)) (fine : (refused_of v) ≡ 0)
    (runs : Runs (named_values bs) (world i x l w₁ t s₁) (world i x l w' t v)) (more : (s' : State) (k' : Machine) → Live L (world i x l w₁ t s₁) s' k' → NamedIn w' v.back s₁.back bs) where
  then_in : (k' : Machine) → Live L (world i x l w₁ t s₁) (string_value b s).state k' → Moved (world i x l w t st) (world i x l w₁ t s₁) (string_value b s)
      → Ended L (world i x l w₁ t s₁) (world i x l w' t v) (named_values bs (string_value b s).state) k' → NamedIn w' v.back st.back ((name, Literal.string b) ∷ bs)
  then_in k' l' mv (stopped m _ nz o) = absurd (nz (sym o ∙ fine))
  then_in k' l' mv (ended k'' _ l'' _ mv') =
      let g : s₁.back + takes (Literal.string b) ≡ st.back = ap (λ (n : ℕ). s₁.back + n) (sym (string_keeps b s)) ∙ mv.back in
      let bl : st.back ≤ length w' = (let p = lv.back_in in let p₁ = lv.work_len in let p₂ = l''.work_len in omega arith) in
      let e : s₁.back ≡ st.back - takes (Literal.string b) = omega arith in
      named_more {base = st.back} {a = (name, Literal.string b)} (omega arith) bl (text_stays w₁ w' s₁.back st.back (Literal.string b) mv'.rest (omega arith) (text l'.go))
      (subst (λ (j : ℕ). NamedIn w' v.back j bs) e (more _ k' l'))

  string_in_law : Ended L (world i x l w t st) (world i x l w₁ t s₁) (string_value b s) k → NamedIn w' v.back st.back ((name, Literal.string b) ∷ bs)
  string_in_law (stopped m _ nz o) = absurd (nz (sym o ∙ sym (kp.over (λ q. nz (sym o ∙ q))) ∙ fine))
  string_in_law (ended k' _ l' _ mv) = then_in k' l' mv (runs L _ k' l')

-- one value, then the others
cons_runs : {u v w : World} (a : List ℕ × Literal) (bs : Named) → Runs (literal_value a.1) w u → Kept u v → Runs (named_values bs) u v → Runs (named_values (a ∷ bs)) w v
unfolding named_values
cons_runs {v = v} a bs h kp g = runs_bind h kp (λ c. runs_bind g (kept_same v) (λ q. runs_ret ((a.0, c) ∷ q) v))

digits_runs : (x : Literal) (t : Bytes) (w : World) → x ≡ Literal.number t → Runs (literal_value x) w w
unfolding literal_value
digits_runs x t w e = runs_as (ap literal_value e) (runs_ret (numeric (literal t)) w)

string_runs : {w v : World} (x : Literal) (t : Bytes) → x ≡ Literal.string t → Runs (string_value t) w v → Runs (literal_value x) w v
unfolding literal_value
string_runs x t e h = runs_as (ap literal_value e) h

digits_take : (x : Literal) (t : Bytes) → x ≡ Literal.number t → takes x ≡ 0
unfolding takes
digits_take x t e = ap takes e

digits_text : (w : List ℕ) (base : ℕ) (x : Literal) (t : Bytes) → x ≡ Literal.number t → TextIn w base x
unfolding TextIn
digits_text w base x t e = subst (TextIn w base) (sym e) tt

-- named arguments, one after the other
module _ (i : List ℕ) (at n : ℕ) (w : List ℕ) (st : Progress) where
  pub named_end : n ≤ 0 → NamedAt i at n w st w st
  unfolding named_values
  named_end z = record {
    kept = λ x l t. kept_same _;
    runs = λ ns f all x l t. many_nil [] ◌∷◌ named_at i n at z all (λ e _. runs_as (ap named_values e) (runs_ret [] _));
    named = λ ns f all x l t L s k lv y. many_nil [] ◌∷◌ named_at i n at z all (λ e _. subst (NamedIn w st.back st.back) (sym e) (named_none (omega arith) lv.back_in));
  }

  module _ {r : rust.Option NamedSpan} (z : 0 < n) (read : NamedReads i at r) where
    pub named_unread : r ≡ rust.None → NamedAt i at n w st w st
    named_unread h = record {
      kept = λ x l t. kept_same _;
      runs = λ ns f all. named_never i at read n z all h;
      named = λ ns f all. named_never i at read n z all h;
    }

    module _ {sp : NamedSpan} (h : r ≡ rust.Some sp) {w' : List ℕ} {v : Progress} where
      digits_go : NamedAt i sp.end (n - 1) w st w' v → (a : List ℕ × Literal) (bs : Named) (f : ℕ) (x l t : List ℕ) → (sp.tag ≡ 1 → ⊥) → LiteralIs i sp.tag sp.start sp.end a.1 → many [] ◌∷◌ (n - 1) named_at i sp.end ≡ got bs f → Runs (named_values (a ∷ bs)) (world i x l w t st) (world i x l w' t v)
      digits_go rest a bs f x l t nt (a_string e _) more = absurd (nt e)
      digits_go rest a bs f x l t nt (is_digits e _ ea) more = cons_runs a bs (digits_runs a.1 _ _ ea) (rest.kept x l t) (rest.runs bs f more x l t)

      digits_in : NamedAt i sp.end (n - 1) w st w' v → (a : List ℕ × Literal) (bs : Named) (f : ℕ) → (sp.tag ≡ 1 → ⊥) → LiteralIs i sp.tag sp.start sp.end a.1 → many [] ◌∷◌ (n - 1) named_at i sp.end ≡ got bs f
          → (x l t : List ℕ) (L : Limits) (s : State) (k : Machine) → Live L (world i x l w t st) s k → (refused_of v) ≡ 0 → NamedIn w' v.back st.back (a ∷ bs)
      digits_in rest a bs f nt (a_string e _) more x l t L s k lv y = absurd (nt e)
      digits_in rest a bs f nt (is_digits e _ ea) more x l t L s k lv y =
          let q = rest.named bs f more x l t L s k lv y in
          let g = digits_take a.1 _ ea in
          let j : st.back ≡ st.back - takes a.1 = omega arith in
          named_more {base = st.back} {a = a} (omega arith) (named_high q) (digits_text w' st.back a.1 _ ea) (subst (λ (m : ℕ). NamedIn w' v.back m bs) j q)

      pub named_digits : (sp.tag ≡ 1 → ⊥) → NamedAt i sp.end (n - 1) w st w' v → NamedAt i at n w st w' v
      named_digits nt rest = record {
        kept = rest.kept;
        runs = λ ns f all x l t. named_first i at read n z all h (λ a bs _ lit more e. runs_as (ap named_values e) (digits_go rest a bs f x l t nt lit more));
        named = λ ns f all x l t L s k lv y. named_first i at read n z all h (λ a bs _ lit more e. subst (NamedIn w' v.back st.back) (sym e) (digits_in rest a bs f nt lit more x l t L s k lv y));
      }

      module _ {w₁ : List ℕ} {s₁ : Progress} {c : CodeValue.Value} (is : sp.tag ≡ 1) (str : StringAt i sp.start sp.end w st w₁ s₁ c) (rest : NamedAt i sp.end (n - 1) w₁ s₁ w' v) where
        ins : (sp.from ≤ sp.to) × (sp.to ≤ length i) × (sp.start ≤ sp.end) × (sp.end ≤ length i)
        ins = read.inside sp h

        string_go : (a : List ℕ × Literal) (bs : Named) (f : ℕ) (x l t : List ℕ) → LiteralIs i sp.tag sp.start sp.end a.1 → many [] ◌∷◌ (n - 1) named_at i sp.end ≡ got bs f → Runs (named_values (a ∷ bs)) (world i x l w t st) (world i x l w' t v)
        string_go a bs f x l t (is_digits e _ _) more = absurd (omega arith)
        string_go a bs f x l t (a_string e ea) more = cons_runs a bs (string_runs a.1 _ ea (str.runs ins.2 ins.3 x l t)) (rest.kept x l t) (rest.runs bs f more x l t)

        strings_in : (a : List ℕ × Literal) (bs : Named) (f : ℕ) → LiteralIs i sp.tag sp.start sp.end a.1 → many [] ◌∷◌ (n - 1) named_at i sp.end ≡ got bs f
            → (x l t : List ℕ) (L : Limits) (s : State) (k : Machine) → Live L (world i x l w t st) s k → (refused_of v) ≡ 0 → NamedIn w' v.back st.back (a ∷ bs)
        strings_in a bs f (is_digits e _ _) more x l t L s k lv y = absurd (omega arith)
        strings_in a bs f (a_string e ea) more x l t L s k lv y =
            subst (λ (q : Literal). NamedIn w' v.back st.back ((a.0, q) ∷ bs)) (sym ea)
            (string_in_law i w w₁ w' x l t st s₁ v _ a.0 bs L s k lv (str.text ins.2 ins.3 x l t L s k lv) (rest.kept x l t) y (rest.runs bs f more x l t) (λ s' k' l'. rest.named bs f more x l t L s' k' l' y)
            (str.runs ins.2 ins.3 x l t L s k lv))

        pub named_string : NamedAt i at n w st w' v
        named_string = record {
          kept = λ x l t. kept_then (str.kept x l t) (rest.kept x l t);
          runs = λ ns f all x l t. named_first i at read n z all h (λ a bs _ lit more e. runs_as (ap named_values e) (string_go a bs f x l t lit more));
          named = λ ns f all x l t L s k lv y. named_first i at read n z all h (λ a bs _ lit more e. subst (NamedIn w' v.back st.back) (sym e) (strings_in a bs f lit more x l t L s k lv y));
        }

-- the same, where the code's state after the literal is another name for it
pub named_string_as : (i : List ℕ) (at n : ℕ) (w : List ℕ) (st : Progress) {r : rust.Option NamedSpan} → 0 < n → NamedReads i at r → {sp : NamedSpan} → r ≡ rust.Some sp → {w₁ w₂ w' : List ℕ} {s₁ s₂ v : Progress} {c : CodeValue.Value}
    → sp.tag ≡ 1 → StringAt i sp.start sp.end w st w₁ s₁ c → w₂ ≡ w₁ → s₂ ≡ s₁ → NamedAt i sp.end (n - 1) w₂ s₂ w' v → NamedAt i at n w st w' v
named_string_as i at n w st z read {sp} h {w₁} {w₂} {w'} {s₁} {s₂} {v} is str ew es rest =
    named_string i at n w st z read h is str (subst (λ (y : Progress). NamedAt i sp.end (n - 1) w₁ y w' v) es (subst (λ (y : List ℕ). NamedAt i sp.end (n - 1) y s₂ w' v) ew rest))

pub named_digits_as : (i : List ℕ) (at n : ℕ) (w : List ℕ) (st : Progress) {r : rust.Option NamedSpan} → 0 < n → NamedReads i at r → {sp : NamedSpan} → r ≡ rust.Some sp → {w₂ w' : List ℕ} {s₂ v : Progress}
    → (sp.tag ≡ 1 → ⊥) → w₂ ≡ w → s₂ ≡ st → NamedAt i sp.end (n - 1) w₂ s₂ w' v → NamedAt i at n w st w' v
named_digits_as i at n w st z read {sp} h {w₂} {w'} {s₂} {v} nt ew es rest =
    named_digits i at n w st z read h nt (subst (λ (y : Progress). NamedAt i sp.end (n - 1) w y w' v) es (subst (λ (y : List ℕ). NamedAt i sp.end (n - 1) y s₂ w' v) ew rest))
