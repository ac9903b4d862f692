-- Elements of a pattern: one after the other, and a placeable that is entered.
use Rattle.state.specs.Progress.{refused_of}
use Rattle.records.specs.Relations.Answer.{Next}
use Rattle.std.specs.Prelude.{Some, None}
use mathlib.Core.Path.{◌≡◌, refl, ap, sym, subst, ◌∙◌}
use mathlib.Core.List.{List, [], ◌∷◌, ◌++◌}
use mathlib.Core.Bool.{Bool, true, false, ◌&&◌, not, true≢false}
use Prim.Native.Nat.{ℕ, zero, suc, ◌+◌, ◌-◌, ◌≤◌, ◌<◌}
use native.Mathlib.Omega.{arith}
use lib.Dec.{ltb}
use borrow.Author.Tests.{lt-ltb, le-ltb}
use Rattle.records.specs.Got.{got, bad, Parser}
use Rattle.records.specs.Bytes.{byte_at, number_at, str_at}
use Rattle.records.specs.Tree.{Pattern, Elements, no_more, more, Element, Expression}
use Rattle.records.specs.Decode.{element_at, elements_at, expression}
use Rattle.records.specs.Images.{Store, store_of}
use Rattle.records.specs.Errors.{too_many_placeables}
use Rattle.records.proofs.Views.{both, never, many_cons, many_nil, element_elim, pattern_elim, text_str}
use Rattle.resolution.specs.Effect.{Bytes, Effect, report, begin, expand, State, Out, M, Done, ◌>>=◌, ◌>>◌, emit, write, max_placeables, enter_if, enter, only_if, entered}
use Rattle.resolution.specs.Exec.{Machine, Limits, ran, exec, and_then, step}
use Rattle.resolution.specs.Resolve.{braced, bare, fsi, pdi, mark, cut_short, error_of, several_of, write_pattern, write_elements, write_element, write_expression}
use Rattle.state.specs.declared.Progress.{Progress}
use Rattle.resolver.specs.Relations.Meets.{World, world, Live, LocalsStay, locals_same, locals_cleared, Moved, Ended, ended, stopped, Runs, Kept, Acts, trail_of, Env, setting_of, find_of, cross_of}
use Rattle.resolver.specs.Relations.Leaves.{TooMany, CutAt}
use Rattle.resolver.specs.Relations.Members.{Here, PatternAt, ElementsAt, ElementAt, ExpressionAt}
use Rattle.state.specs.Setters.{begun_s}
use Rattle.resolver.proofs.Single.Laws.{Stays, here_stays, kept_same, kept_then, runs_ret, runs_then, runs_dirty, ended_then, ended_none, moved_none}
use Rattle.resolver.proofs.Single.Locals.{locals_alike}
use Rattle.resolver.proofs.Single.Steps.{runs_as, runs_over}

-- whether there are several elements, by their count
several_of_law : (expr : Parser Expression) (s : List ℕ) (n at : ℕ) {es : Elements} {f : ℕ} → elements_at expr n s at ≡ got es f → several_of es ≡ ltb 1 n
unfolding elements_at several_of
several_of_law expr s n at {es} h = go n refl
  where
    go : (k : ℕ) → n ≡ k → several_of es ≡ ltb 1 n
    go zero e = many_nil no_more more (element_at expr) s n at (omega arith) h (λ el _. rw (el, e))
    go (suc zero) e = many_cons no_more more (element_at expr) s n at (omega arith) h (λ a i l ha hl w.
        many_nil no_more more (element_at expr) s (n - 1) i (omega arith) hl (λ el _. rw (w, el, e)))
    go (suc (suc k)) e = many_cons no_more more (element_at expr) s n at (omega arith) h (λ a i l ha hl w.
        many_cons no_more more (element_at expr) s (n - 1) i (omega arith) hl (λ b j m hb hm w'. rw (w, w') (sym (lt-ltb 1 n (omega arith)))))

-- elements, one after the other
module _ (e : Env) (left : ℕ) (iso : Bool) where
  pub elements_none : (i p : ℕ) (w : World) → i ≤ 0 → ElementsAt e left iso i p w w
  unfolding elements_at write_elements
  elements_none i p w z = record {
    kept = kept_same w;
    runs = λ u es f h n t here.
        many_nil no_more more (element_at (expression left)) e.store i p z h (λ el _.
        runs_as (ap (λ (l : Elements). write_elements (setting_of e u) (find_of e u) (cross_of e u n) t l iso) el) (runs_ret tt w));
  }

  module _ (i p : ℕ) {r : Next} {w u : World} (z : 0 < i) (h : ElementAt e left iso p w u) (past : (a : Element) (f : ℕ) → element_at (expression left) e.store p ≡ got a f → r ≡ Some f) where
    pub elements_more : {q : ℕ} → r ≡ Some q → (v : World) → ElementsAt e left iso (i - 1) q u v → ElementsAt e left iso i p w v
    unfolding elements_at write_elements
    elements_more {q} er v g = record {
      kept = kept_then h.kept g.kept;
      runs = λ y es f k n t here.
          many_cons no_more more (element_at (expression left)) e.store i p z k (λ a j l ha hl el.
          let eq : q ≡ j = (let o = past a j ha in cc) in
          let ql : elements_at (expression left) (i - 1) e.store q ≡ got l f = subst (λ (m : ℕ). elements_at (expression left) (i - 1) e.store m ≡ got l f) (sym eq) hl in
          runs_as (ap (λ (l : Elements). write_elements (setting_of e y) (find_of e y) (cross_of e y n) t l iso) el)
          (runs_then (h.runs y a j ha n t here) g.kept (λ s. g.runs y l f ql n t (here_stays here h.kept s))));
    }

    -- nothing stands there: never, where the elements were read
    pub elements_stop : r ≡ None → ElementsAt e left iso i p w u
    unfolding elements_at
    elements_stop er = record {
      kept = h.kept;
      runs = λ y es f k n t here.
          many_cons no_more more (element_at (expression left)) e.store i p z k (λ a j l ha hl el.
          let o = past a j ha in let z : ◌≡◌ {A = ℕ} 0 1 = cc in absurd (omega arith));
    }

  pub pattern_all : (at m a n start : ℕ) {w v : World} → number_at 4 e.store at ≡ got m a → number_at 2 e.store a ≡ got n start
      → ((st : Store) (f : ℕ) → store_of e.store ≡ got st f → iso ≡ (ltb 1 n && st.isolating)) → ElementsAt e left iso n start w v → PatternAt e left at w v
  unfolding write_pattern
  pattern_all at m a n start {w} {v} hm hn is h = record {
    kept = h.kept;
    runs = λ u p f k g t here.
        pattern_elim (expression left) e.store at k (λ m' a' n' b' es hm' hn' z he ef ep.
        both hm hm' (λ _ ea. both (subst (λ (j : ℕ). number_at 2 e.store j ≡ got n start) ea hn) hn' (λ en eb.
        let he' : elements_at (expression left) n e.store start ≡ got es f = rw (en, eb) he in
        let ei : several_of es && u.held.isolating ≡ iso = rw (several_of_law (expression left) e.store n start he') (sym (is u.held u.used u.held_at)) in
        runs_as (ap (λ (q : Pattern). write_pattern (setting_of e u) (find_of e u) (cross_of e u g) t q) ep
        ∙ ap (λ (b : Bool). write_elements (setting_of e u) (find_of e u) (cross_of e u g) t es b) ei)
        (h.runs u es f he' g t here))));
  }

module _ (e : Env) (left at : ℕ) (w : World) where
  pub pattern_none : number_at 4 e.store at ≡ bad → PatternAt e left at w w
  pattern_none h = record { kept = kept_same w; runs = λ u p f k. pattern_elim (expression left) e.store at k (λ m a n b es hm hn z he ef ep. never h hm) }

  pub pattern_worse : {m a : ℕ} → number_at 4 e.store at ≡ got m a → number_at 2 e.store a ≡ bad → PatternAt e left at w w
  pattern_worse g h = record {
    kept = kept_same w;
    runs = λ u p f k. pattern_elim (expression left) e.store at k (λ m a n b es hm hn z he ef ep.
        both g hm (λ _ ea. never (subst (λ (j : ℕ). number_at 2 e.store j ≡ bad) ea h) hn));
  }

-- an action goes by what it gives at a state
bind_at : {A B : Type 0} (m n : M A) (f : A → M B) (s : State) → m s ≡ n s → (m >>= f) s ≡ (n >>= f) s
unfolding ◌>>=◌
bind_at m n f s h = ap (λ (r : Out _). let q = f r.value r.state in record { trace = r.trace ++ q.trace; text = r.text ++ q.text; kept = r.kept + q.kept; state = q.state; value = q.value }) h

-- what entering a placeable gives: it is begun; it is one too many; the scope is dirty
begun' : M Bool
begun' s = record { trace = begin ∷ []; text = []; kept = 0; state = record { begun = suc s.begun; dirty = false; locals = s.locals }; value = true }

full' : M Bool
full' s = record { trace = begin ∷ report too_many_placeables ∷ []; text = []; kept = 0; state = record { begun = suc s.begun; dirty = true; locals = s.locals }; value = false }

idle' : M Bool
idle' s = record { trace = []; text = []; kept = 0; state = s; value = false }

-- one placeable more is begun
abbrev begun_m : Machine → Machine
begun_m k = record { written = k.written; errors = k.errors; nest = k.nest; used = k.used; high = k.high; begun = suc k.begun; expanded = k.expanded; unfounds = k.unfounds }

abbrev begun_state : State → Bool → State
begun_state s d = record { begun = suc s.begun; dirty = d; locals = s.locals }

exec_begin : (L : Limits) (t : List Effect) (k : Machine) → exec L (begin ∷ t) k ≡ exec L t (begun_m k)
unfolding exec step and_then
exec_begin L t k = refl

exec_one : (L : Limits) (k : Machine) → exec L (begin ∷ []) k ≡ ran (begun_m k)
unfolding exec step and_then
exec_one L k = refl

-- its expression is started on
pub runs_expand : (w : World) → Runs (emit expand) w w
unfolding emit exec step and_then
runs_expand w L s k lv =
    ended (record { written = k.written; errors = k.errors; nest = k.nest; used = k.used; high = k.high; begun = k.begun; expanded = suc k.expanded; unfounds = k.unfounds }) refl
    (record {
      go = lv.go;
      text_len = lv.text_len;
      list_len = lv.list_len;
      work_len = lv.work_len;
      trail_len = lv.trail_len;
      text_in = lv.text_in;
      header_in = lv.header_in;
      list_in = lv.list_in;
      list_u32 = lv.list_u32;
      front_in = lv.front_in;
      back_in = lv.back_in;
      written = lv.written;
      listed = lv.listed;
      errors = lv.errors;
      nest = lv.nest;
      uses = lv.uses;
      high = lv.high;
      unfounds = lv.unfounds;
      begun = lv.begun;
      machine_begun = lv.machine_begun;
      dirty = lv.dirty;
      few = lv.few;
      most = lv.most;
      locals = lv.locals;
    })
    refl
    (let a = moved_none w s (tt {0}) in record { store = a.store; front = a.front; back = a.back; rest = a.rest; aside = a.aside; depth = a.depth; trail = a.trail; stay = a.stay; outs = a.outs })

module _ (i x l w t : List ℕ) (st : Progress) where
  -- the state that a placeable is begun in
  pub live_begun : {L : Limits} {s : State} {k : Machine} (b : ℕ) (d : Bool) → b ≡ st.begun + 1 → (d ≡ false → b ≤ 100) → b ≤ 101
      → Live L (world i x l w t st) s k → Live L (world i x l w t (begun_s b d st)) (begun_state s d) (begun_m k)
  live_begun {L} {s} {k} b d e f g lv = record {
    go = lv.go;
    text_len = lv.text_len;
    list_len = lv.list_len;
    work_len = lv.work_len;
    trail_len = lv.trail_len;
    text_in = lv.text_in;
    header_in = lv.header_in;
    list_in = lv.list_in;
    list_u32 = lv.list_u32;
    front_in = lv.front_in;
    back_in = lv.back_in;
    written = lv.written;
    listed = lv.listed;
    errors = lv.errors;
    nest = lv.nest;
    uses = lv.uses;
    high = lv.high;
    unfounds = lv.unfounds;
    begun = (let q = lv.begun in omega arith);
    machine_begun = (let q = lv.machine_begun in omega arith);
    dirty = refl;
    few = (λ h. let q = lv.begun in let p = f h in omega arith);
    most = (let q = lv.begun in omega arith);
    locals = locals_alike refl refl refl refl refl refl refl lv.locals;
  }

  moved_begun : {A : Type 0} (b : ℕ) (d : Bool) (r : Out A) → r.text ≡ [] → r.kept ≡ 0 → Moved (world i x l w t st) (world i x l w t (begun_s b d st)) r
  moved_begun b d r et ek =
      let a = moved_none (world i x l w t st) r.state r.value in
      record { store = refl; front = rw et a.front; back = omega arith; rest = refl; aside = refl; depth = refl; trail = λ _. refl; stay = locals_same refl refl refl refl; outs = record { text_up = omega arith; list_up = omega arith; text_rest = refl; list_rest = refl } }

  pub runs_entered : {u v : World} {r : Progress} (before m : M Done) → st.dirty ≡ false → st.begun < 100 → r ≡ begun_s (st.begun + 1) st.dirty st
      → Acts before (world i x l w t r) u → Kept u v → (Stays (world i x l w t r) u → Runs m u v) → Runs (entered before m) (world i x l w t st) v
  unfolding entered enter enter_if only_if begun' max_placeables
  runs_entered {u} {v} {r} before m dn few er a kp h L s k lv =
      let w1 : World = world i x l w t r in
      let es : enter s ≡ begun' s = rw (lv.dirty ∙ dn, lt-ltb s.begun 100 (let q = lv.begun in omega arith)) in
      let er' : r ≡ begun_s (st.begun + 1) false st = er ∙ ap (λ (d : Bool). begun_s (st.begun + 1) d st) dn in
      let lu : Live L w1 (begun_state s false) (begun_m k) = subst (λ (q : Progress). Live L (world i x l w t q) (begun_state s false) (begun_m k)) (sym er') (live_begun (st.begun + 1) false refl (λ _. omega arith) (omega arith) lv) in
      let mu : Moved (world i x l w t st) w1 (begun' s) = subst (λ (q : Progress). Moved (world i x l w t st) (world i x l w t q) (begun' s)) (sym er') (moved_begun (st.begun + 1) false (begun' s) refl refl) in
      let rest : Runs (before >> (emit expand >> m)) w1 v = runs_then a.runs kp (λ q. runs_then (runs_expand u) kp (λ _. h q)) in
      subst (λ (o : Out Done). Ended L (world i x l w t st) v o k) (sym (bind_at enter begun' (λ go. only_if go (before >> (emit expand >> m))) s es))
      (ended_then begun' (λ go. only_if go (before >> (emit expand >> m))) L s k (ended (begun_m k) (exec_one L k) lu refl mu) (kept_then a.kept kp) (λ k' l' mv. rest L _ k' l'))

  pub runs_full : {v : World} (before m : M Done) → st.dirty ≡ false → st.begun ≡ 100 → Acts (emit (report too_many_placeables)) (world i x l w t (begun_s 101 true st)) v → Runs (entered before m) (world i x l w t st) v
  unfolding entered enter enter_if only_if full' emit max_placeables
  runs_full {v} before m dn full h L s k lv =
      let es : enter s ≡ full' s = rw (lv.dirty ∙ dn, le-ltb s.begun 100 (let q = lv.begun in omega arith)) in
      subst (λ (o : Out Done). Ended L (world i x l w t st) v o k) (sym (bind_at enter full' (λ go. only_if go (before >> (emit expand >> m))) s es))
      (ended_then full' (λ go. only_if go (before >> (emit expand >> m))) L s k
      (go (h.runs L (begun_state s true) (begun_m k) (live_begun 101 true (omega arith) (λ e. absurd (true≢false e)) (omega arith) lv))) (kept_same v) (λ k' l' mv. runs_ret tt v L _ k' l'))
    where
      go : Ended L (world i x l w t (begun_s 101 true st)) v (emit (report too_many_placeables) (begun_state s true)) (begun_m k) → Ended L (world i x l w t st) v (full' s) k
      go (ended k' e lv n a) = ended k' (exec_begin L _ k ∙ e) lv n (record { store = a.store; front = a.front; back = a.back; rest = a.rest; aside = a.aside; depth = a.depth; trail = a.trail; stay = stay_on a.stay; outs = record { text_up = a.outs.text_up; list_up = a.outs.list_up; text_rest = a.outs.text_rest; list_rest = a.outs.list_rest } })
        where
          stay_on : LocalsStay (begun_s 101 true st) v.st → LocalsStay st v.st
          stay_on (locals_same e₀ e₁ e₂ e₃) = locals_same e₀ e₁ e₂ e₃
          stay_on (locals_cleared c) = locals_cleared c
      go (stopped n e z r) = stopped n (exec_begin L _ k ∙ e) z r

  pub runs_idle : (before m : M Done) → st.dirty ≡ true → Runs (entered before m) (world i x l w t st) (world i x l w t st)
  unfolding entered enter enter_if only_if idle'
  runs_idle before m dt L s k lv =
      let es : enter s ≡ idle' s = rw (lv.dirty ∙ dt) in
      subst (λ (o : Out Done). Ended L (world i x l w t st) (world i x l w t st) o k) (sym (bind_at enter idle' (λ go. only_if go (before >> (emit expand >> m))) s es))
      (ended_then idle' (λ go. only_if go (before >> (emit expand >> m))) L s k (ended_none L (world i x l w t st) s k false lv) (kept_same _) (λ k' l' mv. runs_ret tt _ L _ k' l'))

-- an element
module _ (e : Env) (left : ℕ) (iso : Bool) (at : ℕ) where
  pub element_over : (w : World) → ((refused_of w.st) ≡ 0 → ⊥) → ElementAt e left iso at w w
  element_over w h = record { kept = kept_same w; runs = λ u y f k n t here. runs_over _ w h }

  pub element_none : (w : World) → byte_at e.store at ≡ bad → ElementAt e left iso at w w
  element_none w h = record { kept = kept_same w; runs = λ u y f k. element_elim (expression left) e.store at k (λ p b hb hs ey. never h hb) (λ p z hb hz ey. never h hb) }

  pub element_dirty : (i x l w t : List ℕ) (st : Progress) → st.dirty ≡ true → ElementAt e left iso at (world i x l w t st) (world i x l w t st)
  unfolding write_element only_if
  element_dirty i x l w t st h = record {
    kept = kept_same _;
    runs = λ u y f k n tr here.
        element_elim (expression left) e.store at k
        (λ p b hb hs ey. runs_as (ap (λ (z : Element). write_element (setting_of e u) (find_of e u) (cross_of e u n) tr z iso) ey) (runs_dirty (λ d. only_if (not d) (write b)) true h (kept_same _) (runs_ret tt _)))
        (λ p z hb hz ey. runs_as (ap (λ (z : Element). write_element (setting_of e u) (find_of e u) (cross_of e u n) tr z iso) ey) (runs_idle i x l w t st _ _ h));
  }

  module _ (tag p : ℕ) (hb : byte_at e.store at ≡ got tag p) where
    pub element_text_none : (w : World) → tag ≡ 1 → str_at e.store p ≡ bad → ElementAt e left iso at w w
    element_text_none w h g = record {
      kept = kept_same w;
      runs = λ u y f k. element_elim (expression left) e.store at k
          (λ p' b hb' hs ey. both hb hb' (λ _ ep. never (subst (λ (j : ℕ). str_at e.store j ≡ bad) ep g) (text_str e.store p' hs))) (λ p z hb' hz ey. both hb hb' (λ et _. absurd (omega arith)));
    }

    pub element_text : {b : Bytes} {i : ℕ} {w v : World} → tag ≡ 1 → str_at e.store p ≡ got b i → w.st.dirty ≡ false → Acts (write b) w v → ElementAt e left iso at w v
    unfolding write_element only_if
    element_text {b} {i} {w} {v} h g dn a = record {
      kept = a.kept;
      runs = λ u y f k n tr here. element_elim (expression left) e.store at k
          (λ p' b' hb' hs ey. both hb hb' (λ _ ep. both (subst (λ (j : ℕ). str_at e.store j ≡ got b i) ep g) (text_str e.store p' hs) (λ eb _.
          runs_as (ap (λ (z : Element). write_element (setting_of e u) (find_of e u) (cross_of e u n) tr z iso) (ey ∙ ap (λ (q : Bytes). Element.text q) (sym eb)))
          (runs_dirty (λ d. only_if (not d) (write b)) false dn a.kept a.runs))))
          (λ p z hb' hz ey. both hb hb' (λ et _. absurd (omega arith)));
    }

    pub element_far : (w : World) → w.st.dirty ≡ false → 100 < w.st.begun → ElementAt e left iso at w w
    element_far w dn h = record { kept = kept_same w; runs = λ u y f k n tr here L s m lv. absurd (let a = lv.few (lv.dirty ∙ dn) in let b = lv.begun in omega arith) }

    module _ (x l w t : List ℕ) (st : Progress) (n1 : tag ≡ 1 → ⊥) (z : (refused_of st) ≡ 0) (dn : st.dirty ≡ false) where
      pub element_full : {l' : List ℕ} {r : Progress} → st.begun ≡ 100 → TooMany l st l' r → ElementAt e left iso at (world e.store x l w t st) (world e.store x l' w t r)
      unfolding write_element
      element_full full a = record {
        kept = record { begun = (let q = (a.acts e.store x w t).kept.begun in omega arith); over = λ f. absurd (f z) };
        runs = λ u y f k n tr here. element_elim (expression left) e.store at k
            (λ p' b' hb' hs ey. both hb hb' (λ et _. absurd (n1 et)))
            (λ p y' hb' hz ey. runs_as (ap (λ (z : Element). write_element (setting_of e u) (find_of e u) (cross_of e u n) tr z iso) ey) (runs_full e.store x l w t st _ _ dn full (a.acts e.store x w t)));
      }

      pub element_placeable : {x1 w1 : List ℕ} {s1 s2 : Progress} {x3 l3 w3 t3 : List ℕ} {s3 : Progress} {x4 w4 : List ℕ} {s4 : Progress} {v : World} {marks : Bool}
          → st.begun < 100 → s1 ≡ begun_s (st.begun + 1) st.dirty st
          → ((d : ℕ) (y : Expression) (f : ℕ) → expression d e.store p ≡ got y f → marks ≡ (iso && not (bare y)))
          → Acts (mark marks fsi) (world e.store x l w t s1) (world e.store x1 l w1 t s2)
          → ExpressionAt e left p (world e.store x1 l w1 t s2) (world e.store x3 l3 w3 t3 s3)
          → CutAt e.store p x3 w3 s3 x4 w4 s4
          → Acts (mark marks pdi) (world e.store x4 l3 w4 t3 s4) v
          → ElementAt e left iso at (world e.store x l w t st) v
      unfolding write_element
      element_placeable {x1} {w1} {s1} {s2} {x3} {l3} {w3} {t3} {s3} {x4} {w4} {s4} {v} {marks} few es1 hm a h c b =
          let k1 : st.begun ≤ s1.begun = (let i = ap (λ (o : Progress). o.begun) es1 in omega arith) in
          let k34 = kept_then (c.kept l3 t3) b.kept in
          let k24 = kept_then h.kept k34 in
          let k14 = kept_then a.kept k24 in
          record {
            kept = record { begun = (let i = k14.begun in omega arith); over = λ f. absurd (f z) };
            runs = λ u y f k n tr here. element_elim (expression left) e.store at k
                (λ p' b' hb' hs ey. both hb hb' (λ et _. absurd (n1 et)))
                (λ p' y' hb' hy ey. both hb hb' (λ _ ep.
                let hy' : expression left e.store p ≡ got y' f = subst (λ (j : ℕ). expression left e.store j ≡ got y' f) (sym ep) hy in
                let em : marks ≡ (iso && not (bare y')) = hm left y' f hy' in
                let here1 : Here e (world e.store x l w t s1) 0 n tr = record {
                  on = here.on ∙ ap (λ (o : Progress). trail_of e.store t o.depth) (sym es1);
                  fuel = (let i = here.fuel in let j = ap (λ (o : Progress). o.begun) es1 in omega arith);
                  room = (let i = here.room in let j = ap (λ (o : Progress). o.begun) es1 in let j2 = ap (λ (o : Progress). o.depth) es1 in omega arith);
                  same = refl;
                } in
                runs_as (ap (λ (z : Element). write_element (setting_of e u) (find_of e u) (cross_of e u n) tr z iso) ey
                ∙ ap (λ (o : Bool). entered (mark o fsi) (write_expression (setting_of e u) (find_of e u) (cross_of e u n) tr y' >> (cut_short (braced (error_of y')) >> mark o pdi))) (sym em))
                (runs_entered e.store x l w t st _ _ dn few es1 a k24 (λ q.
                let here2 = here_stays here1 a.kept q in
                runs_then (h.runs u y' f hy' n tr here2) k34 (λ _.
                runs_then (c.runs l3 t3 left y' f hy') b.kept (λ _. b.runs))))));
          }
