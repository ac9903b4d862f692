-- The arguments of a call, positional and named; and the call itself.
use Rattle.state.specs.Progress.{refused_of}
use Rattle.records.specs.Relations.Answer.{Next}
use Rattle.std.specs.Prelude.{Some, None}
use mathlib.Core.Path.{◌≡◌, refl, ap, sym, subst, ◌∙◌}
use mathlib.Core.List.{List, [], ◌∷◌}
use mathlib.Core.Bool.{Bool, true, false}
use mathlib.Core.Option.{Option, none, some}
use Prim.Native.Nat.{ℕ, zero, suc, ◌-◌, ◌≤◌, ◌<◌}
use native.Mathlib.Omega.{arith}
use Rattle.numbers.specs.Value.{Value, number_function}
use Rattle.records.specs.Got.{got, bad}
use Rattle.records.specs.Bytes.{part, number_at, span_at}
use Rattle.records.specs.Tree.{Named, Inline, Inlines, no_inline, and}
use Rattle.records.specs.Decode.{many, id_at, named_at, inlines_at, arguments_at, inline}
use Rattle.records.specs.Images.{Entry, Store, store_of}
use Rattle.records.proofs.Views.{both, never, id_elim, many_cons, many_nil, arguments_elim, named_arguments_elim}
use Rattle.entries.specs.Lookup.{Holder, find_in}
use Rattle.entries.specs.Relations.Meets.{HolderAt}
use Rattle.entries.specs.declared.Holder.{Holder as Held}
use Rattle.std.specs.Prelude as rust
use Rattle.entries.specs.declared.Holder.TheVariants as found
use Rattle.resolution.specs.Effect.{Bytes, unfound, State, M, ret, ◌>>=◌, ◌>>◌, emit, release}
use Rattle.resolution.specs.Exec.{Machine, Limits}
use Rattle.resolution.specs.Resolve.{Trail, named_values, Given, call, call_function, resolve_inline, get_arguments}
use Rattle.state.specs.declared.Progress.{Progress}
use Rattle.values.specs.declared.Value as CodeValue
use Rattle.values.specs.declared.Value.TheVariants as val
use Rattle.resolver.specs.Relations.Meets.{World, world, Live, Ended, ended, stopped, Runs, Kept, Acts, NamedIn, named_texts, Holds, in_store, in_args, in_work, a_number, is_nothing, a_wrong, Env, Setup, setting_of, find_of, cross_of}
use Rattle.resolver.specs.Relations.Leaves.{FirstIs, first_none, first_number, first_other, ResultIs, has_result, is_no_function, NamedAt, NumberAt}
use Rattle.resolver.specs.Relations.Members.{Here, ValueAt, positional_values, PositionalAt, CalledAt}
use Rattle.state.specs.Setters.{back_s}
use Rattle.resolver.proofs.Single.Laws.{stays, here_stays, kept_same, kept_then, runs_ret, runs_then, ended_then}
use Rattle.resolver.proofs.Single.Steps.{runs_as}
use Rattle.resolver.proofs.Single.Release.{release_back, release_over, runs_stopped}
use Rattle.resolver.proofs.Binds.{look_found, look_lost, given, arguments_then}
use Rattle.resolver.proofs.Single.Values.{named_value}
use Rattle.resolver.proofs.References.{known_message, known_term, known_function, known_nothing}

-- what was refused stays so: where a later state is not, an earlier one was not
kept_go : {w v : World} → Kept w v → (refused_of v.st) ≡ 0 → (refused_of w.st) ≡ 0
kept_go {w} {v} k z = go (refused_of w.st) refl
  where
    go : (n : ℕ) → (refused_of w.st) ≡ n → (refused_of w.st) ≡ 0
    go zero e = e
    go (suc n) e = let q = k.over (λ o. omega arith) in absurd (omega arith)

-- positional arguments, one after the other, and where they end
pub record InlinesAt (e : Env) (left k at : ℕ) (w v : World) (end : ℕ) : Type 0 where
  pub kept : Kept w v
  pub runs : (u : Setup e) (xs : Inlines) (f : ℕ) → inlines_at (inline left) k e.store at ≡ got xs f
      → (n : ℕ) (t : Trail) → Here e w 0 n t → Runs (positional_values (setting_of e u) (find_of e u) (cross_of e u n) t xs) w v
  pub ends : (xs : Inlines) (f : ℕ) → inlines_at (inline left) k e.store at ≡ got xs f → end ≡ f

module _ (e : Env) (left : ℕ) where
  pub inlines_none : (i p : ℕ) (w : World) → i ≤ 0 → InlinesAt e left i p w w p
  unfolding inlines_at positional_values
  inlines_none i p w z = record {
    kept = kept_same w;
    runs = λ u xs f h n t here. many_nil no_inline and (inline left) e.store i p z h (λ el _.
        runs_as (ap (positional_values (setting_of e u) (find_of e u) (cross_of e u n) t) el) (runs_ret [] w));
    ends = λ xs f h. many_nil no_inline and (inline left) e.store i p z h (λ _ ef. sym ef);
  }

  module _ (i p : ℕ) {r : Next} {w u : World} {c : CodeValue.Value} (z : 0 < i) (h : ValueAt e left p w u c) (past : (a : Inline) (f : ℕ) → inline left e.store p ≡ got a f → r ≡ Some f) where
    pub inlines_more : {q : ℕ} → r ≡ Some q → (v : World) (end : ℕ) → InlinesAt e left (i - 1) q u v end → InlinesAt e left i p w v end
    unfolding inlines_at positional_values
    inlines_more {q} er v end g = record {
      kept = kept_then h.kept g.kept;
      runs = λ y xs f k n t here L s m lv.
          many_cons no_inline and (inline left) e.store i p z k (λ a j l ha hl el.
          let eq : q ≡ j = (let o = past a j ha in cc) in
          let ql : inlines_at (inline left) (i - 1) e.store q ≡ got l f = subst (λ (b : ℕ). inlines_at (inline left) (i - 1) e.store b ≡ got l f) (sym eq) hl in
          let R = resolve_inline (setting_of e y) (find_of e y) (cross_of e y n) t a in
          let P = positional_values (setting_of e y) (find_of e y) (cross_of e y n) t l in
          subst (λ (b : Inlines). Ended L w v (positional_values (setting_of e y) (find_of e y) (cross_of e y n) t b s) m) (sym el)
          (ended_then R (λ x. (P >>= λ vs. ret (x ∷ vs))) L s m (h.runs y a j ha n t here L s m lv) g.kept (λ m1 l1 mv.
          ended_then P (λ vs. ret ((R s).value ∷ vs)) L (R s).state m1 (g.runs y l f ql n t (here_stays here h.kept (stays mv)) L (R s).state m1 l1) (kept_same v) (λ m2 l2 mv2.
          runs_ret ((R s).value ∷ (P (R s).state).value) v L (P (R s).state).state m2 l2))));
      ends = λ xs f k. many_cons no_inline and (inline left) e.store i p z k (λ a j l ha hl el.
          let eq : q ≡ j = (let o = past a j ha in cc) in
          g.ends l f (subst (λ (b : ℕ). inlines_at (inline left) (i - 1) e.store b ≡ got l f) (sym eq) hl));
    }

    -- nothing stands there: never, where the arguments were read
    pub inlines_stop : r ≡ None → (end : ℕ) → InlinesAt e left i p w u end
    unfolding inlines_at
    inlines_stop er end = record {
      kept = h.kept;
      runs = λ y xs f k n t here. many_cons no_inline and (inline left) e.store i p z k (λ a j l ha hl el. let o = past a j ha in let z : ◌≡◌ {A = ℕ} 0 1 = cc in absurd (omega arith));
      ends = λ xs f k. many_cons no_inline and (inline left) e.store i p z k (λ a j l ha hl el. let o = past a j ha in let z : ◌≡◌ {A = ℕ} 0 1 = cc in absurd (omega arith));
    }

-- a value that the code holds, as the first of several
holds_first : {i a w : List ℕ} {low : ℕ} {c : CodeValue.Value} {v : Value} (l : List Value) → Holds i a w low c v → FirstIs c (v ∷ l)
holds_first {v = v} l (in_store b e ec _ _ ev) = first_other v l refl (λ n q. let z : ◌≡◌ {A = ℕ} 0 1 = cc in omega arith) (λ m q. let z : ◌≡◌ {A = ℕ} 0 1 = cc in omega arith)
holds_first {v = v} l (in_args b e ec _ _ ev) = first_other v l refl (λ n q. let z : ◌≡◌ {A = ℕ} 0 1 = cc in omega arith) (λ m q. let z : ◌≡◌ {A = ℕ} 0 1 = cc in omega arith)
holds_first {v = v} l (in_work b e ec _ _ _ ev) = first_other v l refl (λ n q. let z : ◌≡◌ {A = ℕ} 0 1 = cc in omega arith) (λ m q. let z : ◌≡◌ {A = ℕ} 0 1 = cc in omega arith)
holds_first {v = v} l (a_number n ec rg ev) = first_number n l (ap (λ (x : Value). x ∷ l) ev) ec rg
holds_first {v = v} l (is_nothing ec ev) = first_other v l refl (λ n q. let z : ◌≡◌ {A = ℕ} 0 1 = cc in omega arith) (λ m q. let z : ◌≡◌ {A = ℕ} 0 1 = cc in omega arith)
holds_first {v = v} l (a_wrong ec ev) = first_other v l refl (λ n q. let z : ◌≡◌ {A = ℕ} 0 1 = cc in omega arith) (λ m q. let z : ◌≡◌ {A = ℕ} 0 1 = cc in omega arith)

-- the first value, where i of n arguments are left: none was resolved yet, or the first one was
pub data Taken (e : Env) (left n start : ℕ) (w : World) (i p : ℕ) (first : CodeValue.Value) (now : World) : Type 0 where
  none_yet : i ≡ n → p ≡ start → now ≡ w → first ≡ val.Wrong → Taken e left n start w i p first now
  one_is : i < n → (u : World) → ValueAt e left start w u first → Kept u now → Taken e left n start w i p first now

-- no more are left than there are
pub taken_most : {e : Env} {left n start : ℕ} {w : World} {i p : ℕ} {first : CodeValue.Value} {now : World} → Taken e left n start w i p first now → i ≤ n
taken_most (none_yet a b c d) = omega arith
taken_most (one_is h u v k) = omega arith

module _ {e : Env} {left n start : ℕ} {w : World} {i p : ℕ} {first : CodeValue.Value} {now u : World} {x : CodeValue.Value} where
  pub taken_first : (q : ℕ) → 0 < i → i ≡ n → Taken e left n start w i p first now → ValueAt e left p now u x → Taken e left n start w (i - 1) q x u
  taken_first q z ei (none_yet _ ep ew ef) h =
      one_is (omega arith) u (subst (λ (j : ℕ). ValueAt e left j w u x) ep (subst (λ (o : World). ValueAt e left p o u x) ew h)) (kept_same u)
  taken_first q z ei (one_is lt v k kp) h = absurd (omega arith)

  pub taken_later : (q : ℕ) → 0 < i → (i ≡ n → ⊥) → Taken e left n start w i p first now → ValueAt e left p now u x → Taken e left n start w (i - 1) q first u
  taken_later q z ni (none_yet ei _ _ _) h = absurd (ni ei)
  taken_later q z ni (one_is lt v k kp) h = one_is (omega arith) v k (kept_then kp h.kept)

module _ (e : Env) (left at : ℕ) where
  pub positional_none : (w : World) (c : CodeValue.Value) (p : ℕ) → number_at 2 e.store at ≡ bad → PositionalAt e left at w w c p
  positional_none w c p h = record { kept = kept_same w; runs = λ u k c xs f hn. never h hn; ends = λ k c xs f hn. never h hn; first_is = λ u k c xs f hn. never h hn }

  -- all were resolved, or one does not stand where it should
  pub positional_all : {n start i p q : ℕ} {w v : World} {first : CodeValue.Value} → number_at 2 e.store at ≡ got n start → (i ≡ n → n ≤ 0) → Taken e left n start w i p first v
      → InlinesAt e left n start w v q → PositionalAt e left at w v first q
  unfolding inlines_at positional_values ◌>>=◌ ret
  positional_all {n} {start} {i} {p} {q} {w} {v} {first} hn empty tk g = record {
    kept = g.kept;
    runs = λ u k c xs f hk hx. both hn hk (λ ek ec. g.runs u xs f (at_start hx ek ec));
    ends = λ k c xs f hk hx. both hn hk (λ ek ec. g.ends xs f (at_start hx ek ec));
    first_is = λ u k c xs f hk hx m t here L s o lv z. both hn hk (λ ek ec. go tk u xs f (at_start hx ek ec) m t here L s o lv z);
  }
    where
      at_start : {k c : ℕ} {xs : Inlines} {f : ℕ} → inlines_at (inline left) k e.store c ≡ got xs f → n ≡ k → start ≡ c → inlines_at (inline left) n e.store start ≡ got xs f
      at_start hx ek ec = rw (ek, ec) hx

      go : Taken e left n start w i p first v → (u : Setup e) (xs : Inlines) (f : ℕ) → inlines_at (inline left) n e.store start ≡ got xs f → (m : ℕ) (t : Trail) → Here e w 0 m t
          → (L : Limits) (s : State) (o : Machine) → Live L w s o → (refused_of v.st) ≡ 0 → FirstIs first (positional_values (setting_of e u) (find_of e u) (cross_of e u m) t xs s).value
      go (none_yet ei _ _ ef) u xs f hx m t here L s o lv z = many_nil no_inline and (inline left) e.store n start (empty ei) hx (λ el _.
          first_none (ap (λ (b : Inlines). (positional_values (setting_of e u) (find_of e u) (cross_of e u m) t b s).value) el) ef)
      go (one_is lt u1 h kp) u xs f hx m t here L s o lv z = many_cons no_inline and (inline left) e.store n start (omega arith) hx (λ a j l ha hl el.
          subst (λ (b : Inlines). FirstIs first (positional_values (setting_of e u) (find_of e u) (cross_of e u m) t b s).value) (sym el)
          (holds_first _ (h.holds u a j ha m t here L s o lv (kept_go kp z))))

-- arguments at `at`, of which the positional ones were resolved
module _ (e : Env) (left at : ℕ) (w u1 : World) (first : CodeValue.Value) (end : ℕ) (pos : PositionalAt e left at w u1 first end) where
  args_elim : {C : Type 0} {xs : Inlines} {ns : Named} {f : ℕ} → arguments_at (inline left) e.store at ≡ got (xs, ns) f
      → ((k c q m r : ℕ) → number_at 2 e.store at ≡ got k c → inlines_at (inline left) k e.store c ≡ got xs q → number_at 2 e.store end ≡ got m r → many [] ◌∷◌ m named_at e.store r ≡ got ns f → C) → C
  args_elim {C} {xs} {ns} {f} h c = arguments_elim (inline left) e.store at h (λ k p xs' q m r ns' hk hx hm hr ew.
      let ex : xs ≡ xs' = ap (λ (o : Inlines × Named). o.0) ew in
      let en : ns ≡ ns' = ap (λ (o : Inlines × Named). o.1) ew in
      named_arguments_elim m e.store r hr (λ hr' _.
      c k p q m r hk (rw ex hx) (subst (λ (j : ℕ). number_at 2 e.store j ≡ got m r) (sym (pos.ends k p xs' q hk hx)) hm) (rw en hr')))

  -- refused while they were resolved
  pub arguments_stopped : {B : Type 0} (F : Given → M B) → ((refused_of u1.st) ≡ 0 → ⊥) → (u : Setup e) (xs : Inlines) (ns : Named) (f : ℕ) → arguments_at (inline left) e.store at ≡ got (xs, ns) f
      → (n : ℕ) (t : Trail) → Here e w 0 n t → Runs (get_arguments (setting_of e u) (find_of e u) (cross_of e u n) t xs ns >>= F) w u1
  arguments_stopped F z u xs ns f h n t here = args_elim h (λ k c q m r hk hx hm hr.
      runs_as (arguments_then (setting_of e u) (find_of e u) (cross_of e u n) t ns F xs) (runs_stopped _ _ z (pos.runs u k c xs q hk hx n t here)))

  -- no named ones stand there: never
  pub arguments_unnamed : {C : Type 0} {xs : Inlines} {ns : Named} {f : ℕ} → number_at 2 e.store end ≡ bad → arguments_at (inline left) e.store at ≡ got (xs, ns) f → C
  arguments_unnamed b h = args_elim h (λ k c q m r hk hx hm hr. never b hm)

-- the named ones, then what follows
module _ (e : Env) (left at : ℕ) (w : World) (x l w1 t : List ℕ) (s1 : Progress) (first : CodeValue.Value) (end : ℕ) (pos : PositionalAt e left at w (world e.store x l w1 t s1) first end)
    (m named : ℕ) (hm : number_at 2 e.store end ≡ got m named) (w2 : List ℕ) (s2 : Progress) (nm : NamedAt e.store named m w1 s1 w2 s2) where
  abbrev pub mid : World
  mid = world e.store x l w1 t s1

  abbrev pub after : World
  after = world e.store x l w2 t s2

  pub kept_named : Kept w after
  kept_named = kept_then pos.kept (nm.kept x l t)

  module _ {B : Type 0} (F : Given → M B) {v : World} (kp : Kept after v) (u : Setup e) (xs : Inlines) (ns : Named) (f : ℕ) (h : arguments_at (inline left) e.store at ≡ got (xs, ns) f)
      (n : ℕ) (tr : Trail) (here : Here e w 0 n tr) where
    P : M (List Value)
    P = positional_values (setting_of e u) (find_of e u) (cross_of e u n) tr xs

    args_named : {C : Type 0} → ((k c q : ℕ) → number_at 2 e.store at ≡ got k c → inlines_at (inline left) k e.store c ≡ got xs q → many [] ◌∷◌ m named_at e.store named ≡ got ns f → C) → C
    args_named c = args_elim e left at w mid first end pos h (λ k c' q m' r hk hx hm' hr. both hm hm' (λ em en. c k c' q hk hx (rw (em, en) hr)))

    -- what is known past the named ones
    pub arguments_runs : ((vs : List Value) (L : Limits) (s : State) (k : Machine) → Live L after s k → FirstIs first vs → NamedIn w2 s2.back s1.back ns
        → many [] ◌∷◌ m named_at e.store named ≡ got ns f → Here e after 0 n tr → Ended L after v (F (given vs (named_texts ns)) s) k)
        → Runs (get_arguments (setting_of e u) (find_of e u) (cross_of e u n) tr xs ns >>= F) w v
    unfolding P
    arguments_runs go = args_named (λ k c q hk hx hr.
        runs_as (arguments_then (setting_of e u) (find_of e u) (cross_of e u n) tr ns F xs) (λ L s o lv.
        ended_then P (λ vs. (named_values ns >>= λ y. F (given vs y))) L s o (pos.runs u k c xs q hk hx n tr here L s o lv) (kept_then (nm.kept x l t) kp) (λ o1 l1 mv1.
        ended_then (named_values ns) (λ y. F (given (P s).value y)) L (P s).state o1 (nm.runs ns f hr x l t L (P s).state o1 l1) kp (λ o2 l2 mv2.
        subst (λ (y : List (Bytes × Value)). Ended L after v (F (given (P s).value y) (named_values ns (P s).state).state) o2) (sym (named_value ns (P s).state))
        (go (P s).value L (named_values ns (P s).state).state o2 l2
        (pos.first_is u k c xs q hk hx n tr here L s o lv l1.go)
        (nm.named ns f hr x l t L (P s).state o1 l1 l2.go) hr
        (here_stays (here_stays here pos.kept (stays mv1)) (nm.kept x l t) (stays mv2)))))))

    -- the value that it gives
    pub arguments_value : {C : Type 0} (L : Limits) (s : State) (o : Machine) → Live L w s o → (refused_of s1) ≡ 0 → (refused_of s2) ≡ 0
        → ((vs : List Value) (q : State) → ((get_arguments (setting_of e u) (find_of e u) (cross_of e u n) tr xs ns >>= F) s).value ≡ (F (given vs (named_texts ns)) q).value
        → FirstIs first vs → NamedIn w2 s2.back s1.back ns → many [] ◌∷◌ m named_at e.store named ≡ got ns f → C) → C
    unfolding P ◌>>=◌
    arguments_value {C} L s o lv z1 z2 c = args_named (λ k c' q hk hx hr. go k c' q hk hx hr (pos.runs u k c' xs q hk hx n tr here L s o lv))
      where
        go : (k c' q : ℕ) → number_at 2 e.store at ≡ got k c' → inlines_at (inline left) k e.store c' ≡ got xs q → many [] ◌∷◌ m named_at e.store named ≡ got ns f → Ended L w mid (P s) o → C
        go k c' q hk hx hr (ended o1 ex l1 nn mv) = c (P s).value (named_values ns (P s).state).state
            (ap (λ (y : M B). (y s).value) (arguments_then (setting_of e u) (find_of e u) (cross_of e u n) tr ns F xs)
            ∙ ap (λ (y : List (Bytes × Value)). (F (given (P s).value y) (named_values ns (P s).state).state).value) (named_value ns (P s).state))
            (pos.first_is u k c' xs q hk hx n tr here L s o lv z1) (nm.named ns f hr x l t L (P s).state o1 l1 z2) hr
        go k c' q hk hx hr (stopped j ex nz r) = absurd (nz (sym r ∙ z1))

-- a call, its Id at `at`
module _ (e : Env) (left at : ℕ) where
  pub called_none : (w : World) (b : Bool) (c : CodeValue.Value) → span_at e.store at ≡ bad → CalledAt e left at w w b c
  called_none w b c h = record {
    kept = kept_same w;
    runs = λ u i p xs ns f hi. id_elim e.store at hi (λ q hs _ _. never h hs);
    result = λ u i p xs ns f hi. id_elim e.store at hi (λ q hs _ _. never h hs);
  }

  module _ {a p : ℕ} (sp : span_at e.store at ≡ got a p) where
    abbrev id_of : Bytes
    id_of = part e.store a (p - a)

    call_id : {C : Type 0} {i : Bytes} {q : ℕ} → id_at e.store at ≡ got i q → (i ≡ id_of → p ≡ q → C) → C
    call_id {C} {i} {q} hi c = id_elim e.store at hi (λ b hs et _. both sp hs (λ ea ep.
        c (et ∙ ap (λ (j : ℕ). part e.store j (q - j)) (sym ea) ∙ ap (λ (j : ℕ). part e.store a (j - a)) (sym ep)) ep))

    at_id : {xs : Inlines} {ns : Named} {q f : ℕ} → p ≡ q → arguments_at (inline left) e.store q ≡ got (xs, ns) f → arguments_at (inline left) e.store p ≡ got (xs, ns) f
    at_id ep h = rw ep h

    module _ (w : World) {u1 : World} {first : CodeValue.Value} {end : ℕ} (pos : PositionalAt e left p w u1 first end) where
      pub called_stopped : (b : Bool) (c : CodeValue.Value) → ((refused_of u1.st) ≡ 0 → ⊥) → CalledAt e left at w u1 b c
      called_stopped b c z = record {
        kept = pos.kept;
        runs = λ u i q xs ns f hi ha n t here. call_id hi (λ ei ep.
            release_over w u1 _ z (arguments_stopped e left p w u1 first end pos (λ g. call_function (find_of e u) i g) z u xs ns f (at_id ep ha) n t here));
        result = λ u i q xs ns f hi ha n t here L s m lv r. absurd (z r);
      }

      pub called_unnamed : (b : Bool) (c : CodeValue.Value) → number_at 2 e.store end ≡ bad → CalledAt e left at w u1 b c
      called_unnamed b c h = record {
        kept = pos.kept;
        runs = λ u i q xs ns f hi ha n t here. call_id hi (λ ei ep. arguments_unnamed e left p w u1 first end pos h (at_id ep ha));
        result = λ u i q xs ns f hi ha n t here L s m lv r. call_id hi (λ ei ep. arguments_unnamed e left p w u1 first end pos h (at_id ep ha));
      }

    module _ (w : World) {x l w1 t : List ℕ} {s1 : Progress} {first : CodeValue.Value} {end : ℕ} (pos : PositionalAt e left p w (world e.store x l w1 t s1) first end)
        {m named : ℕ} (hm : number_at 2 e.store end ≡ got m named) {w2 : List ℕ} {s2 : Progress} (nm : NamedAt e.store named m w1 s1 w2 s2) where
      abbrev known : World
      known = world e.store x l w2 t s2

      pub called_halted : (b : Bool) (c : CodeValue.Value) → ((refused_of s2) ≡ 0 → ⊥) → CalledAt e left at w known b c
      called_halted b c z = record {
        kept = kept_named e left p w x l w1 t s1 first end pos m named hm w2 s2 nm;
        runs = λ u i q xs ns f hi ha n tr here. call_id hi (λ ei ep.
            release_over w known _ z (arguments_runs e left p w x l w1 t s1 first end pos m named hm w2 s2 nm (λ g. call_function (find_of e u) i g) (kept_same known) u xs ns f (at_id ep ha) n tr here
            (λ vs L s k lv fi ni hr here2. absurd (z lv.go))));
        result = λ u i q xs ns f hi ha n tr here L s k lv r. absurd (z r);
      }

      module _ (z1 : (refused_of s1) ≡ 0) (z2 : (refused_of s2) ≡ 0) {h : rust.Option Held}
          (hold : (st : Store) (f : ℕ) → store_of e.store ≡ got st f → HolderAt e.store (find_in st.items (part e.store a (p - a))) h) where
        holder_of_law : (u : Setup e) {i : Bytes} → i ≡ id_of → HolderAt e.store (find_of e u i) h
        holder_of_law u ei = rw ei (hold u.held u.used u.held_at)

        -- what follows the arguments, freed
        called_by : {s3 r : Progress} {b : Bool} {c : CodeValue.Value} → r ≡ back_s w.st.back s3 → Kept known (world e.store x l w2 t s3)
            → ((u : Setup e) (i : Bytes) (ns : Named) (f : ℕ) → i ≡ id_of → (vs : List Value) (L : Limits) (s : State) (k : Machine) → Live L known s k → FirstIs first vs → NamedIn w2 s2.back s1.back ns
            → many [] ◌∷◌ m named_at e.store named ≡ got ns f → Ended L known (world e.store x l w2 t s3) (call_function (find_of e u) i (given vs (named_texts ns)) s) k)
            → ((u : Setup e) (i : Bytes) (ns : Named) (f : ℕ) → i ≡ id_of → (vs : List Value) (q : State) → FirstIs first vs → NamedIn w2 s2.back s1.back ns
            → many [] ◌∷◌ m named_at e.store named ≡ got ns f → (refused_of s3) ≡ 0 → ResultIs e.store e.given.args w2 r.back b c (call_function (find_of e u) i (given vs (named_texts ns)) q).value)
            → CalledAt e left at w (world e.store x l w2 t r) b c
        unfolding release
        called_by {s3} {r} {b} {c} er kp go val =
            let kw = kept_then (kept_named e left p w x l w1 t s1 first end pos m named hm w2 s2 nm) kp in
            record {
              kept = record { begun = (let o = kw.begun in let o2 = ap (λ (q : Progress). q.begun) er in omega arith); over = λ f. ap (λ (q : Progress). (refused_of q)) er ∙ kw.over f };
              runs = λ u i q xs ns f hi ha n tr here. call_id hi (λ ei ep.
                  release_back w (world e.store x l w2 t s3) _ er
                  (arguments_runs e left p w x l w1 t s1 first end pos m named hm w2 s2 nm (λ g. call_function (find_of e u) i g) kp u xs ns f (at_id ep ha) n tr here
                  (λ vs L s k lv fi ni hr here2. go u i ns f ei vs L s k lv fi ni hr)));
              result = λ u i q xs ns f hi ha n tr here L s k lv z. call_id hi (λ ei ep.
                  arguments_value e left p w x l w1 t s1 first end pos m named hm w2 s2 nm (λ g. call_function (find_of e u) i g) kp u xs ns f (at_id ep ha) n tr here L s k lv z1 z2
                  (λ vs q ev fi ni hr.
                  subst (λ (o : Option Value). ResultIs e.store e.given.args w2 r.back b c o) (sym ev)
                  (val u i ns f ei vs q fi ni hr (sym (ap (λ (o : Progress). (refused_of o)) er) ∙ z))));
            }

        -- the one function
        pub called_function : {s3 r : Progress} {c : CodeValue.Value} → h ≡ rust.Some found.Function → NumberAt e.store w2 s2 named m s1.back first s3 c → r ≡ back_s w.st.back s3
            → CalledAt e left at w (world e.store x l w2 t r) true c
        unfolding call_function call ◌>>◌ ◌>>=◌ ret
        called_function {s3} {r} {c} eh nb er = called_by er (nb.kept x l t)
            (λ u i ns f ei vs L s k lv fi ni hr. known_function (holder_of_law u ei) eh (λ eo.
            subst (λ (o : M (Option Value)). Ended L known (world e.store x l w2 t s3) (o s) k) (sym (look_found (find_of e u) i (λ o. call (given vs (named_texts ns)) o) Holder.function eo))
            (nb.runs ns f vs s2.back hr fi ni x l t L s k lv)))
            (λ u i ns f ei vs q fi ni hr z3. known_function (holder_of_law u ei) eh (λ eo.
            has_result (number_function vs (named_texts ns)) refl
            (ap (λ (o : M (Option Value)). (o q).value) (look_found (find_of e u) i (λ o. call (given vs (named_texts ns)) o) Holder.function eo))
            (nb.holds ns f vs s2.back hr fi ni e.given.args r.back z2 z3)))

        -- an entry is no function
        called_other : {r : Progress} → r ≡ back_s w.st.back s2 → ((u : Setup e) (i : Bytes) → i ≡ id_of → (y : Entry) × (find_of e u i ≡ some (Holder.entry y)))
            → CalledAt e left at w (world e.store x l w2 t r) false val.Wrong
        unfolding call_function call ret
        called_other {r} er is = called_by er (kept_same known)
            (λ u i ns f ei vs L s k lv fi ni hr.
            let y = is u i ei in
            subst (λ (o : M (Option Value)). Ended L known known (o s) k) (sym (look_found (find_of e u) i (λ o. call (given vs (named_texts ns)) o) (Holder.entry y.0) y.1)) (runs_ret none known L s k lv))
            (λ u i ns f ei vs q fi ni hr z3.
            let y = is u i ei in
            is_no_function refl refl (ap (λ (o : M (Option Value)). (o q).value) (look_found (find_of e u) i (λ o. call (given vs (named_texts ns)) o) (Holder.entry y.0) y.1)))

        pub called_message : {r : Progress} {q : ℕ} → h ≡ rust.Some (found.Message q) → r ≡ back_s w.st.back s2 → CalledAt e left at w (world e.store x l w2 t r) false val.Wrong
        called_message eh er = called_other er (λ u i ei. known_message (holder_of_law u ei) eh (λ y f eo ek hy. (y, eo)))

        pub called_term : {r : Progress} {q : ℕ} → h ≡ rust.Some (found.Term q) → r ≡ back_s w.st.back s2 → CalledAt e left at w (world e.store x l w2 t r) false val.Wrong
        called_term eh er = called_other er (λ u i ei. known_term (holder_of_law u ei) eh (λ y f eo ek hy. (y, eo)))

        -- nothing has the Id
        pub called_lost : {s3 r : Progress} → h ≡ rust.None → ((i x l w t : List ℕ) → Acts (emit unfound) (world i x l w t s2) (world i x l w t s3)) → r ≡ back_s w.st.back s3
            → CalledAt e left at w (world e.store x l w2 t r) false val.Wrong
        unfolding call_function call ret ◌>>◌ ◌>>=◌
        called_lost {s3} {r} eh c er =
            let c1 = c e.store x l w2 t in
            called_by er c1.kept
            (λ u i ns f ei vs L s k lv fi ni hr. known_nothing (holder_of_law u ei) eh (λ eo.
            subst (λ (o : M (Option Value)). Ended L known (world e.store x l w2 t s3) (o s) k) (sym (look_lost (find_of e u) i (λ o. call (given vs (named_texts ns)) o) eo))
            (runs_then c1.runs (kept_same (world e.store x l w2 t s3)) (λ _. runs_ret none (world e.store x l w2 t s3)) L s k lv)))
            (λ u i ns f ei vs q fi ni hr z3. known_nothing (holder_of_law u ei) eh (λ eo.
            is_no_function refl refl (ap (λ (o : M (Option Value)). (o q).value) (look_lost (find_of e u) i (λ o. call (given vs (named_texts ns)) o) eo))))
