-- Placeables begun, expanded, and the one report of a 101st.
use mathlib.Core.Path.{◌≡◌, refl, sym, ◌∙◌}
use mathlib.Core.List.{[], ◌∷◌, ◌++◌}
use mathlib.Core.Bool.{Bool, true, false}
use mathlib.Core.Option.{Option, none, some}
use Prim.Native.Nat.{ℕ, suc, ◌+◌, ◌-◌, ◌≤◌, min}
use native.Mathlib.Omega.{arith}
use lib.Dec.{ltb}
use borrow.Author.Tests.{ltb-true, ltb-false, lt-ltb, le-ltb}
use Rattle.records.specs.Tree.{Pattern}
use Rattle.records.specs.Errors.{Error, overriding, reference, no_value, missing_default, cyclic, too_many_placeables}
use Rattle.entries.specs.Lookup.{Holder, Find}
use Rattle.resolution.specs.Effect.{Bytes, Effect, report, expand, unfound, open_text, keep_text, free, Trace, State, M, Done, ret, ◌>>=◌, ◌>>◌, emit, write, is_dirty, get_locals, set_locals, max_placeables, enter_if, enter, only_if, entered, capture, release}
use Rattle.resolution.specs.Resolve.{Setting, Trail, look_for, look_up, resolve}
use Rattle.theorems.proofs.Walk.{Rel, Closed, Plain, r_resolve}
use Rattle.theorems.proofs.Tally.{is_begin, is_expand, is_over, tally, tally_append}

-- the states that a formatting passes through: at most 101 begun, and dirty from the 101st on
pub record Ok (s : State) : Type 0 where
  pub few : s.begun ≤ 101
  pub over : s.dirty ≡ ltb 100 s.begun

-- what a trace from one state to another says of placeables
pub record Counted (s : State) (t : Trace) (s' : State) : Type 0 where
  pub ok : Ok s'
  pub begins : tally is_begin t + s.begun ≡ s'.begun
  pub expands : tally is_expand t + min s.begun 100 ≡ min s'.begun 100
  pub overs : tally is_over t + (s.begun - 100) ≡ s'.begun - 100

abbrev pub Counts : Rel
Counts A m m' = (s : State) → Ok s → Counted s (m s).trace (m s).state

stays : (s : State) → Ok s → Counted s [] s
stays s o = record { ok = o; begins = omega arith; expands = omega arith; overs = omega arith }

follows : (a b : Trace) (s s₁ s₂ : State) → Counted s a s₁ → Counted s₁ b s₂ → Counted s (a ++ b) s₂
follows a b s s₁ s₂ h k = record {
  ok = k.ok;
  begins = omega (arith, tally_append is_begin a b);
  expands = omega (arith, tally_append is_expand a b);
  overs = omega (arith, tally_append is_over a b);
}

quiet : (e : Effect) → is_begin e ≡ 0 → is_expand e ≡ 0 → is_over e ≡ 0 → (s : State) → Ok s → Counted s (e ∷ []) s
quiet e p q r s o = record { ok = o; begins = omega arith; expands = omega arith; overs = omega arith }

counts_bind : {A B : Type 0} (m : M A) (f : A → M B) → Counts A m m → ((a : A) → Counts B (f a) (f a)) → Counts B (m >>= f) (m >>= f)
unfolding ◌>>=◌
counts_bind m f h k s o =
    let r : Counted s (m s).trace (m s).state = h s o in
    follows _ _ _ _ _ r (k (m s).value (m s).state r.ok)

-- the state of a placeable that is expanded, and of a 101st
pub ok_entered : (s : State) → ltb s.begun max_placeables ≡ true → Ok (record { begun = suc s.begun; dirty = false; locals = s.locals })
unfolding max_placeables
ok_entered s q =
    let h : suc s.begun ≤ 100 = ltb-true _ _ q in
    record { few = omega arith; over = sym (le-ltb 100 (suc s.begun) h) }

pub ok_over : (s : State) → Ok s → s.dirty ≡ false → ltb s.begun max_placeables ≡ false
    → Ok (record { begun = suc s.begun; dirty = true; locals = s.locals })
unfolding max_placeables
ok_over s o p q =
    let h : 100 ≤ s.begun = ltb-false _ _ q in
    let g : s.begun ≤ 100 = ltb-false _ _ (sym o.over ∙ p) in
    record { few = omega arith; over = sym (lt-ltb 100 (suc s.begun) (omega arith)) }

-- a placeable: one begun, what stands before its expression, one expanded, the rest
counts_go : (b m : M Done) → Counts Done b b → Counts Done m m → (s : State) → Ok s → (d few : Bool) → s.dirty ≡ d
    → ltb s.begun max_placeables ≡ few
    → Counted s ((enter_if d few >>= λ go. only_if go (b >> (emit expand >> m))) s).trace ((enter_if d few >>= λ go. only_if go (b >> (emit expand >> m))) s).state
unfolding ◌>>=◌ ◌>>◌ enter_if only_if emit ret max_placeables
counts_go b m hb hm s o true few p q = stays s o
counts_go b m hb hm s o false false p q =
    let h : 100 ≤ s.begun = ltb-false _ _ q in
    record { ok = ok_over s o p q; begins = omega arith; expands = omega arith; overs = omega arith }
counts_go b m hb hm s o false true p q =
    let h : suc s.begun ≤ 100 = ltb-true _ _ q in
    let s₁ : State = record { begun = suc s.begun; dirty = false; locals = s.locals } in
    let k : Counted s₁ (b s₁).trace (b s₁).state = hb s₁ (ok_entered s q) in
    let l : Counted (b s₁).state (m (b s₁).state).trace (m (b s₁).state).state = hm (b s₁).state k.ok in
    let t : Trace = expand ∷ (m (b s₁).state).trace in
    record {
      ok = l.ok;
      begins = omega (arith, tally_append is_begin (b s₁).trace t, k.begins, l.begins);
      expands = omega (arith, tally_append is_expand (b s₁).trace t, k.expands, l.expands);
      overs = omega (arith, tally_append is_over (b s₁).trace t, k.overs, l.overs);
    }

counts_entered : (b m : M Done) → Counts Done b b → Counts Done m m → Counts Done (entered b m) (entered b m)
unfolding entered enter ◌>>=◌
counts_entered b m hb hm s o = counts_go b m hb hm s o _ _ refl refl

plain_report : (e : Error) → Plain e → (s : State) → Ok s → Counted s (report e ∷ []) s
plain_report (overriding k i) p = quiet _ refl refl refl
plain_report (reference k i a) p = quiet _ refl refl refl
plain_report (no_value i) p = quiet _ refl refl refl
plain_report missing_default p = quiet _ refl refl refl
plain_report cyclic p = quiet _ refl refl refl
plain_report too_many_placeables p = absurd p

counts_capture : (m : M Done) → Counts Done m m → Counts Bytes (capture m) (capture m)
unfolding capture
counts_capture m h s o =
    let r : Counted s (m s).trace (m s).state = h s o in
    follows (open_text ∷ []) ((m s).trace ++ (keep_text ∷ [])) s s (m s).state (quiet _ refl refl refl s o)
    (follows (m s).trace (keep_text ∷ []) s (m s).state (m s).state r (quiet _ refl refl refl _ r.ok))

counts_release : {A : Type 0} (m : M A) → Counts A m m → Counts A (release m) (release m)
unfolding release
counts_release m h s o =
    let r : Counted s (m s).trace (m s).state = h s o in
    follows (m s).trace (free (m s).kept ∷ []) s (m s).state (m s).state r (quiet _ refl refl refl _ r.ok)

counts_closed : Closed (λ k. Counts)
unfolding ret emit write is_dirty get_locals set_locals
counts_closed = record {
  r_ret = λ {k} {A} a. stays;
  r_bind = λ {k} {A} {B} {m} {m'} {f} {f'} h l. counts_bind m f h l;
  r_report = λ {k} e p. plain_report e p;
  r_merged = λ {k} n. quiet _ refl refl refl;
  r_write = λ {k} b. quiet _ refl refl refl;
  r_dirty = λ {k}. stays;
  r_get = λ {k}. stays;
  r_set = λ {k} l s o. record { ok = record { few = o.few; over = o.over }; begins = omega arith; expands = omega arith; overs = omega arith };
  r_entered = λ {k} {b} {b'} {m} {m'} h l. counts_entered b m h l;
  r_capture = λ {k} {m} {m'} h. counts_capture m h;
  r_release = λ {k} {A} {m} {m'} h. counts_release m h;
}

counts_look_for : (x : Option Holder) → Counts (Option Holder) (look_for x) (look_for x)
unfolding look_for
counts_look_for none = quiet unfound refl refl refl
counts_look_for (some e) = stays

counts_look : (find : Find) (i : Bytes) → Counts (Option Holder) (look_up find i) (look_up find i)
unfolding look_up
counts_look find i = counts_look_for (find i)

-- a resolution's effects and its state agree on the placeables
pub counted : (st : Setting) (find : Find) (n : ℕ) (p : Pattern) (t : Trail) (s : State) → Ok s
    → Counted s (resolve st find n p t s).trace (resolve st find n p t s).state
counted st find n p t = r_resolve Counts counts_closed find find (counts_look find) st n p t
