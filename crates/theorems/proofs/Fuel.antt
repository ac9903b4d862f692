-- References nest no deeper than 102 patterns: more depth changes nothing.
use mathlib.Core.Path.{◌≡◌, refl, ap, ◌∙◌}
use mathlib.Core.Bool.{Bool, true, false, not}
use mathlib.Core.Option.{Option, none, some}
use Prim.Native.Nat.{ℕ, zero, suc, ◌+◌, ◌-◌, ◌≤◌}
use native.Mathlib.Omega.{arith}
use lib.Dec.{ltb}
use borrow.Author.Tests.{lt-ltb}
use Rattle.records.specs.Tree.{Pattern, pattern, Elements, no_more, more, Element, text, placeable}
use Rattle.entries.specs.Lookup.{Holder, Find}
use Rattle.resolution.specs.Effect.{Bytes, expand, State, M, Done, ret, ◌>>=◌, ◌>>◌, emit, write, is_dirty, get_locals, set_locals, max_placeables, enter_if, enter, only_if, entered, capture, release}
use Rattle.resolution.specs.Resolve.{Setting, Trail, look_for, look_up, write_pattern, write_elements, write_element, resolve}
use Rattle.resolution.specs.Format.{max_patterns, fresh}
use Rattle.theorems.proofs.Walk.{Rels, Closed, r_pattern}
use Rattle.theorems.proofs.Counts.{Ok, ok_entered, ok_over}

-- two actions do the same from a state, and no fewer placeables are begun after
pub record Meet (A : Type 0) (m m' : M A) (s : State) : Type 0 where
  pub same_run : m' s ≡ m s
  pub ok : Ok (m s).state
  pub up : s.begun ≤ (m s).state.begun

-- two actions agree where at least k placeables were begun
abbrev pub Agree : Rels
Agree k A m m' = (s : State) → Ok s → k ≤ s.begun → Meet A m m' s

agree_bind : (k : ℕ) {A B : Type 0} (m m' : M A) (f f' : A → M B) → Agree k A m m' → ((a : A) → Agree k B (f a) (f' a))
    → Agree k B (m >>= f) (m' >>= f')
unfolding ◌>>=◌
agree_bind k m m' f f' h l s o q =
    let r : Meet _ m m' s = h s o q in
    let z : Meet _ (f (m s).value) (f' (m s).value) (m s).state = l (m s).value (m s).state r.ok (omega (arith, r.up)) in
    record { same_run = rw r.same_run (rw z.same_run); ok = z.ok; up = omega (arith, r.up, z.up) }

agree_then : (k : ℕ) {A B : Type 0} (m m' : M A) (n n' : M B) → Agree k A m m' → Agree k B n n' → Agree k B (m >> n) (m' >> n')
unfolding ◌>>◌
agree_then k m m' n n' h l = agree_bind k m m' (λ a. n) (λ a. n') h (λ a. l)

agree_capture : (k : ℕ) (m m' : M Done) → Agree k Done m m' → Agree k Bytes (capture m) (capture m')
unfolding capture
agree_capture k m m' h s o q =
    let r : Meet _ m m' s = h s o q in
    record { same_run = rw r.same_run; ok = r.ok; up = r.up }

agree_release : (k : ℕ) {A : Type 0} (m m' : M A) → Agree k A m m' → Agree k A (release m) (release m')
unfolding release
agree_release k m m' h s o q =
    let r : Meet _ m m' s = h s o q in
    record { same_run = rw r.same_run; ok = r.ok; up = r.up }

-- what is expanded runs where one more was begun
agree_go : (k : ℕ) (m m' : M Done) → Agree (suc k) Done m m' → (s : State) → Ok s → k ≤ s.begun → (b few : Bool) → s.dirty ≡ b
    → ltb s.begun max_placeables ≡ few → Meet Done (enter_if b few >>= λ go. only_if go m) (enter_if b few >>= λ go. only_if go m') s
unfolding ◌>>=◌ enter_if only_if ret
agree_go k m m' h s o q true few p t = record { same_run = refl; ok = o; up = omega arith }
agree_go k m m' h s o q false false p t = record { same_run = refl; ok = ok_over s o p t; up = omega arith }
agree_go k m m' h s o q false true p t =
    let s₁ : State = record { begun = suc s.begun; dirty = false; locals = s.locals } in
    let z : Meet Done m m' s₁ = h s₁ (ok_entered s t) (omega arith) in
    record { same_run = rw z.same_run; ok = z.ok; up = omega (arith, z.up) }

agree_emit : (k : ℕ) → Agree k Done (emit expand) (emit expand)
unfolding emit
agree_emit k s o q = record { same_run = refl; ok = o; up = omega arith }

agree_entered : (k : ℕ) (b b' m m' : M Done) → Agree (suc k) Done b b' → Agree (suc k) Done m m' → Agree k Done (entered b m) (entered b' m')
unfolding entered enter ◌>>=◌
agree_entered k b b' m m' h l s o q =
    let n : M Done = b >> (emit expand >> m) in
    let n' : M Done = b' >> (emit expand >> m') in
    let i : Agree (suc k) Done (emit expand >> m) (emit expand >> m') = agree_then (suc k) (emit expand) (emit expand) m m' (agree_emit (suc k)) l in
    let e : Agree (suc k) Done n n' = agree_then (suc k) b b' (emit expand >> m) (emit expand >> m') h i in
    let first : M Bool = enter_if s.dirty (ltb s.begun max_placeables) in
    let z : Meet Done (first >>= λ go. only_if go n) (first >>= λ go. only_if go n') s = agree_go k n n' e s o q _ _ refl refl in
    record { same_run = z.same_run; ok = z.ok; up = z.up }

agree_closed : Closed Agree
unfolding ret emit write is_dirty get_locals set_locals
agree_closed = record {
  r_ret = λ {k} {A} a s o q. record { same_run = refl; ok = o; up = omega arith };
  r_bind = λ {k} {A} {B} {m} {m'} {f} {f'} h l. agree_bind k m m' f f' h l;
  r_report = λ {k} e p s o q. record { same_run = refl; ok = o; up = omega arith };
  r_merged = λ {k} n s o q. record { same_run = refl; ok = o; up = omega arith };
  r_write = λ {k} b s o q. record { same_run = refl; ok = o; up = omega arith };
  r_dirty = λ {k} s o q. record { same_run = refl; ok = o; up = omega arith };
  r_get = λ {k} s o q. record { same_run = refl; ok = o; up = omega arith };
  r_set = λ {k} l s o q. record { same_run = refl; ok = record { few = o.few; over = o.over }; up = omega arith };
  r_entered = λ {k} {b} {b'} {m} {m'} h l. agree_entered k b b' m m' h l;
  r_capture = λ {k} {m} {m'} h. agree_capture k m m' h;
  r_release = λ {k} {A} {m} {m'} h. agree_release k m m' h;
}

agree_look_for : (x : Option Holder) (k : ℕ) → Agree k (Option Holder) (look_for x) (look_for x)
unfolding look_for
agree_look_for none k s o q = record { same_run = refl; ok = o; up = omega arith }
agree_look_for (some e) k s o q = record { same_run = refl; ok = o; up = omega arith }

agree_look : (find : Find) (k : ℕ) (i : Bytes) → Agree k (Option Holder) (look_up find i) (look_up find i)
unfolding look_up
agree_look find k i = agree_look_for (find i) k

-- where 101 were begun a pattern does nothing
text_cut : (m : M Done) (s : State) → s.dirty ≡ true → (is_dirty >>= λ d. only_if (not d) m) s ≡ ret tt s
unfolding ◌>>=◌ is_dirty only_if ret
text_cut m s d = rw (d, only_if)

entered_cut : (b m : M Done) (s : State) → s.dirty ≡ true → entered b m s ≡ ret tt s
unfolding ◌>>=◌ entered enter enter_if only_if ret
entered_cut b m s d = rw (d, enter_if)

then_cut : (m n : M Done) (s : State) → m s ≡ ret tt s → n s ≡ ret tt s → (m >> n) s ≡ ret tt s
unfolding ◌>>◌ ◌>>=◌ ret
then_cut m n s h k = rw h (rw k)

module _ (st : Setting) (find : Find) (cross : Pattern → Trail → M Done) (trail : Trail) where
  element_cut : (e : Element) (iso : Bool) (s : State) → s.dirty ≡ true → write_element st find cross trail e iso s ≡ ret tt s
  unfolding write_element
  element_cut (text t) iso s d = text_cut _ s d
  element_cut (placeable x) iso s d = entered_cut _ _ s d

  elements_cut : (es : Elements) (iso : Bool) (s : State) → s.dirty ≡ true → write_elements st find cross trail es iso s ≡ ret tt s
  unfolding write_elements
  elements_cut no_more iso s d = refl
  elements_cut (more e es) iso s d = then_cut _ _ s (element_cut e iso s d) (elements_cut es iso s d)

  pub pattern_cut : (p : Pattern) (s : State) → s.dirty ≡ true → write_pattern st find cross trail p s ≡ ret tt s
  unfolding write_pattern
  pattern_cut (pattern b es) s d = elements_cut es _ s d

-- where depth and placeables begun make 101, one more of depth changes nothing
pub deeper : (st : Setting) (find : Find) (n k : ℕ) → 101 ≤ n + k → (p : Pattern) (t : Trail)
    → Agree k Done (resolve st find n p t) (resolve st find (suc n) p t)
unfolding resolve ret
deeper st find zero k h p t = λ s o q. record {
  same_run = pattern_cut st find _ t p s (o.over ∙ lt-ltb 100 s.begun (omega arith));
  ok = o;
  up = omega arith;
}
deeper st find (suc n) k h p t =
    r_pattern Agree agree_closed find find (agree_look find) (λ q u. resolve st find n q u) (λ q u. resolve st find (suc n) q u) t k
    (λ j lt q u. deeper st find n j (omega arith) q u) st p

pub ok_fresh : Ok fresh
unfolding fresh
ok_fresh = record { few = omega arith; over = refl }

deeper_by : (st : Setting) (find : Find) (d : ℕ) (p : Pattern) (t : Trail)
    → resolve st find (d + max_patterns) p t fresh ≡ resolve st find max_patterns p t fresh
unfolding max_patterns
deeper_by st find zero p t = refl
deeper_by st find (suc d) p t =
    let e : suc d + 102 ≡ suc (d + 102) = omega arith in
    rw e ((deeper st find (d + 102) 0 (omega arith) p t fresh ok_fresh (omega arith)).same_run ∙ deeper_by st find d p t)

-- the depth of the definition cuts nothing: every greater one gives the same
pub deep_enough : (st : Setting) (find : Find) (n : ℕ) → max_patterns ≤ n → (p : Pattern) (t : Trail)
    → resolve st find n p t fresh ≡ resolve st find max_patterns p t fresh
deep_enough st find n h p t =
    let e : n ≡ n - max_patterns + max_patterns = omega arith in
    ap (λ (d : ℕ). resolve st find d p t fresh) e ∙ deeper_by st find (n - max_patterns) p t
