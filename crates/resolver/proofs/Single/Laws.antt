-- Laws of running actions: one after the other, and what each leaves.
use mathlib.Core.Path.{◌≡◌, refl, ap, sym, subst, ◌∙◌, fun_ext}
use mathlib.Core.List.{List, [], ◌∷◌, ◌++◌, append_assoc}
use mathlib.Core.Bool.{Bool, true, false}
use Prim.Native.Nat.{ℕ, ◌+◌, ◌-◌, ◌≤◌}
use native.Mathlib.Omega.{arith}
use native.Mathlib.Nat.{le_trans}
use lib.ListN.{take, drop}
use lib.Seq.{drop-drop}
use Rattle.state.specs.declared.Progress.{Progress}
use Rattle.resolution.specs.Effect.{Bytes, Trace, State, Out, M, ret, ◌>>=◌, ◌>>◌, is_dirty}
use Rattle.resolution.specs.Exec.{Machine, Limits, Ran, ran, refused, exec, and_then, step}
use Rattle.resolver.specs.Relations.Meets.{World, Live, LocalsStay, locals_same, locals_cleared, Outs, Moved, Ended, ended, stopped, Runs, Kept, Acts, trail_of, if_aside, Env}
use Rattle.resolver.specs.Relations.Members.{Here}

and_then_and_then : (o : Ran) (f g : Machine → Ran) → and_then (and_then o f) g ≡ and_then o (λ k. and_then (f k) g)
unfolding and_then
and_then_and_then (ran m) f g = refl
and_then_and_then (refused n) f g = refl

pub exec_append : (L : Limits) (a b : Trace) (k : Machine) → exec L (a ++ b) k ≡ and_then (exec L a k) (λ n. exec L b n)
unfolding exec and_then
exec_append L [] b k = refl
exec_append L (e ∷ a) b k =
    ap (and_then (step L e k)) (fun_ext (λ n. exec_append L a b n)) ∙ sym (and_then_and_then (step L e k) (λ n. exec L a n) (λ n. exec L b n))

pub append_nil : {A : Type 0} (a : List A) → a ++ [] ≡ a
append_nil [] = refl
append_nil (x ∷ a) = ap (λ l. x ∷ l) (append_nil a)

pub aside_nil : (b : Bool) → if_aside b [] ≡ []
unfolding if_aside
aside_nil true = refl
aside_nil false = refl

aside_append : (b : Bool) (s t : Bytes) → if_aside b s ++ if_aside b t ≡ if_aside b (s ++ t)
unfolding if_aside
aside_append true s t = refl
aside_append false s t = refl

pub drop_more : (a b : List ℕ) (m n : ℕ) → m ≤ n → drop m a ≡ drop m b → drop n a ≡ drop n b
drop_more a b m n h e =
    let q : m + (n - m) ≡ n = omega arith in
    subst (λ (i : ℕ). drop i a ≡ drop i b) q (sym (drop-drop (n - m) m a) ∙ ap (drop (n - m)) e ∙ drop-drop (n - m) m b)

pub kept_same : (w : World) → Kept w w
kept_same w = record { begun = omega arith; over = λ h. refl }

pub kept_then : {w u v : World} → Kept w u → Kept u v → Kept w v
kept_then h l = record { begun = le_trans h.begun l.begun; over = λ n. l.over (λ e. n (sym (h.over n) ∙ e)) ∙ h.over n }

front_then : (a b : List ℕ) (x y : Bool) (s t : Bytes) → x ≡ y → a ≡ b ++ if_aside y s → a ++ if_aside x t ≡ b ++ if_aside y (s ++ t)
front_then a b x y s t e h = rw (e, h) (append_assoc b (if_aside y s) (if_aside y t) ∙ ap (λ (l : List ℕ). b ++ l) (aside_append y s t))

-- the term's arguments stay, or are cleared, over two steps
pub stay_same : (a : Progress) → LocalsStay a a
stay_same a = locals_same refl refl refl refl

pub stay_then : {a b c : Progress} → LocalsStay a b → LocalsStay b c → LocalsStay a c
stay_then h (locals_cleared e) = locals_cleared e
stay_then (locals_cleared e) (locals_same p q r s) = locals_cleared (p ∙ e)
stay_then (locals_same p q r s) (locals_same p' q' r' s') = locals_same (p' ∙ p) (q' ∙ q) (r' ∙ r) (s' ∙ s)

-- text and list over two steps
pub outs_same : (w : World) → Outs w w
outs_same w = record { text_up = omega arith; list_up = omega arith; text_rest = refl; list_rest = refl }

pub outs_then : {w u v : World} → Outs w u → Outs u v → Outs w v
outs_then {w} {u} {v} h l =
    let a = h.text_up in let b = l.text_up in let c = h.list_up in let d = l.list_up in
    record {
      text_up = omega arith;
      list_up = omega arith;
      text_rest = l.text_rest ∙ drop_more u.text w.text u.st.text_at v.st.text_at b h.text_rest;
      list_rest = l.list_rest ∙ drop_more u.list w.list u.st.list_at v.st.list_at d h.list_rest;
    }

pub moved_then : {A B : Type 0} {w u v : World} {r : Out A} {q : Out B} → Moved w u r → Moved u v q
    → Moved w v (record { trace = r.trace ++ q.trace; text = r.text ++ q.text; kept = r.kept + q.kept; state = q.state; value = q.value })
moved_then {w = w} {u = u} {v = v} {r = r} {q = q} h l = record {
  store = l.store ∙ h.store;
  front = l.front ∙ front_then (take u.st.front u.work) (take w.st.front w.work) u.st.aside w.st.aside r.text q.text h.aside h.front;
  back = (let a = h.back in let b = l.back in omega arith);
  rest = drop_more v.work u.work u.st.back w.st.back (let a = h.back in omega arith) l.rest ∙ h.rest;
  aside = l.aside ∙ h.aside;
  depth = l.depth ∙ h.depth;
  trail = λ i. l.trail i ∙ h.trail i;
  stay = stay_then h.stay l.stay;
  outs = outs_then h.outs l.outs;
}

pub moved_none : {A : Type 0} (w : World) (s : State) (a : A) → Moved w w (record { trace = []; text = []; kept = 0; state = s; value = a })
moved_none w s a = record {
  store = refl;
  front = sym (ap (λ (l : List ℕ). take w.st.front w.work ++ l) (aside_nil w.st.aside) ∙ append_nil _);
  back = omega arith;
  rest = refl;
  aside = refl;
  depth = refl;
  trail = λ i. refl;
  stay = stay_same w.st;
  outs = outs_same w;
}

-- an action that does nothing
pub ended_none : {A : Type 0} (L : Limits) (w : World) (s : State) (k : Machine) (a : A) → Live L w s k → Ended L w w (record { trace = []; text = []; kept = 0; state = s; value = a }) k
unfolding exec
ended_none L w s k a l = ended k refl l refl (moved_none w s a)

-- one action after another
pub ended_then : {A B : Type 0} {w u v : World} (m : M A) (f : A → M B) (L : Limits) (s : State) (k : Machine) → Ended L w u (m s) k → Kept u v
    → ((k' : Machine) → Live L u (m s).state k' → Moved w u (m s) → Ended L u v (f (m s).value (m s).state) k') → Ended L w v ((m >>= f) s) k
unfolding ◌>>=◌ and_then
ended_then {w = w} {u = u} {v = v} m f L s k (ended k' e l n mv) kp g = go (g k' l mv)
  where
    go : Ended L u v (f (m s).value (m s).state) k' → Ended L w v ((m >>= f) s) k
    go (ended k'' e' l' n' mv') = ended k'' (exec_append L (m s).trace (f (m s).value (m s).state).trace k ∙ rw e e') l' (n' ∙ n) (moved_then mv mv')
    go (stopped c e' z r) = stopped c (exec_append L (m s).trace (f (m s).value (m s).state).trace k ∙ rw e e') z r
ended_then m f L s k (stopped c e z r) kp g =
    stopped c (exec_append L (m s).trace (f (m s).value (m s).state).trace k ∙ rw e refl) z (kp.over (λ q. z (sym r ∙ q)) ∙ r)

-- what stays where an action ended
pub record Stays (w v : World) : Type 0 where
  pub store : v.store ≡ w.store
  pub aside : v.st.aside ≡ w.st.aside
  pub depth : v.st.depth ≡ w.st.depth
  pub trail : (store : List ℕ) → trail_of store v.trail v.st.depth ≡ trail_of store w.trail w.st.depth

pub stays : {A : Type 0} {w v : World} {r : Out A} → Moved w v r → Stays w v
stays h = record { store = h.store; aside = h.aside; depth = h.depth; trail = h.trail }

pub here_stays : {e : Env} {w v : World} {g n : ℕ} {t : List Bytes} → Here e w g n t → Kept w v → Stays w v → Here e v g n t
here_stays {e} {w} {v} {g} {n} h k s = record {
  on = h.on ∙ sym (s.trail e.store);
  fuel = (let a = h.fuel in let b = k.begun in omega arith);
  room = (let a = h.room in let b = k.begun in let c = s.depth in omega arith);
  same = s.store ∙ h.same;
}

pub runs_ret : {A : Type 0} (a : A) (w : World) → Runs (ret a) w w
unfolding ret
runs_ret a w L s k l = ended_none L w s k a l

pub runs_then : {A B : Type 0} {w u v : World} {m : M A} {n : M B} → Runs m w u → Kept u v → (Stays w u → Runs n u v) → Runs (m >> n) w v
unfolding ◌>>◌
runs_then {m = m} {n = n} h kp g L s k l = ended_then m (λ a. n) L s k (h L s k l) kp (λ k' l' mv. g (stays mv) L (m s).state k' l')

pub acts_then : {A B : Type 0} {w u v : World} {m : M A} {n : M B} → Acts m w u → Acts n u v → Acts (m >> n) w v
acts_then h g = record { kept = kept_then h.kept g.kept; runs = runs_then h.runs g.kept (λ s. g.runs) }

pub runs_dirty : {B : Type 0} {w v : World} (f : Bool → M B) (b : Bool) → w.st.dirty ≡ b → Kept w v → Runs (f b) w v → Runs (is_dirty >>= f) w v
unfolding is_dirty
runs_dirty {w = w} {v = v} f b e kp h L s k l =
    ended_then is_dirty f L s k (ended_none L w s k s.dirty l) kp
    (λ k' l' mv. subst (λ (x : Bool). Ended L w v (f x s) k') (sym (l.dirty ∙ e)) (h L s k' l'))

pub acts_ret : {A : Type 0} (a : A) (w : World) → Acts (ret a) w w
acts_ret a w = record { kept = kept_same w; runs = runs_ret a w }
