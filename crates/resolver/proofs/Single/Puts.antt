-- Steps of the leaves that write: a text, an error, a count.
use Rattle.refusals.specs.declared.Refusal.{Refusal}
use Rattle.refusals.specs.Numbers.{number_of}
use Rattle.refusals.proofs.Numbers.{positive}
use Rattle.state.specs.Progress.{refused_of}
use Rattle.refusals.specs.declared.Refusal.TheVariants as refusal
use mathlib.Core.Path.{◌≡◌, refl, ap, sym, subst, ◌∙◌}
use mathlib.Core.List.{List, [], ◌∷◌, ◌++◌, append_assoc}
use mathlib.Core.Bool.{Bool, true, false}
use Prim.Native.Nat.{ℕ, zero, suc, ◌+◌, ◌-◌, ◌≤◌, ◌<◌, min, max}
use native.Mathlib.Omega.{arith}
use lib.ListN.{length, take, drop, length-append, length-drop}
use lib.Seq.{paste, take-paste, drop-paste, length-paste, take-length, length-take-le, drop-append-le, take-add, drop_at}
use lib.Dec.{leb}
use mathlib.Core.Logic.{⊎_elim, ◌⊎◌, inl, inr}
use borrow.Author.Tests.{le-leb, lt-leb, ltb-true, ltb-false, leb-true, leb-false}
use Rattle.state.specs.declared.Progress.{Progress}
use Rattle.records.specs.Bytes.{part, to_be}
use Rattle.records.specs.Errors.{Error, enc_record, enc_error, enc_errors}
use Rattle.records.specs.Encode.{enc_all, enc_whole}
use Rattle.resolution.specs.Effect.{Bytes, put, report, unfound, State, M, ◌>>=◌, ◌>>◌, emit, write}
use Rattle.resolution.specs.Exec.{Machine, Limits, ran, refused, exec, and_then, step, allow, allow_if, list_limit, listed, put_text, put_work, put_at}
use Rattle.resolver.specs.Relations.Meets.{World, world, Live, Ended, ended, stopped, Runs, Acts, if_aside, locals_same}
use Rattle.state.specs.Setters.{refuse_s, refused_s, text_s, front_s, list_s, unfound_s, max_unfound, up_to, counted_s}
use Rattle.resolver.proofs.Single.Laws.{kept_same, append_nil, aside_nil, drop_more, exec_append, acts_then}
use Rattle.resolver.proofs.Single.Locals.{locals_stay, locals_alike}

pub le_or_lt : (a b : ℕ) → (a ≤ b) ⊎ (b < a)
le_or_lt a b = go (leb a b) refl
  where
    go : (t : Bool) → leb a b ≡ t → (a ≤ b) ⊎ (b < a)
    go true e = inl (leb-true a b e)
    go false e = inr (leb-false a b e)

-- where the world was refused, nothing is asked but that it stays so
pub acts_over : {A : Type 0} (m : M A) (w : World) → ((refused_of w.st) ≡ 0 → ⊥) → Acts m w w
acts_over m w h = record { kept = kept_same w; runs = λ L s k l. absurd (h l.go) }

-- a refusal is one
pub refuse_some : (why : Refusal) (st : Progress) → refused_of (refuse_s why st) ≡ 0 → ⊥
refuse_some why st q = let p = positive why in omega (arith, q)

-- where every live machine is refused
module _ (i x l w t : List ℕ) (st : Progress) where
  pub acts_refused : (n : ℕ) {A : Type 0} (m : M A) {r : Progress} → (refused_of st) ≡ 0 → (n ≡ 0 → ⊥)
      → ((L : Limits) (s : State) (k : Machine) → Live L (world i x l w t st) s k → exec L (m s).trace k ≡ refused n)
      → r ≡ refused_s n st → Acts m (world i x l w t st) (world i x l w t r)
  acts_refused n m {r} z some h e =
      let b : r.begun ≡ st.begun = ap (λ (q : Progress). q.begun) e in
      record {
        kept = record { begun = omega arith; over = λ f. absurd (f z) };
        runs = λ L s k lv. stopped n (h L s k lv) some (ap (λ (q : Progress). (refused_of q)) e);
      }

  -- by a refusal's name
  pub acts_refuse : (why : Refusal) {A : Type 0} (m : M A) {r : Progress} → (refused_of st) ≡ 0
      → ((L : Limits) (s : State) (k : Machine) → Live L (world i x l w t st) s k → exec L (m s).trace k ≡ refused (number_of why))
      → r ≡ refuse_s why st → Acts m (world i x l w t st) (world i x l w t r)
  acts_refuse why m z h e = acts_refused (number_of why) m z (λ q. let p = positive why in omega (arith, q)) h e

nest_none : {L : Limits} {w : World} {s : State} {k : Machine} → Live L w s k → w.st.aside ≡ false → k.nest ≡ 0
nest_none {k = k} l e = let h = ltb-false 0 k.nest (sym l.nest ∙ e) in omega arith

nest_some : {L : Limits} {w : World} {s : State} {k : Machine} → Live L w s k → w.st.aside ≡ true → 0 < k.nest
nest_some {k = k} l e = ltb-true 0 k.nest (sym l.nest ∙ e)

module _ (L : Limits) (b : Bytes) (k : Machine) where
  abbrev pub text_m : Machine
  text_m = record { written = k.written ++ b; errors = k.errors; nest = k.nest; used = k.used; high = k.high; begun = k.begun; expanded = k.expanded; unfounds = k.unfounds }

  abbrev pub work_m : Machine
  work_m = record { written = k.written; errors = k.errors; nest = k.nest; used = k.used + length b; high = max k.high (k.used + length b); begun = k.begun; expanded = k.expanded; unfounds = k.unfounds }

  pub put_text_in : k.nest ≡ 0 → length k.written + length b ≤ L.text_len → exec L (put b ∷ []) k ≡ ran text_m
  unfolding exec step put_at put_text allow allow_if and_then
  put_text_in e h = rw (e, le-leb _ _ h)

  pub put_text_out : k.nest ≡ 0 → L.text_len < length k.written + length b → exec L (put b ∷ []) k ≡ refused 15
  unfolding exec step put_at put_text allow allow_if and_then
  put_text_out e h = rw (e, lt-leb _ _ h)

  pub put_work_in : 0 < k.nest → k.used + length b ≤ L.work_len → exec L (put b ∷ []) k ≡ ran work_m
  unfolding exec step put_at put_work allow allow_if and_then
  put_work_in e h = let q : k.nest ≡ suc (k.nest - 1) = omega arith in rw (q, le-leb _ _ h)

  pub put_work_out : 0 < k.nest → L.work_len < k.used + length b → exec L (put b ∷ []) k ≡ refused 16
  unfolding exec step put_at put_work allow allow_if and_then
  put_work_out e h = let q : k.nest ≡ suc (k.nest - 1) = omega arith in rw (q, lt-leb _ _ h)
  -- one after the other, or both at once

-- one after the other, or both at once
module _ (L : Limits) (b a : Bytes) (k : Machine) where
  split_text_in : k.nest ≡ 0 → length k.written + length b + length a ≤ L.text_len → exec L (put b ∷ put a ∷ []) k ≡ exec L (put (b ++ a) ∷ []) k
  unfolding and_then
  split_text_in e h =
      exec_append L (put b ∷ []) (put a ∷ []) k
      ∙ rw (put_text_in L b k e (omega arith)) (put_text_in L a (text_m L b k) e (let q = length-append k.written b in omega arith))
      ∙ ap (λ (q : Bytes). ran (record { written = q; errors = k.errors; nest = k.nest; used = k.used; high = k.high; begun = k.begun; expanded = k.expanded; unfounds = k.unfounds })) (append_assoc k.written b a)
      ∙ sym (put_text_in L (b ++ a) k e (let q = length-append b a in omega arith))

  split_text_out : k.nest ≡ 0 → L.text_len < length k.written + length b + length a → exec L (put b ∷ put a ∷ []) k ≡ exec L (put (b ++ a) ∷ []) k
  unfolding and_then
  split_text_out e h = exec_append L (put b ∷ []) (put a ∷ []) k ∙ ⊎_elim
      (λ (f : length k.written + length b ≤ L.text_len). rw (put_text_in L b k e f) (put_text_out L a (text_m L b k) e (let q = length-append k.written b in omega arith)))
      (λ (f : L.text_len < length k.written + length b). rw (put_text_out L b k e f))
      (le_or_lt (length k.written + length b) L.text_len)
      ∙ sym (put_text_out L (b ++ a) k e (let q = length-append b a in omega arith))

  split_work_in : 0 < k.nest → k.used + length b + length a ≤ L.work_len → exec L (put b ∷ put a ∷ []) k ≡ exec L (put (b ++ a) ∷ []) k
  unfolding and_then
  split_work_in e h =
      let e0 : exec L (put b ∷ put a ∷ []) k ≡ ran (work_m L a (work_m L b k)) = exec_append L (put b ∷ []) (put a ∷ []) k ∙ (rw (put_work_in L b k e (omega arith)) (put_work_in L a (work_m L b k) e h)) in
      let e1 : k.used + length b + length a ≡ k.used + length (b ++ a) = (let q = length-append b a in omega arith) in
      let e2 : max (max k.high (k.used + length b)) (k.used + length b + length a) ≡ max k.high (k.used + length (b ++ a)) = omega arith in
      let e3 : ran (work_m L a (work_m L b k)) ≡ ran (work_m L (b ++ a) k) = rw (e2, e1) in
      e0 ∙ e3 ∙ sym (put_work_in L (b ++ a) k e (omega arith))

  split_work_out : 0 < k.nest → L.work_len < k.used + length b + length a → exec L (put b ∷ put a ∷ []) k ≡ exec L (put (b ++ a) ∷ []) k
  unfolding and_then
  split_work_out e h = exec_append L (put b ∷ []) (put a ∷ []) k ∙ ⊎_elim
      (λ (f : k.used + length b ≤ L.work_len). rw (put_work_in L b k e f) (put_work_out L a (work_m L b k) e h))
      (λ (f : L.work_len < k.used + length b). rw (put_work_out L b k e f))
      (le_or_lt (k.used + length b) L.work_len)
      ∙ sym (put_work_out L (b ++ a) k e (let q = length-append b a in omega arith))

  pub put_split : exec L (put b ∷ put a ∷ []) k ≡ exec L (put (b ++ a) ∷ []) k
  put_split = ⊎_elim
      (λ (e : k.nest ≤ 0). ⊎_elim (split_text_in (omega arith)) (split_text_out (omega arith)) (le_or_lt (length k.written + length b + length a) L.text_len))
      (λ (e : 0 < k.nest). ⊎_elim (split_work_in e) (split_work_out e) (le_or_lt (k.used + length b + length a) L.work_len))
      (le_or_lt k.nest 0)

pub runs_join : {w v : World} (a b : Bytes) → Runs (write a >> write b) w v → Runs (write (a ++ b)) w v
unfolding ◌>>◌ ◌>>=◌ write
runs_join {w} {v} a b h L s k l = go (h L s k l)
  where
    go : Ended L w v ((write a >> write b) s) k → Ended L w v (write (a ++ b) s) k
    go (ended k' e lv n m) = ended k' (sym (put_split L a b k) ∙ e) lv n (record { front = m.front; back = m.back; rest = m.rest; aside = m.aside; depth = m.depth; trail = m.trail; stay = m.stay; store = m.store; outs = m.outs })
    go (stopped n e z r) = stopped n (sym (put_split L a b k) ∙ e) z r

pub acts_join : {w u v : World} (a b : Bytes) → Acts (write a) w u → Acts (write b) u v → Acts (write (a ++ b)) w v
acts_join a b h g = let q = acts_then h g in record { kept = q.kept; runs = runs_join a b q.runs }

none_aside : (b q : List ℕ) → q ++ if_aside false b ≡ q
unfolding if_aside
none_aside b q = append_nil q

some_aside : (b : List ℕ) → b ≡ if_aside true b
unfolding if_aside
some_aside b = refl

written_length : {L : Limits} {w : World} {s : State} {k : Machine} → Live L w s k → length k.written ≡ w.st.text_at
written_length {w = w} l = ap length l.written ∙ length-take-le w.st.text_at w.text l.text_in

-- the length of an error list: its header, and its records
to_be_length : (n x : ℕ) → length (to_be n x) ≡ n
unfolding to_be
to_be_length zero x = refl
to_be_length (suc n) x = ap suc (to_be_length n x)

pub errors_length : (es : List Error) → length (enc_errors es) ≡ 5 + length (enc_all enc_error es)
unfolding enc_errors enc_whole
errors_length es =
    let b : List ℕ = 1 ∷ enc_all enc_error es in
    let p = length-append (to_be 4 (4 + length b)) b in
    let q = to_be_length 4 (4 + length b) in
    omega arith

pub all_append : (es : List Error) (e : Error) → enc_all enc_error (es ++ (e ∷ [])) ≡ enc_all enc_error es ++ enc_error e
unfolding enc_all
all_append [] e = append_nil (enc_error e)
all_append (x ∷ es) e = ap (λ (l : List ℕ). enc_error x ++ l) (all_append es e) ∙ sym (append_assoc (enc_error x) (enc_all enc_error es) (enc_error e))

-- where a list with one record more ends
listed_length : {L : Limits} {w : World} {s : State} {k : Machine} (e : Error) → Live L w s k → length (enc_errors (listed k.errors e)) ≡ w.st.list_at + length (enc_error e)
unfolding listed
listed_length {w = w} {k = k} e l =
    let a = errors_length (k.errors ++ (e ∷ [])) in
    let b = ap length (all_append k.errors e) ∙ length-append (enc_all enc_error k.errors) (enc_error e) in
    let c = ap length l.listed in
    let h = l.header_in in
    let i = l.list_in in
    let d : length (part w.list 5 (w.st.list_at - 5)) ≡ w.st.list_at - 5 = length-take-le (w.st.list_at - 5) (drop 5 w.list) (let o = length-drop 5 w.list in omega arith) in
    omega arith

module _ (i x l w t : List ℕ) (st : Progress) (b : Bytes) where
  pub put_text_full : {r : Progress} → (refused_of st) ≡ 0 → st.aside ≡ false → length x < st.text_at + length b → r ≡ refuse_s refusal.ShortText st → Acts (write b) (world i x l w t st) (world i x l w t r)
  unfolding write number_of
  put_text_full z a h e = acts_refuse i x l w t st refusal.ShortText (write b) z
      (λ L s k lv. put_text_out L b k (nest_none lv a) (let p = lv.text_len in let q = written_length lv in omega arith)) e

  pub put_work_full : {r : Progress} → (refused_of st) ≡ 0 → st.aside ≡ true → ((st.front ≤ st.back) → st.back ≤ length w → st.back < st.front + length b) → r ≡ refuse_s refusal.ShortWorkspace st → Acts (write b) (world i x l w t st) (world i x l w t r)
  unfolding write number_of
  put_work_full z a h e = acts_refuse i x l w t st refusal.ShortWorkspace (write b) z
      (λ L s k lv. put_work_out L b k (nest_some lv a) (let p = lv.work_len in let q = lv.uses in let i = lv.front_in in let j = lv.back_in in let o = h i j in omega arith)) e

  pub put_text_law : {x' : List ℕ} → (refused_of st) ≡ 0 → st.aside ≡ false → st.text_at + length b ≤ length x → x' ≡ paste x st.text_at b (length b) → Acts (write b) (world i x l w t st) (world i x' l w t (text_s (st.text_at + length b) st))
  unfolding write
  put_text_law {x'} z a h e =
      let len : length x' ≡ length x = ap length e ∙ length-paste x st.text_at b (length b) h (omega arith) in
      record {
        kept = record { begun = omega arith; over = λ f. refl };
        runs = λ L s k lv.
            ended (text_m L b k) (put_text_in L b k (nest_none lv a) (let p = lv.text_len in let q = written_length lv in omega arith))
            (record {
              go = lv.go;
              text_len = len ∙ lv.text_len;
              list_len = lv.list_len;
              work_len = lv.work_len;
              trail_len = lv.trail_len;
              text_in = omega arith;
              header_in = lv.header_in;
              list_in = lv.list_in;
              list_u32 = lv.list_u32;
              front_in = lv.front_in;
              back_in = lv.back_in;
              written = ap (λ (q : Bytes). q ++ b) lv.written ∙ sym (ap (take (st.text_at + length b)) e ∙ take-paste x st.text_at b (length b) (omega arith) (omega arith) ∙ ap (λ (q : List ℕ). take st.text_at x ++ q) (take-length b));
              listed = lv.listed;
              errors = lv.errors;
              nest = lv.nest;
              uses = lv.uses;
              high = lv.high;
              unfounds = lv.unfounds;
              begun = lv.begun;
              machine_begun = lv.machine_begun;
              dirty = lv.dirty;
              few = lv.few;
              most = lv.most;
              locals = locals_alike refl refl refl refl refl refl refl lv.locals;
            })
            refl
            (record {
              front = sym (ap (λ (q : Bool). take st.front w ++ if_aside q b) a ∙ none_aside b (take st.front w));
              back = omega arith;
              rest = refl;
              aside = refl;
              depth = refl;
              trail = λ _. refl;
              stay = locals_same refl refl refl refl;
              store = refl;
              outs = record { text_up = omega arith; list_up = omega arith; text_rest = ap (drop (st.text_at + length b)) e ∙ drop-paste x st.text_at b (length b) (omega arith) (omega arith); list_rest = refl };
            });
      }

  pub put_work_law : {w' : List ℕ} {h : ℕ} → (refused_of st) ≡ 0 → st.aside ≡ true → st.front + length b ≤ st.back → st.back ≤ length w → w' ≡ paste w st.front b (length b)
      → h ≡ max st.high (st.front + length b + (length w - st.back)) → Acts (write b) (world i x l w t st) (world i x l w' t (front_s (st.front + length b) h st))
  unfolding write
  put_work_law {w'} {h} z a f g e hi =
      let len : length w' ≡ length w = ap length e ∙ length-paste w st.front b (length b) (omega arith) (omega arith) in
      let rest : drop st.back w' ≡ drop st.back w = drop_more w' w (st.front + length b) st.back f (ap (drop (st.front + length b)) e ∙ drop-paste w st.front b (length b) (omega arith) (omega arith)) in
      record {
        kept = record { begun = omega arith; over = λ f. refl };
        runs = λ L s k lv.
            let u = lv.uses in
            let us : k.used + length b ≡ st.front + length b + (length w - st.back) = omega arith in
            ended (work_m L b k) (put_work_in L b k (nest_some lv a) (let p = lv.work_len in omega arith))
            (record {
              go = lv.go;
              text_len = lv.text_len;
              list_len = lv.list_len;
              work_len = len ∙ lv.work_len;
              trail_len = lv.trail_len;
              text_in = lv.text_in;
              header_in = lv.header_in;
              list_in = lv.list_in;
              list_u32 = lv.list_u32;
              front_in = f;
              back_in = omega arith;
              written = lv.written;
              listed = lv.listed;
              errors = lv.errors;
              nest = lv.nest;
              uses = omega arith;
              high = rw (us, lv.high) (sym hi);
              unfounds = lv.unfounds;
              begun = lv.begun;
              machine_begun = lv.machine_begun;
              dirty = lv.dirty;
              few = lv.few;
              most = lv.most;
              locals = locals_stay refl len (omega arith) rest refl refl refl refl lv.locals;
            })
            refl
            (record {
              front = ap (take (st.front + length b)) e ∙ take-paste w st.front b (length b) (omega arith) (omega arith) ∙ ap (λ (q : List ℕ). take st.front w ++ q) (take-length b ∙ some_aside b) ∙ ap (λ (q : Bool). take st.front w ++ if_aside q b) (sym a);
              back = omega arith;
              rest = rest;
              aside = refl;
              depth = refl;
              trail = λ _. refl;
              stay = locals_same refl refl refl refl;
              store = refl;
              outs = record { text_up = omega arith; list_up = omega arith; text_rest = refl; list_rest = refl };
            });
      }

record_some : (b : List ℕ) → 1 ≤ length (enc_record b)
unfolding enc_record
record_some b = let a = length-append (to_be 2 (length b)) b in let c = to_be_length 2 (length b) in omega arith

pub error_some : (e : Error) → 1 ≤ length (enc_error e)
unfolding enc_error
error_some (Error.overriding k i) = record_some _
error_some (Error.reference k i a) = record_some _
error_some (Error.no_value i) = record_some _
error_some Error.missing_default = record_some _
error_some Error.cyclic = record_some _
error_some Error.too_many_placeables = record_some _

-- the rest of a front part
drop_take : (n m : ℕ) (l : List ℕ) → n ≤ length l → drop n (take (n + m) l) ≡ part l n m
drop_take n m l h =
    ap (drop n) (take-add n m l) ∙ drop_at (take n l) (take m (drop n l)) n (length-take-le n l h)

-- a list with bytes after those past its header
part_more : (l l' : List ℕ) (a n : ℕ) (b : List ℕ) → 5 ≤ a → a ≤ length l → n ≡ a + length b → length l' ≡ length l → take n l' ≡ take a l ++ b → part l' 5 (n - 5) ≡ part l 5 (a - 5) ++ b
part_more l l' a n b h k e len q =
    let e₁ : n ≡ 5 + (n - 5) = omega arith in
    let e₂ : a ≡ 5 + (a - 5) = omega arith in
    let d₁ : drop 5 (take n l') ≡ part l' 5 (n - 5) = ap (λ (i : ℕ). drop 5 (take i l')) e₁ ∙ drop_take 5 (n - 5) l' (omega arith) in
    let d₂ : drop 5 (take a l) ≡ part l 5 (a - 5) = ap (λ (i : ℕ). drop 5 (take i l)) e₂ ∙ drop_take 5 (a - 5) l (omega arith) in
    let d₃ : drop 5 (take a l ++ b) ≡ drop 5 (take a l) ++ b = drop-append-le 5 (take a l) b (let y = length-take-le a l k in omega arith) in
    sym d₁ ∙ ap (drop 5) q ∙ d₃ ∙ ap (λ (r : List ℕ). r ++ b) d₂

-- every record has bytes
errors_few : (es : List Error) → length es ≤ length (enc_all enc_error es)
unfolding enc_all
errors_few [] = omega arith
errors_few (x ∷ es) = let a = errors_few es in let b = error_some x in let c = length-append (enc_error x) (enc_all enc_error es) in omega arith

-- an error's record
module _ (i x l w t : List ℕ) (st : Progress) (er : Error) where
  pub list_full : {r : Progress} → (refused_of st) ≡ 0 → (5 ≤ st.list_at → st.list_at ≤ length l → min (length l) 4294967295 < st.list_at + length (enc_error er)) → r ≡ refuse_s refusal.ShortList st
      → Acts (emit (report er)) (world i x l w t st) (world i x l w t r)
  unfolding emit exec step allow allow_if and_then list_limit number_of
  list_full z h e = acts_refuse i x l w t st refusal.ShortList (emit (report er)) z
      (λ L s k lv.
      let n = listed_length er lv in
      let a = h lv.header_in lv.list_in in
      let p = lv.list_len in
      let o : min L.list_len 4294967295 < length (enc_errors (listed k.errors er)) = omega arith in
      rw (lt-leb _ _ o)) e

  pub list_in : {l' : List ℕ} {n m : ℕ} → n ≡ st.list_at + length (enc_error er) → (refused_of st) ≡ 0 → 1 ≤ length (enc_error er) → n ≤ length l → n ≤ 4294967295
      → m ≡ min (st.errors + 1) max_unfound → length l' ≡ length l → take n l' ≡ take st.list_at l ++ enc_error er → drop n l' ≡ drop n l
      → Acts (emit (report er)) (world i x l w t st) (world i x l' w t (list_s n m st))
  unfolding emit exec step allow allow_if and_then list_limit listed
  list_in {l'} {n} {m} ne z big h u me len e rest = record {
    kept = record { begun = omega arith; over = λ f. refl };
    runs = λ L s k lv.
        let q = listed_length er lv in
        let p = lv.list_len in
        let a = lv.header_in in
        let b = lv.list_in in
        let o : length (enc_errors (listed k.errors er)) ≤ min L.list_len 4294967295 = omega arith in
        let c : part l' 5 (n - 5) ≡ part l 5 (st.list_at - 5) ++ enc_error er = part_more l l' st.list_at n (enc_error er) a b ne len e in
        let es : length (k.errors ++ (er ∷ [])) ≡ length k.errors + 1 = length-append k.errors (er ∷ []) in
        let few = errors_few k.errors in
        let ln = ap length lv.listed in
        let lp : length (part l 5 (st.list_at - 5)) ≡ st.list_at - 5 = length-take-le (st.list_at - 5) (drop 5 l) (let y = length-drop 5 l in omega arith) in
        let er' = lv.errors in
        ended (record { written = k.written; errors = k.errors ++ (er ∷ []); nest = k.nest; used = k.used; high = k.high; begun = k.begun; expanded = k.expanded; unfounds = k.unfounds }) (rw (le-leb _ _ o))
        (record {
          go = lv.go;
          text_len = lv.text_len;
          list_len = len ∙ lv.list_len;
          work_len = lv.work_len;
          trail_len = lv.trail_len;
          text_in = lv.text_in;
          header_in = omega arith;
          list_in = omega arith;
          list_u32 = omega arith;
          front_in = lv.front_in;
          back_in = lv.back_in;
          written = lv.written;
          listed = all_append k.errors er ∙ ap (λ (q : List ℕ). q ++ enc_error er) lv.listed ∙ sym c;
          errors = omega arith;
          nest = lv.nest;
          uses = lv.uses;
          high = lv.high;
          unfounds = lv.unfounds;
          begun = lv.begun;
          machine_begun = lv.machine_begun;
          dirty = lv.dirty;
          few = lv.few;
          most = lv.most;
          locals = locals_alike refl refl refl refl refl refl refl lv.locals;
        })
        refl
        (record {
          front = sym (ap (λ (q : List ℕ). take st.front w ++ q) (aside_nil st.aside) ∙ append_nil _);
          back = omega arith;
          rest = refl;
          aside = refl;
          depth = refl;
          trail = λ _. refl;
          stay = locals_same refl refl refl refl;
          store = refl;
          outs = record { text_up = omega arith; list_up = omega arith; text_rest = refl; list_rest = rest };
        });
  }

-- a message that is not there, counted as far as the count goes
module _ (i x l w t : List ℕ) (st : Progress) where
  pub count_one : {n : ℕ} → (st.unfound ≤ max_unfound → n ≡ min (st.unfound + 1) max_unfound) → Acts (emit unfound) (world i x l w t st) (world i x l w t (unfound_s n st))
  unfolding emit exec step and_then
  count_one {n} e = record {
    kept = record { begun = omega arith; over = λ f. refl };
    runs = λ L s k lv.
        ended (record { written = k.written; errors = k.errors; nest = k.nest; used = k.used; high = k.high; begun = k.begun; expanded = k.expanded; unfounds = suc k.unfounds }) refl
        (record {
          go = lv.go;
          text_len = lv.text_len;
          list_len = lv.list_len;
          work_len = lv.work_len;
          trail_len = lv.trail_len;
          text_in = lv.text_in;
          header_in = lv.header_in;
          list_in = lv.list_in;
          list_u32 = lv.list_u32;
          front_in = lv.front_in;
          back_in = lv.back_in;
          written = lv.written;
          listed = lv.listed;
          errors = lv.errors;
          nest = lv.nest;
          uses = lv.uses;
          high = lv.high;
          unfounds = (let q = lv.unfounds in let p = e (omega arith) in omega arith);
          begun = lv.begun;
          machine_begun = lv.machine_begun;
          dirty = lv.dirty;
          few = lv.few;
          most = lv.most;
          locals = locals_alike refl refl refl refl refl refl refl lv.locals;
        })
        refl
        (record {
          front = sym (ap (λ (q : List ℕ). take st.front w ++ q) (aside_nil st.aside) ∙ append_nil _);
          back = omega arith;
          rest = refl;
          aside = refl;
          depth = refl;
          trail = λ _. refl;
          stay = locals_same refl refl refl refl;
          store = refl;
          outs = record { text_up = omega arith; list_up = omega arith; text_rest = refl; list_rest = refl };
        });
  }

-- so much does the count of the state
pub counts : {st r : Progress} → r ≡ counted_s st → (i x l w t : List ℕ) → Acts (emit unfound) (world i x l w t st) (world i x l w t r)
unfolding counted_s up_to
counts {st} e i x l w t = subst (λ (q : Progress). Acts (emit unfound) (world i x l w t st) (world i x l w t q)) (sym e) (count_one i x l w t st (λ _. refl))
