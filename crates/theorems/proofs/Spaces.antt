-- What a trace makes of the workspace, and writes to the text buffer: nothing is freed that is not at the workspace's back; in the end the newest text is longer by
-- what was written, or the text buffer has it where no text is open, and the back is longer by what was kept.
use mathlib.Core.Path.{◌≡◌, refl, ap, sym, ◌∙◌}
use mathlib.Core.List.{List, [], ◌∷◌, ◌++◌, append_assoc, append-nil}
use mathlib.Core.Bool.{Bool, true, false}
use mathlib.Core.Option.{Option, none, some}
use Prim.Native.Nat.{ℕ, ◌+◌, ◌≤◌}
use native.Mathlib.Omega.{arith}
use lib.ListN.{length, length-append}
use lib.Dec.{ltb}
use Rattle.records.specs.Tree.{Pattern}
use Rattle.entries.specs.Lookup.{Holder, Find}
use Rattle.resolution.specs.Effect.{Bytes, Effect, put, report, begin, expand, unfound, open_text, keep_text, free, merged, Trace, State, M, Done, ret, ◌>>=◌, ◌>>◌, emit, write, is_dirty, get_locals, set_locals, max_placeables, enter_if, enter, only_if, entered, capture, release}
use Rattle.resolution.specs.Resolve.{Setting, Trail, bytes_of, look_for, look_up, resolve}
use Rattle.resolution.specs.Format.{max_patterns, fresh}
use Rattle.theorems.specs.Finished.{trace_of}
use Rattle.theorems.specs.HighestUse.{Workspace, empty, longer, moved, workspace_after}
use Rattle.theorems.proofs.Walk.{Rel, Closed, r_resolve}
use Rattle.theorems.proofs.Kept.{keeps_none}

-- the workspace after a trace
abbrev pub space_after : Trace → Workspace → Workspace
space_after [] w = w
space_after (e ∷ t) w = space_after t (workspace_after e w)

-- what is freed is at the back
abbrev pub Freeable : Effect → Workspace → Type 0
Freeable (put b) w = Unit {0}
Freeable (report e) w = Unit {0}
Freeable begin w = Unit {0}
Freeable expand w = Unit {0}
Freeable unfound w = Unit {0}
Freeable open_text w = Unit {0}
Freeable keep_text w = Unit {0}
Freeable (free n) w = n ≤ w.back
Freeable (merged n) w = Unit {0}

abbrev pub AllFreeable : Trace → Workspace → Type 0
AllFreeable [] w = Unit {0}
AllFreeable (e ∷ t) w = Freeable e w × AllFreeable t (workspace_after e w)

-- what an effect writes to the text buffer: texts, where none is open in the workspace
abbrev pub out_to : List ℕ → Bytes → Bytes
out_to [] b = b
out_to (k ∷ ks) b = []

abbrev pub put_out : Effect → List ℕ → Bytes
put_out (put b) f = out_to f b
put_out (report e) f = []
put_out begin f = []
put_out expand f = []
put_out unfound f = []
put_out open_text f = []
put_out keep_text f = []
put_out (free n) f = []
put_out (merged n) f = []

abbrev pub text_out : Trace → Workspace → Bytes
text_out [] w = []
text_out (e ∷ t) w = put_out e w.front ++ text_out t (workspace_after e w)

-- the newest text is n bytes longer, and the back k
abbrev pub grown : ℕ → ℕ → Workspace → Workspace
grown n k w = record { front = longer n w.front; back = w.back + k }

pub record Spaced (t : Trace) (w : Workspace) (b : Bytes) (k : ℕ) : Type 0 where
  pub frees : AllFreeable t w
  pub leaves : space_after t w ≡ grown (length b) k w
  pub writes : text_out t w ≡ out_to w.front b

same_space : (f f' : List ℕ) (b b' : ℕ) → f ≡ f' → b ≡ b' → ◌≡◌ {A = Workspace} (record { front = f; back = b }) (record { front = f'; back = b' })
same_space f f' b b' p q = rw (p, q)

longer_none : (l : List ℕ) → longer 0 l ≡ l
unfolding longer
longer_none [] = refl
longer_none (k ∷ ks) = ap {B = List ℕ} (λ (n : ℕ). n ∷ ks) (omega arith)

longer_twice : (m n : ℕ) (l : List ℕ) → longer n (longer m l) ≡ longer (m + n) l
unfolding longer
longer_twice m n [] = refl
longer_twice m n (k ∷ ks) = ap {B = List ℕ} (λ (x : ℕ). x ∷ ks) (omega arith)

grown_none : (w : Workspace) → grown 0 0 w ≡ w
grown_none w = same_space _ _ _ _ (longer_none w.front) (omega arith)

grown_twice : (m n j k : ℕ) (w : Workspace) → grown n k (grown m j w) ≡ grown (m + n) (j + k) w
grown_twice m n j k w = same_space _ _ _ _ (longer_twice m n w.front) (omega arith)

after_append : (a b : Trace) (w : Workspace) → space_after (a ++ b) w ≡ space_after b (space_after a w)
after_append [] b w = refl
after_append (e ∷ a) b w = after_append a b (workspace_after e w)

frees_append : (a b : Trace) (w : Workspace) → AllFreeable a w → AllFreeable b (space_after a w) → AllFreeable (a ++ b) w
frees_append [] b w h k = k
frees_append (e ∷ a) b w h k = (h.0, frees_append a b (workspace_after e w) h.1 k)

out_append : (a b : Trace) (w : Workspace) → text_out (a ++ b) w ≡ text_out a w ++ text_out b (space_after a w)
out_append [] b w = refl
out_append (e ∷ a) b w =
    ap (λ (x : Bytes). put_out e w.front ++ x) (out_append a b (workspace_after e w)) ∙ sym (append_assoc (put_out e w.front) (text_out a (workspace_after e w)) _)

-- a text is open where one was, however long it is
out_longer : (n : ℕ) (l : List ℕ) (b : Bytes) → out_to (longer n l) b ≡ out_to l b
unfolding longer
out_longer n [] b = refl
out_longer n (k ∷ ks) b = refl

out_both : (l : List ℕ) (a b : Bytes) → out_to l a ++ out_to l b ≡ out_to l (a ++ b)
out_both [] a b = refl
out_both (k ∷ ks) a b = refl

out_none : (l : List ℕ) → out_to l [] ≡ []
out_none [] = refl
out_none (k ∷ ks) = refl

-- one trace, then another
both : (a b : Trace) (w : Workspace) (x y : Bytes) (j k : ℕ) → Spaced a w x j → ((v : Workspace) → Spaced b v y k) → Spaced (a ++ b) w (x ++ y) (j + k)
both a b w x y j k p q =
    let v : Workspace = space_after a w in
    let same : out_to v.front y ≡ out_to w.front y = ap (λ (u : Workspace). out_to u.front y) p.leaves ∙ out_longer (length x) w.front y in
    record {
      frees = frees_append a b w p.frees (q v).frees;
      leaves =
          after_append a b w ∙ (q v).leaves ∙ ap (λ (u : Workspace). grown (length y) k u) p.leaves ∙ grown_twice (length x) (length y) j k w
          ∙ ap (λ (n : ℕ). grown n (j + k) w) (sym (length-append x y));
      writes = out_append a b w ∙ ap (λ (z : Bytes). z ++ text_out b v) p.writes ∙ ap (λ (z : Bytes). out_to w.front x ++ z) ((q v).writes ∙ same) ∙ out_both w.front x y;
    }

nothing : (w : Workspace) → Spaced [] w [] 0
nothing w = record { frees = tt; leaves = sym (grown_none w); writes = sym (out_none w.front) }

-- the trace of every action does so, by the text that it writes and the bytes that it keeps
abbrev pub Spaces : Rel
Spaces A a a' = (s : State) (w : Workspace) → Spaced (a s).trace w (a s).text (a s).kept

spaces_bind : {A B : Type 0} (x : M A) (f : A → M B) → Spaces A x x → ((a : A) → Spaces B (f a) (f a)) → Spaces B (x >>= f) (x >>= f)
unfolding ◌>>=◌
spaces_bind x f h k s w =
    let q = f (x s).value (x s).state in
    both (x s).trace q.trace w (x s).text q.text (x s).kept q.kept (h s w) (k (x s).value (x s).state)

spaces_then : {A B : Type 0} (x : M A) (y : M B) → Spaces A x x → Spaces B y y → Spaces B (x >> y) (x >> y)
unfolding ◌>>◌
spaces_then x y h k = spaces_bind x (λ a. y) h (λ a. k)

-- an effect that leaves the workspace as it is, and writes nothing
quiet : (e : Effect) (w : Workspace) → Freeable e w → workspace_after e w ≡ w → put_out e w.front ≡ [] → Spaced (e ∷ []) w [] 0
quiet e w f h q = record { frees = (f, tt); leaves = h ∙ sym (grown_none w); writes = ap {B = Bytes} (λ (x : Bytes). x ++ []) q ∙ sym (out_none w.front) }

spaces_write : (b : Bytes) → Spaces Done (write b) (write b)
unfolding write workspace_after
spaces_write b s w = record { frees = (tt, tt); leaves = same_space _ _ _ _ refl (omega arith); writes = append-nil _ }

spaces_capture : (x : M Done) → Spaces Done x x → Spaces Bytes (capture x) (capture x)
unfolding capture workspace_after moved longer
spaces_capture x h s w =
    let r = x s in
    let v : Workspace = record { front = 0 ∷ w.front; back = w.back } in
    let p : Spaced r.trace v r.text r.kept = h s v in
    record {
      frees = (tt, frees_append r.trace (keep_text ∷ []) v p.frees (tt, tt));
      leaves =
          after_append r.trace (keep_text ∷ []) v ∙ ap (λ (u : Workspace). workspace_after keep_text u) p.leaves
          ∙ same_space _ _ _ _ (sym (longer_none w.front)) (omega arith);
      writes = out_append r.trace (keep_text ∷ []) v ∙ append-nil _ ∙ p.writes ∙ sym (out_none w.front);
    }

spaces_release : {A : Type 0} (x : M A) → Spaces A x x → Spaces A (release x) (release x)
unfolding release workspace_after
spaces_release x h s w =
    let r = x s in
    let p : Spaced r.trace w r.text r.kept = h s w in
    let back : (space_after r.trace w).back ≡ w.back + r.kept = ap (λ (u : Workspace). u.back) p.leaves in
    record {
      frees = frees_append r.trace (free r.kept ∷ []) w p.frees (omega (arith, back), tt);
      leaves =
          after_append r.trace (free r.kept ∷ []) w ∙ ap (λ (u : Workspace). workspace_after (free r.kept) u) p.leaves
          ∙ same_space _ _ _ _ refl (omega arith);
      writes = out_append r.trace (free r.kept ∷ []) w ∙ append-nil _ ∙ p.writes;
    }

spaces_enter_if : (b few : Bool) → Spaces Bool (enter_if b few) (enter_if b few)
unfolding enter_if workspace_after
spaces_enter_if true few s w = nothing w
spaces_enter_if false true s w = quiet begin w tt refl refl
spaces_enter_if false false s w = record { frees = (tt, (tt, tt)); leaves = sym (grown_none w); writes = sym (out_none w.front) }

spaces_enter : Spaces Bool enter enter
unfolding enter
spaces_enter s = spaces_enter_if s.dirty (ltb s.begun max_placeables) s

spaces_only : (x : M Done) → Spaces Done x x → (b : Bool) → Spaces Done (only_if b x) (only_if b x)
unfolding only_if ret
spaces_only x h true = h
spaces_only x h false = λ s w. nothing w

spaces_expand : Spaces Done (emit expand) (emit expand)
unfolding emit workspace_after
spaces_expand s w = quiet expand w tt refl refl

spaces_entered : (b x : M Done) → Spaces Done b b → Spaces Done x x → Spaces Done (entered b x) (entered b x)
unfolding entered
spaces_entered b x g h =
    let n = spaces_then b (emit expand >> x) g (spaces_then (emit expand) x spaces_expand h) in
    spaces_bind enter (λ go. only_if go (b >> (emit expand >> x))) spaces_enter (λ go. spaces_only (b >> (emit expand >> x)) n go)

spaces_closed : Closed (λ k. Spaces)
unfolding ret emit is_dirty get_locals set_locals workspace_after
spaces_closed = record {
  r_ret = λ {k} {A} a s w. nothing w;
  r_bind = λ {k} {A} {B} {m} {m'} {f} {f'} h l. spaces_bind m f h l;
  r_report = λ {k} e p s w. quiet (report e) w tt refl refl;
  r_merged = λ {k} n s w. quiet (merged n) w tt refl refl;
  r_write = λ {k} b. spaces_write b;
  r_dirty = λ {k} s w. nothing w;
  r_get = λ {k} s w. nothing w;
  r_set = λ {k} l s w. nothing w;
  r_entered = λ {k} {b} {b'} {m} {m'} h l. spaces_entered b m h l;
  r_capture = λ {k} {m} {m'} h. spaces_capture m h;
  r_release = λ {k} {A} {m} {m'} h. spaces_release m h;
}

spaces_look_for : (x : Option Holder) → Spaces (Option Holder) (look_for x) (look_for x)
unfolding look_for workspace_after
spaces_look_for none s w = quiet unfound w tt refl refl
spaces_look_for (some e) s w = nothing w

spaces_look : (find : Find) (i : Bytes) → Spaces (Option Holder) (look_up find i) (look_up find i)
unfolding look_up
spaces_look find i = spaces_look_for (find i)

-- the trace of every resolution
pub spaced : (st : Setting) (find : Find) (n : ℕ) (p : Pattern) (t : Trail) → Spaces Done (resolve st find n p t) (resolve st find n p t)
spaced st find n p t = r_resolve Spaces spaces_closed find find (spaces_look find) st n p t

-- that of a formatting frees only what is there, and leaves an empty workspace empty
pub record Empties (t : Trace) : Type 0 where
  pub frees : AllFreeable t empty
  pub leaves : space_after t empty ≡ empty

pub traces_empty : (st : Setting) (find : Find) (p : Pattern) → Empties (trace_of st find p)
unfolding empty longer
traces_empty st find p =
    let r : Spaced (trace_of st find p) empty (resolve st find max_patterns p (bytes_of p ∷ []) fresh).text (resolve st find max_patterns p (bytes_of p ∷ []) fresh).kept = spaced st find max_patterns p (bytes_of p ∷ []) fresh empty in
    record { frees = r.frees; leaves = r.leaves ∙ same_space _ _ _ _ refl (omega (arith, keeps_none st find max_patterns p (bytes_of p ∷ []) fresh)) }
