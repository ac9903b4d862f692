-- The workspace figure of a formatting: it is the highest use, it decides which workspace is enough, and additions do not change it.
use mathlib.Core.Path.{◌≡◌, refl, ap, sym, ◌∙◌}
use mathlib.Core.List.{List}
use mathlib.Core.Bool.{true}
use mathlib.Core.Option.{Option, some}
use Prim.Native.Nat.{ℕ, ◌≤◌, ◌<◌}
use native.Mathlib.Omega.{arith}
use lib.ListN.{length, take}
use lib.Dec.{leb}
use lib.Seq.{take-append_seam}
use borrow.Author.Tests.{leb-true, le-leb}
use Rattle.records.specs.Tree.{Pattern}
use Rattle.records.specs.Images.{Entry, Store, Argument}
use Rattle.order.specs.Accepted.{accepted, judge}
use Rattle.records.specs.Errors.{enc_errors, list_header}
use Rattle.entries.specs.Lookup.{Find, find_in, part_of}
use Rattle.growth.specs.Items.{at_front}
use Rattle.resolution.specs.Effect.{Bytes}
use Rattle.resolution.specs.Resolve.{Setting, as_message}
use Rattle.resolution.specs.Exec.{Machine, Ran, ran, refused, start}
use Rattle.resolution.specs.Format.{Answer, finished, refused_before, refused_running, Buffers, Formatted, limits_of, refuse, ended, run_pattern, format}
use Rattle.theorems.specs.Finished.{trace_of, setting_of, Reached, Finished}
use Rattle.theorems.specs.Steadiness.{slices_after, Longer, Same}
use Rattle.theorems.specs.HighestUse.{empty, highest, arguments_use, part_use, entry_use, message_use, store_use, highest_use}
use Rattle.theorems.specs.Figures.{FigureIs, FiguresHighest, AsLong, FinishesAlike, Decides, FiguresExact, FiguresUnchanged, ShortWorkspaces}
use Rattle.theorems.proofs.Work.{AsWide, work_enough, work_short}
use Rattle.theorems.proofs.Within.{within}
use Rattle.theorems.proofs.Highest.{Resting, MessageRun, message_highest, message_starved}
use Rattle.theorems.proofs.Lists.{list_of_front}
use Rattle.theorems.proofs.Judged.{Judged, run_of, reached_ends, judged}
use Rattle.theorems.proofs.Parts.{parts, finish, says}
use Rattle.theorems.proofs.Steadiness.{steadiness}

-- the highest use of a message that has its parts
pub message_use_law : (v : Store) (id : Bytes) (a : Option Bytes) (image : Bytes) (e : Entry) → as_message (find_in v.items id) ≡ some e
    → (p : Pattern) → part_of a e ≡ some p → (args : List (Bytes × Argument)) → judge image ≡ accepted args
    → message_use v id a image ≡ highest (trace_of (setting_of v args) (find_in v.items) p) empty
unfolding message_use entry_use part_use arguments_use
message_use_law v id a image e found p has args given = rw found (rw has (rw given))

reached_use : (s id : Bytes) (a : Option Bytes) (image : Bytes) (b : Buffers) (r : Reached s id a image b)
    → highest_use s id a image ≡ highest (trace_of (setting_of r.store r.arguments) (find_in r.store.items) r.part) empty
unfolding highest_use store_use
reached_use s id a image b r = rw r.stored (message_use_law r.store id a image r.entry r.found r.part r.has r.arguments r.given)

pub start_rests : Resting start
unfolding start
start_rests = record { nest = refl; used = refl }

-- "exactly the highest use by the definition"
pub figures_highest : FiguresHighest
unfolding run_pattern start
figures_highest s id a image b t e k u w h =
    let f = parts s id a image b t e k u w h in
    let r = f.reached in
    let st : Setting = setting_of r.store r.arguments in
    let find : Find = find_in r.store.items in
    let m : MessageRun (trace_of st find r.part) start f.machine = message_highest (limits_of b) st find r.part start start_rests f.machine f.runs in
    omega (arith, (says s id a image b f t e k u w h).work, m.high, reached_use s id a image b r)

-- a figure is n, where every figure that is answered is
pub figure_is : (x : Answer) (n : ℕ) → ((t e k u w : ℕ) → x ≡ finished t e k u w → w ≡ n) → FigureIs x n
figure_is (finished t e k u w) n h = h t e k u w refl
figure_is (refused_before c) n h = tt
figure_is (refused_running c) n h = tt

-- so of every answer
pub answers_highest : (s id : Bytes) (a : Option Bytes) (image : Bytes) (b : Buffers) → FigureIs (format s id a image b).answer (highest_use s id a image)
answers_highest s id a image b = figure_is (format s id a image b).answer (highest_use s id a image) (figures_highest s id a image b)

-- text and list as long, as lengths
pub as_wide : (b b' : Buffers) → AsLong b b' → AsWide (limits_of b) (limits_of b')
unfolding limits_of
as_wide b b' l = record { text = l.text; list = l.list }

pub header_again : (b b' : Buffers) → AsLong b b' → leb list_header (length b.list) ≡ true → leb list_header (length b'.list) ≡ true
header_again b b' l h = le-leb list_header (length b'.list) (omega (arith, leb-true list_header (length b.list) h, l.list))

-- the parts of a formatting are there in other buffers too
reached_again : (s id : Bytes) (a : Option Bytes) (image : Bytes) (b b' : Buffers) → AsLong b b' → Reached s id a image b → Reached s id a image b'
reached_again s id a image b b' l r = record {
  store = r.store;
  store_end = r.store_end;
  stored = r.stored;
  ids = r.ids;
  entry = r.entry;
  found = r.found;
  part = r.part;
  has = r.has;
  arguments = r.arguments;
  given = r.given;
  header = header_again b b' l r.header;
}

pub front_taken : (x l : Bytes) → take (length x) (at_front x l) ≡ x
unfolding at_front
front_taken x l = take-append_seam x _

-- one machine's end in two triples of buffers
pub alike_end : (m : Machine) (b b' : Buffers) (t : ℕ) → t ≡ length m.written → length (enc_errors m.errors) ≤ 4294967295
    → FinishesAlike t (ended (ran m) b) b' (ended (ran m) b')
unfolding ended
alike_end m b b' t q h = record {
  answer = refl;
  text = ap (λ (x : Bytes). at_front x b'.text) (sym (ap (λ (n : ℕ). take n (at_front m.written b.text)) q ∙ front_taken m.written b.text));
  list = ap (λ (x : Bytes). at_front x b'.list) (sym (list_of_front m.errors b.list h));
  work = refl;
}

module _ (s id : Bytes) (a : Option Bytes) (image : Bytes) (b : Buffers) (t e k u w : ℕ) (h : (format s id a image b).answer ≡ finished t e k u w) where
  -- a workspace of the figure, or a longer one
  enough : (b' : Buffers) → AsLong b b' → w ≤ length b'.work → FinishesAlike t (format s id a image b) b' (format s id a image b')
  unfolding run_pattern limits_of reached_again
  enough b' l le =
      let f = parts s id a image b t e k u w h in
      let y = says s id a image b f t e k u w h in
      let r = reached_again s id a image b b' l f.reached in
      let tr = trace_of (setting_of r.store r.arguments) (find_in r.store.items) r.part in
      let g : Finished s id a image b' = record { reached = r; machine = f.machine; runs = work_enough (limits_of b) (limits_of b') (as_wide b b' l) tr start f.machine (omega (arith, y.work, le)) f.runs } in
      let fits = within (limits_of b) (setting_of r.store r.arguments) (find_in r.store.items) r.part f.machine f.runs in
      rw (finish s id a image b f, finish s id a image b' g) (alike_end f.machine b b' t y.text fits.stated)

  -- a shorter one
  short : (b' : Buffers) → AsLong b b' → length b'.work < w → format s id a image b' ≡ ended (refused 16) b'
  unfolding run_pattern limits_of start reached_again
  short b' l lt =
      let f = parts s id a image b t e k u w h in
      let y = says s id a image b f t e k u w h in
      let r = reached_again s id a image b b' l f.reached in
      let tr = trace_of (setting_of r.store r.arguments) (find_in r.store.items) r.part in
      reached_ends s id a image b' r
      ∙ ap (λ (x : Ran). ended x b') (work_short (limits_of b) (limits_of b') (as_wide b b' l) tr start f.machine (omega arith) (omega (arith, y.work, lt)) f.runs)

-- "A workspace of that length finishes alike, and for a figure above 0 one byte less gives 16"
pub figures_exact : FiguresExact
figures_exact s id a image b t e k u w h = record { enough = enough s id a image b t e k u w h; short = short s id a image b t e k u w h }

-- what F gave in b, G gives too
pub decides_again : (F G : Buffers → Formatted) (b : Buffers) (t w : ℕ) → Same t (F b) (G b) → Decides G G b t w → Decides F G b t w
decides_again F G b t w same d = record {
  enough = λ b' l le. let x : FinishesAlike t (G b) b' (G b') = d.enough b' l le in
      record {
        answer = x.answer ∙ same.answer;
        text = x.text ∙ ap (λ (y : Bytes). at_front y b'.text) same.text;
        list = x.list ∙ ap (λ (y : Bytes). at_front y b'.list) same.list;
        work = x.work;
      };
  short = d.short;
}

pub as_itself : (b : Buffers) → Longer b b
as_itself b = record { text = omega arith; list = omega arith; work = omega arith }

-- "The exact figure joins what additions can't change"
pub figures_unchanged : FiguresUnchanged
figures_unchanged s oct xs bytes id a image b t e k w h =
    let same : Same t (format s id a image b) (format (slices_after xs s) id a image b) = steadiness s oct xs bytes id a image b b (as_itself b) t e k w h in
    let again : (format (slices_after xs s) id a image b).answer ≡ finished t e k 0 w = same.answer ∙ h in
    let first : w ≡ highest_use s id a image = figures_highest s id a image b t e k 0 w h in
    record {
      same = sym (figures_highest (slices_after xs s) id a image b t e k 0 w again) ∙ first;
      figure = first;
      decides = decides_again (format s id a image) (format (slices_after xs s) id a image) b t w same (figures_exact (slices_after xs s) id a image b t e k 0 w again);
    }

pub not_refused_before : (n c : ℕ) → refused_before n ≡ refused_running c → ⊥
not_refused_before n c h = let z : ◌≡◌ {A = ℕ} 0 1 = cc in omega arith

-- a run that ended in a refusal was refused with it
ended_refused : (r : Ran) (b : Buffers) (c : ℕ) → (ended r b).answer ≡ refused_running c → r ≡ refused c
unfolding ended
ended_refused (ran m) b c h = absurd (let z : ◌≡◌ {A = ℕ} 0 1 = cc in omega arith)
ended_refused (refused n) b c h = cc

-- 16 only where the workspace is shorter than the highest use
pub short_workspaces : ShortWorkspaces
unfolding refuse run_pattern limits_of
short_workspaces s id a image b h = go (judged s id a image b)
  where
    go : Judged s id a image b → length b.work < highest_use s id a image
    go (Judged.before n q) = absurd (not_refused_before n 16 (sym (ap (λ (x : Formatted). x.answer) q) ∙ h))
    go (Judged.reached r) =
        let starved : run_of s id a image b r ≡ refused 16 = ended_refused (run_of s id a image b r) b 16 (sym (ap (λ (x : Formatted). x.answer) (reached_ends s id a image b r)) ∙ h) in
        omega (arith, reached_use s id a image b r, message_starved (limits_of b) (setting_of r.store r.arguments) (find_in r.store.items) r.part start start_rests starved)
