-- The workspace figure of a sheet: it is the largest of its messages' highest uses, it decides which workspace is enough, and additions do not change it.
use mathlib.Core.Path.{◌≡◌, refl, ap, sym, subst, ◌∙◌}
use mathlib.Core.List.{List, [], ◌∷◌, ◌++◌}
use mathlib.Core.Bool.{Bool, true, false}
use mathlib.Core.Option.{Option, none, some}
use Prim.Native.Nat.{ℕ, ◌≤◌, ◌<◌, max}
use native.Mathlib.Omega.{arith}
use lib.ListN.{length}
use lib.Dec.{leb}
use borrow.Author.Tests.{leb-true, leb-false}
use Rattle.records.specs.Got.{got}
use Rattle.records.specs.Tree.{Pattern}
use Rattle.records.specs.Images.{Entry, Store, store_of}
use Rattle.order.specs.Accepted.{Judged, accepted, refused_for, judge}
use Rattle.order.proofs.Accepted.{refused_with}
use Rattle.entries.specs.Lookup.{find_in, part_of}
use Rattle.resolution.specs.Effect.{Bytes, Trace}
use Rattle.resolution.specs.Resolve.{as_message}
use Rattle.resolution.specs.Exec.{Machine, Limits, Ran, ran, refused, exec, start}
use Rattle.resolution.specs.Format.{finished, refused_running, Buffers, Formatted, limits_of, refuse, ended}
use Rattle.theorems.specs.Finished.{trace_of, setting_of, Says}
use Rattle.theorems.specs.Steadiness.{Same, slices_after}
use Rattle.theorems.specs.HighestUse.{arguments_use, part_use, entry_use, message_use}
use Rattle.theorems.specs.Figures.{FigureIs, AsLong, FinishesAlike}
use Rattle.theorems.proofs.Runs.{same_machine, same_refusal}
use Rattle.theorems.proofs.Work.{AsWide, exec_high, work_enough, work_short}
use Rattle.theorems.proofs.Highest.{Resting, MessageRun, message_highest, message_starved}
use Rattle.theorems.proofs.Figures.{message_use_law, start_rests, figure_is, as_wide, header_again, alike_end, decides_again, as_itself, not_refused_before}
use Rattle.requests.specs.Image.{Request, sheet_of}
use Rattle.sheets.specs.Sheet.{run_arguments, run_part, run_entry, run_message, run_sheet, format_sheet}
use Rattle.sheets.specs.Refused.{cleared}
use Rattle.sheet_theorems.specs.HighestUse.{largest_use, requests_use, sheet_use, sheet_highest_use}
use Rattle.sheet_theorems.specs.ClaimsRefusals.{FirstRefusal, SheetAnswers}
use Rattle.sheet_theorems.specs.ClaimsFigures.{SheetFiguresHighest, SheetFiguresExact, SheetFiguresUnchanged, SheetShortWorkspaces}
use Rattle.sheet_theorems.proofs.Messages.{sheet_runs, message_runs, sheet_next, sheet_stops, RanOn, message_ran, First, first_ran}
use Rattle.sheet_theorems.proofs.Parts.{Finishes, sheet_ends, finishes, sheet_says, sheet_within}
use Rattle.sheet_theorems.proofs.Steadiness.{sheet_same}
use Rattle.sheet_theorems.proofs.Refusals.{sheet_answers}

-- the trace of a message that ran
abbrev traced : {v : Store} {L : Limits} {r : Request} {n n' : Machine} → RanOn v L r n n' → Trace
traced {v = v} g = trace_of (setting_of v g.arguments) (find_in v.items) g.part

-- the highest use of one of several messages
one_of_use : (v : Store) (before after : List Request) (r : Request) → message_use v r.id r.attribute r.image ≤ largest_use v (before ++ (r ∷ after))
unfolding largest_use
one_of_use v [] after r = omega arith
one_of_use v (x ∷ before) after r = omega (arith, one_of_use v before after r)

module _ (v : Store) (L : Limits) where
  -- after messages from a machine at rest: at rest again, and the highest use the largest
  record Largest (rs : List Request) (n n' : Machine) : Type 0 where
    rest : Resting n'
    high : n'.high ≡ max n.high (largest_use v rs)

  messages_highest : (rs : List Request) (n n' : Machine) → Resting n → run_sheet v L rs n ≡ ran n' → Largest rs n n'
  unfolding run_sheet largest_use
  messages_highest [] n n' z h = subst (λ (m : Machine). Largest [] n m) (same_machine n n' h) (record { rest = z; high = omega arith })
  messages_highest (r ∷ rs) n n' z h =
      let o : First v L r rs n n' = first_ran v L r rs n n' h in
      let g : RanOn v L r n o.mid = message_ran v L n o.mid r o.first in
      let m : MessageRun (traced g) n o.mid = message_highest L (setting_of v g.arguments) (find_in v.items) g.part n z o.mid g.runs in
      let l : Largest rs o.mid n' = messages_highest rs o.mid n' m.rest o.rest in
      record { rest = l.rest; high = omega (arith, l.high, m.high, message_use_law v r.id r.attribute r.image g.entry g.found g.part g.has g.arguments g.given) }

  -- a message is refused with 16 only where the workspace is shorter than its highest use
  module _ (n : Machine) (z : Resting n) where
    arguments_starved : (p : Pattern) (g : Judged) → ((c : ℕ) → g ≡ refused_for c → c ≡ 16 → ⊥) → run_arguments v L p g n ≡ refused 16 → L.work_len < arguments_use v p g
    unfolding run_arguments arguments_use
    arguments_starved p (refused_for c) k h = absurd (k c refl (same_refusal c 16 h))
    arguments_starved p (accepted l) k h = message_starved L (setting_of v l) (find_in v.items) p n z h

    part_starved : (o : Option Pattern) (image : Bytes) → run_part v L o image n ≡ refused 16 → L.work_len < part_use v o image
    unfolding run_part part_use
    part_starved none image h = absurd (omega (arith, same_refusal 12 16 h))
    part_starved (some p) image h = arguments_starved p (judge image) (refused_with (λ (c : ℕ). c ≡ 16 → ⊥) (λ e. omega arith) (λ e. omega arith) image) h

    entry_starved : (o : Option Entry) (a : Option Bytes) (image : Bytes) → run_entry v L o a image n ≡ refused 16 → L.work_len < entry_use v o a image
    unfolding run_entry entry_use
    entry_starved none a image h = absurd (omega (arith, same_refusal 11 16 h))
    entry_starved (some e) a image h = part_starved (part_of a e) image h

    request_starved : (r : Request) → run_message v L r n ≡ refused 16 → L.work_len < message_use v r.id r.attribute r.image
    unfolding run_message message_use
    request_starved r h = entry_starved (as_message (find_in v.items r.id)) r.attribute r.image h

  -- the highest use never falls
  sheet_high : (rs : List Request) (n n' : Machine) → run_sheet v L rs n ≡ ran n' → n.high ≤ n'.high
  unfolding run_sheet
  sheet_high [] n n' h = omega (arith, ap (λ (m : Machine). m.high) (same_machine n n' h))
  sheet_high (r ∷ rs) n n' h =
      let o : First v L r rs n n' = first_ran v L r rs n n' h in
      let g : RanOn v L r n o.mid = message_ran v L n o.mid r o.first in
      omega (arith, exec_high L (traced g) n o.mid g.runs, sheet_high rs o.mid n' o.rest)

module _ (v : Store) (L L' : Limits) (wide : AsWide L L') where
  -- a message in other buffers
  elsewhere : (r : Request) (n n' : Machine) (g : RanOn v L r n n') → run_message v L' r n ≡ exec L' (traced g) n
  elsewhere r n n' g = message_runs v L' r n g.entry g.found g.part g.has g.arguments g.given

  -- a workspace that holds the highest use: the same run
  sheet_enough : (rs : List Request) (n n' : Machine) → n'.high ≤ L'.work_len → run_sheet v L rs n ≡ ran n' → run_sheet v L' rs n ≡ ran n'
  unfolding run_sheet
  sheet_enough [] n n' le h = h
  sheet_enough (r ∷ rs) n n' le h =
      let o : First v L r rs n n' = first_ran v L r rs n n' h in
      let g : RanOn v L r n o.mid = message_ran v L n o.mid r o.first in
      let up : o.mid.high ≤ L'.work_len = omega (arith, sheet_high v L rs o.mid n' o.rest, le) in
      sheet_next v L' r rs n o.mid (elsewhere r n o.mid g ∙ work_enough L L' wide (traced g) n o.mid up g.runs) ∙ sheet_enough rs o.mid n' le o.rest

  -- one that does not: 16
  sheet_short : (rs : List Request) (n n' : Machine) → n.high ≤ L'.work_len → L'.work_len < n'.high → run_sheet v L rs n ≡ ran n' → run_sheet v L' rs n ≡ refused 16
  unfolding run_sheet
  sheet_short [] n n' le lt h = absurd (omega (arith, ap (λ (m : Machine). m.high) (same_machine n n' h)))
  sheet_short (r ∷ rs) n n' le lt h =
      let o : First v L r rs n n' = first_ran v L r rs n n' h in
      go o (message_ran v L n o.mid r o.first) (leb o.mid.high L'.work_len) refl (sheet_short rs o.mid n')
    where
      go : (o : First v L r rs n n') (g : RanOn v L r n o.mid) (b : Bool) → leb o.mid.high L'.work_len ≡ b
          → (o.mid.high ≤ L'.work_len → L'.work_len < n'.high → run_sheet v L rs o.mid ≡ ran n' → run_sheet v L' rs o.mid ≡ refused 16)
          → run_sheet v L' (r ∷ rs) n ≡ refused 16
      go o g true q ih =
          sheet_next v L' r rs n o.mid (elsewhere r n o.mid g ∙ work_enough L L' wide (traced g) n o.mid (leb-true _ _ q) g.runs)
          ∙ ih (leb-true _ _ q) lt o.rest
      go o g false q ih = sheet_stops v L' r rs n 16 (elsewhere r n o.mid g ∙ work_short L L' wide (traced g) n o.mid le (leb-false _ _ q) g.runs)

-- the highest use of a sheet that is read
sheet_use_law : (s image : Bytes) (v : Store) (i : ℕ) → store_of s ≡ got v i → (rs : List Request) (j : ℕ) → sheet_of image ≡ got rs j → sheet_highest_use s image ≡ largest_use v rs
unfolding sheet_highest_use sheet_use requests_use
sheet_use_law s image v i stored rs j read = rw stored (rw read)

-- "for a sheet the largest of its messages'"
pub sheet_figures_highest : SheetFiguresHighest
unfolding start
sheet_figures_highest s image b t e k u w h =
    let f : Finishes s image b = finishes s image b t e k u w h in
    let l : Largest f.store (limits_of b) f.requests start f.machine = messages_highest f.store (limits_of b) f.requests start f.machine start_rests f.runs in
    omega (arith, (sheet_says s image b t e k u w f h).work, l.high, sheet_use_law s image f.store f.store_end f.stored f.requests f.requests_end f.read)

-- so of every answer
pub sheet_answers_highest : (s image : Bytes) (b : Buffers) → FigureIs (format_sheet s image b).answer (sheet_highest_use s image)
sheet_answers_highest s image b = figure_is (format_sheet s image b).answer (sheet_highest_use s image) (sheet_figures_highest s image b)

module _ (s image : Bytes) (b : Buffers) (t e k u w : ℕ) (h : (format_sheet s image b).answer ≡ finished t e k u w) (b' : Buffers) (l : AsLong b b') where
  enough : w ≤ length b'.work → FinishesAlike t (format_sheet s image b) b' (format_sheet s image b')
  unfolding limits_of
  enough le =
      let f : Finishes s image b = finishes s image b t e k u w h in
      let y : Says f.machine t e k u w = sheet_says s image b t e k u w f h in
      let g : Finishes s image b' = record {
        store = f.store;
        store_end = f.store_end;
        stored = f.stored;
        requests = f.requests;
        requests_end = f.requests_end;
        read = f.read;
        header = header_again b b' l f.header;
        machine = f.machine;
        runs = sheet_enough f.store (limits_of b) (limits_of b') (as_wide b b' l) f.requests start f.machine (omega (arith, y.work, le)) f.runs;
      } in
      rw (sheet_ends s image b f, sheet_ends s image b' g)
      (alike_end f.machine b b' t y.text (sheet_within f.store (limits_of b) f.requests f.machine f.runs).stated)

  short : length b'.work < w → format_sheet s image b' ≡ ended (refused 16) b'
  unfolding limits_of start
  short lt =
      let f : Finishes s image b = finishes s image b t e k u w h in
      let y : Says f.machine t e k u w = sheet_says s image b t e k u w f h in
      sheet_runs s image b' f.store f.store_end f.stored f.requests f.requests_end f.read (header_again b b' l f.header)
      ∙ ap (λ (r : Ran). ended r b') (sheet_short f.store (limits_of b) (limits_of b') (as_wide b b' l) f.requests start f.machine (omega arith) (omega (arith, y.work, lt)) f.runs)

-- "A workspace of that length finishes alike, and for a figure above 0 one byte less gives 16"
pub sheet_figures_exact : SheetFiguresExact
sheet_figures_exact s image b t e k u w h = record { enough = enough s image b t e k u w h; short = short s image b t e k u w h }

-- "The exact figure joins what additions can't change"
pub sheet_figures_unchanged : SheetFiguresUnchanged
sheet_figures_unchanged s oct xs bytes image b t e k w h =
    let same : Same t (format_sheet s image b) (format_sheet (slices_after xs s) image b) = sheet_same s oct xs bytes image b b (as_itself b) t e k w h in
    let again : (format_sheet (slices_after xs s) image b).answer ≡ finished t e k 0 w = same.answer ∙ h in
    let first : w ≡ sheet_highest_use s image = sheet_figures_highest s image b t e k 0 w h in
    record {
      same = sym (sheet_figures_highest (slices_after xs s) image b t e k 0 w again) ∙ first;
      figure = first;
      decides = decides_again (format_sheet s image) (format_sheet (slices_after xs s) image) b t w same (sheet_figures_exact (slices_after xs s) image b t e k 0 w again);
    }

not_finished : (t e k u w c : ℕ) → finished t e k u w ≡ refused_running c → ⊥
not_finished t e k u w c h = let z : ◌≡◌ {A = ℕ} 0 1 = cc in omega arith

same_running : (a b : ℕ) → refused_running a ≡ refused_running b → a ≡ b
same_running a b h = cc

-- a refused message's highest use is no more than the sheet's
refused_starved : (s image : Bytes) (b : Buffers) → FirstRefusal s image b 16 → length b.work < sheet_highest_use s image
unfolding limits_of
refused_starved s image b f =
    let l : Largest f.bundle (limits_of b) f.before start f.machine = messages_highest f.bundle (limits_of b) f.before start f.machine start_rests f.ran_before in
    omega (arith, request_starved f.bundle (limits_of b) f.machine l.rest f.refusing f.is_refused, one_of_use f.bundle f.before f.after f.refusing, sheet_use_law s image f.bundle f.bundle_end f.stored (f.before ++ (f.refusing ∷ f.after)) f.requests_end f.read)

-- 16 only where the workspace is shorter than the highest use
pub sheet_short_workspaces : SheetShortWorkspaces
unfolding refuse cleared
sheet_short_workspaces s image b h = go (sheet_answers s image b)
  where
    go : SheetAnswers s image b → length b.work < sheet_highest_use s image
    go (SheetAnswers.success t e k u w q) = absurd (not_finished t e k u w 16 (sym q ∙ h))
    go (SheetAnswers.before n x q) = absurd (not_refused_before n 16 (sym (ap (λ (y : Formatted). y.answer) q) ∙ h))
    go (SheetAnswers.running n x f q) =
        let is : n ≡ 16 = same_running n 16 (sym (ap (λ (y : Formatted). y.answer) q) ∙ h) in
        refused_starved s image b (subst (λ (c : ℕ). FirstRefusal s image b c) is f)
