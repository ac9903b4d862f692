-- Every sheet finishes, or is refused with one of the numbers listed, in its place; and its buffers keep their lengths.
use mathlib.Core.Path.{◌≡◌, refl, ap, sym, subst, ◌∙◌}
use mathlib.Core.List.{List, [], ◌∷◌, ◌++◌}
use mathlib.Core.Bool.{Bool, true, false}
use mathlib.Core.Option.{Option, none, some}
use Prim.Native.Nat.{ℕ, ◌≤◌}
use lib.ListN.{length, length-replicate}
use lib.Dec.{leb}
use borrow.Author.Tests.{leb-true}
use Rattle.records.specs.Got.{Got, got, bad}
use Rattle.records.specs.Tree.{Pattern}
use Rattle.records.specs.Images.{Entry, Store, store_of}
use Rattle.order.specs.Accepted.{Judged, accepted, refused_for, judge}
use Rattle.order.proofs.Accepted.{refused_with}
use Rattle.records.specs.Errors.{enc_errors, list_header}
use Rattle.entries.specs.Lookup.{find_in, part_of}
use Rattle.resolution.specs.Effect.{Bytes}
use Rattle.resolution.specs.Resolve.{as_message}
use Rattle.resolution.specs.Exec.{Machine, Limits, Ran, ran, refused, start}
use Rattle.resolution.specs.Format.{Buffers, Formatted, limits_of, zeros, refuse, ended}
use Rattle.theorems.specs.Finished.{trace_of, setting_of, Sized}
use Rattle.theorems.proofs.Runs.{not_refused, same_machine, same_refusal}
use Rattle.theorems.proofs.Within.{Within}
use Rattle.theorems.proofs.Formattings.{front_length, sized_same}
use Rattle.theorems.proofs.Refusals.{exec_refused}
use Rattle.requests.specs.Image.{Request, sheet_of}
use Rattle.sheets.specs.Refused.{cleared}
use Rattle.sheets.specs.Sheet.{run_message, run_sheet, format_sheet}
use Rattle.sheet_theorems.specs.ClaimsRefusals.{SheetBefore, SheetRunning, SheetAnswers, AllSheetAnswers, FirstRefusals, AllSheetsSized}
use Rattle.sheet_theorems.proofs.Messages.{sheet_malformed_store, sheet_malformed, sheet_header, sheet_runs, message_none, message_part, message_arguments, message_runs, sheet_none, sheet_next, sheet_stops, First, first_ran}
use Rattle.sheet_theorems.proofs.Parts.{Finishes, finishes, sheet_ends, sheet_within}

-- the numbers of a message's refusals
module _ (v : Store) (L : Limits) (r : Request) (m : Machine) (c : ℕ) (h : run_message v L r m ≡ refused c) where
  met : {d : ℕ} → SheetRunning d → run_message v L r m ≡ refused d → SheetRunning c
  met {d} x q = subst SheetRunning (same_refusal d c (sym q ∙ h)) x

  module _ (e : Entry) (found : as_message (find_in v.items r.id) ≡ some e) where
    at_arguments : (p : Pattern) → part_of r.attribute e ≡ some p → (g : Judged) → judge r.image ≡ g → SheetRunning c
    at_arguments p has (refused_for n) q = met (refused_with SheetRunning SheetRunning.arguments SheetRunning.order r.image n q) (message_arguments v L r m e found p has n q)
    at_arguments p has (accepted l) q =
        SheetRunning.run (exec_refused L (trace_of (setting_of v l) (find_in v.items) p) m c (sym (message_runs v L r m e found p has l q) ∙ h))

    at_part : (o : Option Pattern) → part_of r.attribute e ≡ o → SheetRunning c
    at_part none q = met SheetRunning.part (message_part v L r m e found q)
    at_part (some p) q = at_arguments p q (judge r.image) refl

  at_entry : (o : Option Entry) → as_message (find_in v.items r.id) ≡ o → SheetRunning c
  at_entry none q = met SheetRunning.message (message_none v L r m q)
  at_entry (some e) q = at_part e q (part_of r.attribute e) refl

  message_refused : SheetRunning c
  message_refused = at_entry (as_message (find_in v.items r.id)) refl

-- the first refused message of a run
record Refusing (v : Store) (L : Limits) (rs : List Request) (m : Machine) (c : ℕ) : Type 0 where
  before : List Request
  refusing : Request
  after : List Request
  parted : rs ≡ before ++ (refusing ∷ after)
  machine : Machine
  ran_before : run_sheet v L before m ≡ ran machine
  is_refused : run_message v L refusing machine ≡ refused c

module _ (v : Store) (L : Limits) where
  refusing : (rs : List Request) (m : Machine) (c : ℕ) → run_sheet v L rs m ≡ refused c → Refusing v L rs m c
  refusing [] m c h = absurd (not_refused c m (sym h ∙ sheet_none v L m))
  refusing (r ∷ rs) m c h = go (run_message v L r m) refl (λ n. refusing rs n c)
    where
      go : (x : Ran) → run_message v L r m ≡ x → ((n : Machine) → run_sheet v L rs n ≡ refused c → Refusing v L rs n c) → Refusing v L (r ∷ rs) m c
      go (ran n) q ih =
          let y : Refusing v L rs n c = ih n (sym (sheet_next v L r rs m n q) ∙ h) in
          record {
            before = r ∷ y.before;
            refusing = y.refusing;
            after = y.after;
            parted = ap (λ (l : List Request). r ∷ l) y.parted;
            machine = y.machine;
            ran_before = sheet_next v L r y.before m n q ∙ y.ran_before;
            is_refused = y.is_refused;
          }
      go (refused d) q ih = record {
        before = [];
        refusing = r;
        after = rs;
        parted = refl;
        machine = m;
        ran_before = sheet_none v L m;
        is_refused = q ∙ sym (sheet_stops v L r rs m d q) ∙ h;
      }

module _ (s image : Bytes) (b : Buffers) where
  module _ (v : Store) (end : ℕ) (stored : store_of s ≡ got v end) where
    module _ (rs : List Request) (last : ℕ) (read : sheet_of image ≡ got rs last) where
      at_run : leb list_header (length b.list) ≡ true → (x : Ran) → run_sheet v (limits_of b) rs start ≡ x → SheetAnswers s image b
      unfolding ended cleared
      at_run t (ran m) q = SheetAnswers.success _ _ _ _ _ (ap (λ (f : Formatted). f.answer) (sheet_runs s image b v end stored rs last read t ∙ ap (λ r. ended r b) q))
      at_run t (refused c) q =
          let y : Refusing v (limits_of b) rs start c = refusing v (limits_of b) rs start c q in
          SheetAnswers.running c (message_refused v (limits_of b) y.refusing y.machine c y.is_refused) (record {
            bundle = v;
            bundle_end = end;
            stored = stored;
            before = y.before;
            refusing = y.refusing;
            after = y.after;
            requests_end = last;
            read = read ∙ ap (λ (l : List Request). got l last) y.parted;
            machine = y.machine;
            ran_before = y.ran_before;
            is_refused = y.is_refused;
          }) (sheet_runs s image b v end stored rs last read t ∙ ap (λ r. ended r b) q)

      at_header : (x : Bool) → leb list_header (length b.list) ≡ x → SheetAnswers s image b
      at_header true q = at_run q (run_sheet v (limits_of b) rs start) refl
      at_header false q = SheetAnswers.before 7 SheetBefore.header (sheet_header s image b v end stored rs last read q)

    at_sheet : (g : Got (List Request)) → sheet_of image ≡ g → SheetAnswers s image b
    at_sheet bad q = SheetAnswers.before 18 SheetBefore.sheet (sheet_malformed s image b v end stored q)
    at_sheet (got rs last) q = at_header rs last q (leb list_header (length b.list)) refl

  at_store : (g : Got Store) → store_of s ≡ g → SheetAnswers s image b
  at_store bad q = SheetAnswers.before 4 SheetBefore.store (sheet_malformed_store s image b q)
  at_store (got v end) q = at_sheet v end q (sheet_of image) refl

-- every sheet's answer
pub sheet_answers : AllSheetAnswers
sheet_answers s image b = at_store s image b (store_of s) refl

-- a sheet of two parts whose first part runs
sheet_part : (v : Store) (L : Limits) (front back : List Request) (m n : Machine) → run_sheet v L front m ≡ ran n → run_sheet v L (front ++ back) m ≡ run_sheet v L back n
unfolding run_sheet
sheet_part v L [] back m n h = ap (λ (x : Machine). run_sheet v L back x) (same_machine m n h)
sheet_part v L (r ∷ front) back m n h =
    let o : First v L r front m n = first_ran v L r front m n h in
    sheet_next v L r (front ++ back) m o.mid o.first ∙ sheet_part v L front back o.mid n o.rest

-- a message that is refused behind those before it
pub first_refusal : FirstRefusals
unfolding ended cleared
first_refusal s image b n y header =
    let rs : List Request = y.before ++ (y.refusing ∷ y.after) in
    let first : run_sheet y.bundle (limits_of b) rs start ≡ run_sheet y.bundle (limits_of b) (y.refusing ∷ y.after) y.machine = sheet_part y.bundle (limits_of b) y.before (y.refusing ∷ y.after) start y.machine y.ran_before in
    let stops : run_sheet y.bundle (limits_of b) rs start ≡ refused n = first ∙ sheet_stops y.bundle (limits_of b) y.refusing y.after y.machine n y.is_refused in
    sheet_runs s image b y.bundle y.bundle_end y.stored rs y.requests_end y.read header ∙ ap (λ r. ended r b) stops

sized_clear : (n : ℕ) (b : Buffers) → Sized b (cleared n b).buffers
unfolding cleared zeros
sized_clear n b = record { text = length-replicate _ _; list = length-replicate _ _; work = length-replicate _ _ }

sized_ended : (m : Machine) (b : Buffers) → list_header ≤ length b.list → Within (limits_of b) m → Sized b (ended (ran m) b).buffers
unfolding ended zeros limits_of
sized_ended m b header fits = record {
  text = front_length m.written b.text fits.text;
  list = front_length (enc_errors m.errors) b.list (fits.list header);
  work = length-replicate _ _;
}

-- every sheet, finished or refused, leaves the three buffers as long as they were
pub sheet_sized : AllSheetsSized
unfolding refuse
sheet_sized s image b = go (sheet_answers s image b)
  where
    go : SheetAnswers s image b → Sized b (format_sheet s image b).buffers
    go (SheetAnswers.success t e k u w h) =
        let f : Finishes s image b = finishes s image b t e k u w h in
        subst (λ (x : Formatted). Sized b x.buffers) (sym (sheet_ends s image b f))
        (sized_ended f.machine b (leb-true list_header (length b.list) f.header) (sheet_within f.store (limits_of b) f.requests f.machine f.runs))
    go (SheetAnswers.before n k q) = subst (λ (x : Formatted). Sized b x.buffers) (sym q) (sized_same b)
    go (SheetAnswers.running n k y q) = subst (λ (x : Formatted). Sized b x.buffers) (sym q) (sized_clear n b)
