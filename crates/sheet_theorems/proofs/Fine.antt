-- A sheet writes what is asked of texts where each of its messages does, and lists errors that fit their records; its text is well-formed.
use mathlib.Core.Path.{◌≡◌, refl, ap, sym, subst, ◌∙◌}
use mathlib.Core.List.{List, [], ◌∷◌, ◌++◌}
use Prim.Native.Nat.{ℕ}
use lib.ListN.{length, take}
use Rattle.records.specs.Images.{Store, Argument}
use Rattle.order.specs.Accepted.{accepted, judge}
use Rattle.records.specs.Errors.{Error}
use Rattle.records.specs.Valid.{All, ValidStore}
use Rattle.texts.specs.ErrorList.{Brief}
use Rattle.layout.specs.Exact.{Octets}
use Rattle.layout.proofs.Theorems.{store_sound, arguments_sound}
use Rattle.order.proofs.Accepted.{accepted_read}
use Rattle.entries.specs.Lookup.{Find, find_in}
use Rattle.resolution.specs.Effect.{Bytes, Out, Done}
use Rattle.resolution.specs.Resolve.{Setting, bytes_of, resolve}
use Rattle.resolution.specs.Exec.{Machine, Limits, ran, start}
use Rattle.resolution.specs.Format.{Formatted, Buffers, finished, limits_of, ended, values_of, max_patterns, fresh}
use Rattle.theorems.specs.Finished.{reports, trace_of, setting_of, Says}
use Rattle.theorems.specs.Leaves.{Leaf, InItems}
use Rattle.theorems.proofs.Runs.{same_machine, exec_tallied}
use Rattle.theorems.proofs.Net.{outward, Netted, netted}
use Rattle.theorems.proofs.Every.{all_append, all_map}
use Rattle.theorems.proofs.Valid.{ValidLeaf, store_leaves}
use Rattle.theorems.proofs.WalkLeaves.{Any, FineNamed}
use Rattle.theorems.proofs.Written.{Good}
use Rattle.theorems.proofs.Resolves.{Keeps, resolves}
use Rattle.theorems.proofs.Figures.{front_taken}
use Rattle.theorems.proofs.ReadBack.{Utf8, utf8_keeps, image_fine}
use Rattle.requests.specs.Image.{Request}
use Rattle.requests.proofs.Exact.{RequestOk, requests_ok}
use Rattle.sheets.specs.Sheet.{run_message, run_sheet, format_sheet}
use Rattle.sheet_theorems.specs.ClaimsAnswers.{SheetTextWellFormed}
use Rattle.sheet_theorems.proofs.Messages.{RanOn, message_ran, First, first_ran}
use Rattle.sheet_theorems.proofs.Parts.{Finishes, sheet_ends, finishes, sheet_says}

-- no workspace text is open, the text is as T asks, and every error fits a record
pub record Fine (T : Bytes → Type 0) (m : Machine) : Type 0 where
  pub nest : m.nest ≡ 0
  pub text : T m.written
  pub errors : All Brief m.errors

-- a request whose arguments, if they are any, have texts as T asks
abbrev pub FineRequest : (Bytes → Type 0) → Request → Type 0
FineRequest T r = (l : List (Bytes × Argument)) → judge r.image ≡ accepted l → All (FineNamed T) (values_of l)

module _ (T : Bytes → Type 0) (U : Leaf → Type 0) (keeps : Keeps T U) where
  module _ (v : Store) (valid : ValidStore v) (leaves : InItems U v.items) (L : Limits) where
    -- a message keeps that so
    message_fine : (r : Request) → FineRequest T r → (n n' : Machine) → Fine T n → run_message v L r n ≡ ran n' → Fine T n'
    message_fine r given n n' f h =
        let g : RanOn v L r n n' = message_ran v L n n' r h in
        let st : Setting = setting_of v g.arguments in
        let find : Find = find_in v.items in
        let out : Out Done = resolve st find max_patterns g.part (bytes_of g.part ∷ []) fresh in
        let good : Good T Brief Any out = resolves T U keeps v valid leaves g.arguments (given g.arguments g.given) r.id r.attribute g.entry g.part g.found g.has in
        let net : Netted n n' out.text out.kept = netted st find max_patterns g.part (bytes_of g.part ∷ []) fresh L n n' g.runs in
        let made : n'.written ≡ n.written ++ out.text = net.made ∙ ap (λ (k : ℕ). n.written ++ outward k out.text) f.nest in
        let listed : n'.errors ≡ n.errors ++ reports out.trace = (exec_tallied L (trace_of st find g.part) n n' g.runs).errors in
        record {
          nest = net.level ∙ f.nest;
          text = subst T (sym made) (keeps.joins.both n.written out.text f.text good.text);
          errors = subst (λ (l : List Error). All Brief l) (sym listed) (all_append Brief n.errors (reports out.trace) f.errors good.listed);
        }

    fine_on : (rs : List Request) → All (FineRequest T) rs → (n n' : Machine) → Fine T n → run_sheet v L rs n ≡ ran n' → Fine T n'
    unfolding run_sheet
    fine_on [] given n n' f h = subst (Fine T) (same_machine n n' h) f
    fine_on (r ∷ rs) given n n' f h =
        let o : First v L r rs n n' = first_ran v L r rs n n' h in
        fine_on rs given.1 o.mid n' (message_fine r given.0 n o.mid f o.first) o.rest

  start_fine : Fine T start
  unfolding start
  start_fine = record { nest = refl; text = keeps.joins.none; errors = tt }

  -- so of a sheet that finishes
  pub sheet_keeps : (s : Bytes) → Octets s → (image : Bytes) (b : Buffers) (f : Finishes s image b) → InItems U f.store.items → All (FineRequest T) f.requests → Fine T f.machine
  sheet_keeps s os image b f leaves given =
      fine_on f.store (store_sound s os f.stored).0 leaves (limits_of b) f.requests given start f.machine start_fine f.runs

module _ (s image : Bytes) (b : Buffers) (t e k u w : ℕ) where
  front_text : (m : Machine) → take (length m.written) (ended (ran m) b).buffers.text ≡ m.written
  unfolding ended
  front_text m = front_taken m.written b.text

  -- the text of a finished sheet, up to its length, is what its machine wrote
  pub sheet_text_taken : (f : Finishes s image b) → (format_sheet s image b).answer ≡ finished t e k u w → take t (format_sheet s image b).buffers.text ≡ f.machine.written
  sheet_text_taken f h =
      let y : Says f.machine t e k u w = sheet_says s image b t e k u w f h in
      let ends : take t (format_sheet s image b).buffers.text ≡ take t (ended (ran f.machine) b).buffers.text = ap (λ (x : Formatted). take t x.buffers.text) (sheet_ends s image b f) in
      ends ∙ ap (λ (j : ℕ). take j (ended (ran f.machine) b).buffers.text) y.text ∙ front_text f.machine

-- every finished sheet's text is well-formed, and its errors fit their records
request_fine : (r : Request) → RequestOk r → FineRequest Utf8 r
request_fine r ok l given = image_fine l (arguments_sound ok.octets (accepted_read r.image l given).1).0

pub sheet_fine : (s : Bytes) → Octets s → (image : Bytes) → Octets image → (b : Buffers) (f : Finishes s image b) → Fine Utf8 f.machine
sheet_fine s os image oi b f =
    sheet_keeps Utf8 ValidLeaf utf8_keeps s os image b f (store_leaves f.store (store_sound s os f.stored).0)
    (all_map RequestOk (FineRequest Utf8) request_fine f.requests (requests_ok image f.requests oi f.read))

-- the text of every finished sheet is well-formed
pub sheet_text_well_formed : SheetTextWellFormed
sheet_text_well_formed s os image oi b t e k u w h =
    let f : Finishes s image b = finishes s image b t e k u w h in
    subst Utf8 (sym (sheet_text_taken s image b t e k u w f h)) (sheet_fine s os image oi b f).text
