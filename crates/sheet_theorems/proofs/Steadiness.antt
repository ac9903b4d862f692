-- Additions change no sheet that finished with nothing unfound.
use mathlib.Core.Path.{◌≡◌, refl, ap, sym, subst, ◌∙◌}
use mathlib.Core.List.{List, [], ◌∷◌, ◌++◌}
use mathlib.Core.Option.{some}
use Prim.Native.Nat.{ℕ, ◌≤◌}
use native.Mathlib.Omega.{arith}
use lib.ListN.{length}
use borrow.Author.Tests.{leb-true, le-leb}
use Rattle.records.specs.Images.{Item, Store}
use Rattle.records.specs.Errors.{list_header}
use Rattle.entries.specs.Lookup.{Holder, Find, find_in}
use Rattle.entries.proofs.Holders.{Extends, extends}
use Rattle.layout.specs.Exact.{Octets}
use Rattle.resolution.specs.Effect.{Bytes, Trace}
use Rattle.resolution.specs.Resolve.{Setting, bytes_of, as_message, resolve}
use Rattle.resolution.specs.Exec.{Machine, Limits, ran, exec, start}
use Rattle.resolution.specs.Format.{finished, Buffers, limits_of, ended, max_patterns, fresh}
use Rattle.theorems.specs.Finished.{trace_of, setting_of, Says}
use Rattle.theorems.specs.Steadiness.{Addition, AllInBytes, slices_after, Longer, Same}
use Rattle.theorems.proofs.Held.{message_held}
use Rattle.theorems.proofs.Tally.{is_unfound, tally}
use Rattle.theorems.proofs.Runs.{same_machine, exec_tallied}
use Rattle.theorems.proofs.Steady.{steady}
use Rattle.theorems.proofs.Wider.{Wider, exec_wider}
use Rattle.theorems.proofs.Steadiness.{with_items, Extended, all_extend, slices_sized, same_end, each_added}
use Rattle.requests.specs.Image.{Request}
use Rattle.sheets.specs.Sheet.{run_message, run_sheet, format_sheet}
use Rattle.sheet_theorems.specs.ClaimsSteadiness.{SheetSteadiness}
use Rattle.sheet_theorems.proofs.Messages.{message_runs, sheet_next, RanOn, message_ran, First, first_ran}
use Rattle.sheet_theorems.proofs.Parts.{Finishes, sheet_ends, finishes, sheet_says, sheet_within}
use Rattle.sheet_theorems.proofs.Joining.{joining}

-- lookups that find nothing only add up
unfounds_grow : (v : Store) (L : Limits) (rs : List Request) (n n' : Machine) → run_sheet v L rs n ≡ ran n' → n.unfounds ≤ n'.unfounds
unfolding run_sheet
unfounds_grow v L [] n n' h = omega (arith, ap (λ (m : Machine). m.unfounds) (same_machine n n' h))
unfounds_grow v L (r ∷ rs) n n' h =
    let o : First v L r rs n n' = first_ran v L r rs n n' h in
    let g : RanOn v L r n o.mid = message_ran v L n o.mid r o.first in
    omega (arith, (exec_tallied L (trace_of (setting_of v g.arguments) (find_in v.items) g.part) n o.mid g.runs).unfounds, unfounds_grow v L rs o.mid n' o.rest)

-- more items, none of them overriding, and longer buffers: the same run, where nothing was unfound
module _ (v : Store) (new : List Item) (more : Extends (find_in v.items) (find_in (v.items ++ new))) (L L' : Limits) (wide : Wider L L') where
  message_again : (r : Request) (n n' : Machine) → run_message v L r n ≡ ran n' → n'.unfounds ≡ 0 → run_message (with_items v new) L' r n ≡ ran n'
  message_again r n n' h z =
      let g : RanOn v L r n n' = message_ran v L n n' r h in
      let st : Setting = setting_of v g.arguments in
      let find : Find = find_in v.items in
      let find' : Find = find_in (v.items ++ new) in
      let t : Trace = trace_of st find g.part in
      let quiet : tally is_unfound t ≡ 0 = omega (arith, z, (exec_tallied L t n n' g.runs).unfounds) in
      let held : find r.id ≡ some (Holder.entry g.entry) = message_held (find r.id) g.entry g.found in
      let found : as_message (find' r.id) ≡ some g.entry = ap as_message (more r.id _ held ∙ sym held) ∙ g.found in
      let runs : exec L' (resolve st find' max_patterns g.part (bytes_of g.part ∷ []) fresh).trace n ≡ ran n' =
      rw (steady st find find' more max_patterns g.part (bytes_of g.part ∷ []) fresh quiet) (exec_wider L L' wide t n n' g.runs) in
      message_runs (with_items v new) L' r n g.entry found g.part g.has g.arguments g.given ∙ runs

  sheet_again : (rs : List Request) (n n' : Machine) → run_sheet v L rs n ≡ ran n' → n'.unfounds ≡ 0 → run_sheet (with_items v new) L' rs n ≡ ran n'
  unfolding run_sheet
  sheet_again [] n n' h z = h
  sheet_again (r ∷ rs) n n' h z =
      let o : First v L r rs n n' = first_ran v L r rs n n' h in
      let none : o.mid.unfounds ≡ 0 = omega (arith, z, unfounds_grow v L rs o.mid n' o.rest) in
      sheet_next (with_items v new) L' r rs n o.mid (message_again r n o.mid o.first none) ∙ sheet_again rs o.mid n' o.rest z

module _ (s : Bytes) (oct : Octets s) (xs : List Addition) (bytes : AllInBytes xs) (image : Bytes) (b b' : Buffers) (longer : Longer b b') where
  -- the second sheet has the parts of the first, and its machine
  again : (f : Finishes s image b) → f.machine.unfounds ≡ 0 → (g : Finishes (slices_after xs s) image b') × (g.machine ≡ f.machine)
  unfolding limits_of
  again f z =
      let v : Store = f.store in
      let x : Extended v (slices_after xs s) = all_extend xs bytes v f.store_end s oct f.stored in
      let wide : Wider (limits_of b) (limits_of b') = record { text = longer.text; list = longer.list; work = longer.work } in
      let room : list_header ≤ length b'.list = omega (arith, leb-true list_header (length b.list) f.header, longer.list) in (
        record {
          store = with_items v x.new;
          store_end = x.used;
          stored = x.reads;
          requests = f.requests;
          requests_end = f.requests_end;
          read = f.read;
          header = le-leb list_header (length b'.list) room;
          machine = f.machine;
          runs = sheet_again v x.new (extends v.items x.new x.firsts) (limits_of b) (limits_of b') wide f.requests start f.machine f.runs z;
        },
        refl,
      )

  same_again : (f : Finishes s image b) → f.machine.unfounds ≡ 0
      → Same (length f.machine.written) (format_sheet s image b) (format_sheet (slices_after xs s) image b')
  same_again f z =
      let m : Machine = f.machine in
      let g = again f z in
      let first : format_sheet s image b ≡ ended (ran m) b = sheet_ends s image b f in
      let second : format_sheet (slices_after xs s) image b' ≡ ended (ran m) b' = sheet_ends (slices_after xs s) image b' g.0 ∙ ap (λ (k : Machine). ended (ran k) b') g.1 in
      rw (first, second) (same_end m b b' (sheet_within f.store (limits_of b) f.requests m f.runs).stated)

  -- the second sheet is the first's answer, text and list
  pub sheet_same : (t e k w : ℕ) → (format_sheet s image b).answer ≡ finished t e k 0 w → Same t (format_sheet s image b) (format_sheet (slices_after xs s) image b')
  sheet_same t e k w h =
      let f : Finishes s image b = finishes s image b t e k 0 w h in
      let y : Says f.machine t e k 0 w = sheet_says s image b t e k 0 w f h in
      subst (λ (j : ℕ). Same j (format_sheet s image b) (format_sheet (slices_after xs s) image b')) (sym y.text) (same_again f (sym y.unfound))

-- "Steadiness under additions is wanted for whole sheets"
pub sheet_steadiness : SheetSteadiness
sheet_steadiness s oct formed xs bytes image oi b b' longer t e k w h =
    let all : Same t (format_sheet s image b) (format_sheet (slices_after xs s) image b') = sheet_same s oct xs bytes image b b' longer t e k w h in
    let again : (format_sheet (slices_after xs s) image b').answer ≡ finished t e k 0 w = all.answer ∙ h in
    record {
      size = slices_sized xs bytes s oct;
      each = each_added xs bytes s oct;
      answer = again;
      text = all.text;
      list = all.list;
      first = (joining s image oi b t e k 0 w).0 h;
      second = (joining (slices_after xs s) image oi b' t e k 0 w).0 again;
    }
