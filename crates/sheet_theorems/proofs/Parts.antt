-- A sheet that finishes has every part that its definition asks for, and answers what its machine says.
use mathlib.Core.Path.{◌≡◌, refl, ap, subst, ◌∙◌}
use mathlib.Core.List.{List, [], ◌∷◌}
use mathlib.Core.Bool.{true}
use Prim.Native.Nat.{ℕ}
use lib.ListN.{length}
use lib.Dec.{leb}
use Rattle.records.specs.Got.{Got, got, bad}
use Rattle.records.specs.Images.{Store, store_of}
use Rattle.records.specs.Errors.{list_header}
use Rattle.entries.specs.Lookup.{find_in}
use Rattle.resolution.specs.Effect.{Bytes}
use Rattle.resolution.specs.Exec.{Machine, Limits, ran, start}
use Rattle.resolution.specs.Format.{finished, Buffers, limits_of, refuse, ended}
use Rattle.theorems.specs.Finished.{trace_of, setting_of, Says}
use Rattle.theorems.proofs.Runs.{same_machine}
use Rattle.theorems.proofs.Within.{Within, exec_within, start_within}
use Rattle.theorems.proofs.Parts.{not_before, test_passed, run_ended}
use Rattle.requests.specs.Image.{Request, sheet_of}
use Rattle.sheets.specs.Sheet.{run_sheet, sheet_with, sheet_read, sheet_store, format_sheet}
use Rattle.sheet_theorems.proofs.Messages.{sheet_runs, RanOn, message_ran, First, first_ran}

-- a sheet that finishes: every test before its messages passes, and their run leads to a machine
pub record Finishes (s image : Bytes) (b : Buffers) : Type 0 where
  pub store : Store
  pub store_end : ℕ
  pub stored : store_of s ≡ got store store_end
  pub requests : List Request
  pub requests_end : ℕ
  pub read : sheet_of image ≡ got requests requests_end
  pub header : leb list_header (length b.list) ≡ true
  pub machine : Machine
  pub runs : run_sheet store (limits_of b) requests start ≡ ran machine

-- a machine's answer, and the five numbers
pub machine_says : (m : Machine) (b : Buffers) (t e k u w : ℕ) → (ended (ran m) b).answer ≡ finished t e k u w → Says m t e k u w
unfolding ended
machine_says m b t e k u w h = record { text = cc; errors = cc; begun = cc; unfound = cc; work = cc }

module _ (s image : Bytes) (b : Buffers) where
  -- a sheet that has its parts ends as its machine says
  pub sheet_ends : (f : Finishes s image b) → format_sheet s image b ≡ ended (ran f.machine) b
  sheet_ends f =
      sheet_runs s image b f.store f.store_end f.stored f.requests f.requests_end f.read f.header ∙ ap (λ r. ended r b) f.runs

  module _ (t e k u w : ℕ) where
    read_of : (v : Store) (g : Got (List Request)) → (sheet_read v g b).answer ≡ finished t e k u w
        → (rs : List Request) × (n : ℕ) × (g ≡ got rs n) × ((sheet_with v rs b).answer ≡ finished t e k u w)
    unfolding sheet_read refuse
    read_of v bad h = absurd (not_before 18 t e k u w h)
    read_of v (got rs n) h = (rs, n, refl, h)

    store_of_law : (g : Got Store) → (sheet_store g image b).answer ≡ finished t e k u w
        → (v : Store) × (n : ℕ) × (g ≡ got v n) × ((sheet_read v (sheet_of image) b).answer ≡ finished t e k u w)
    unfolding sheet_store refuse
    store_of_law bad h = absurd (not_before 4 t e k u w h)
    store_of_law (got v n) h = (v, n, refl, h)

    -- a sheet that answers finished has its parts
    pub finishes : (format_sheet s image b).answer ≡ finished t e k u w → Finishes s image b
    unfolding format_sheet sheet_with
    finishes h =
        let v = store_of_law (store_of s) h in
        let r = read_of v.0 (sheet_of image) v.3 in
        let p = test_passed b t e k u w _ 7 _ r.3 in
        let m = run_ended b t e k u w _ p.1 in
        record { store = v.0; store_end = v.1; stored = v.2; requests = r.0; requests_end = r.1; read = r.2; header = p.0; machine = m.0; runs = m.1 }

    -- and its five numbers are its machine's
    pub sheet_says : (f : Finishes s image b) → (format_sheet s image b).answer ≡ finished t e k u w → Says f.machine t e k u w
    sheet_says f h = machine_says f.machine b t e k u w (rw (sheet_ends f) at h)

-- what a sheet that ends has made fits into the buffers
module _ (v : Store) (L : Limits) where
  within_on : (rs : List Request) (n n' : Machine) → Within L n → run_sheet v L rs n ≡ ran n' → Within L n'
  unfolding run_sheet
  within_on [] n n' f h = subst (λ (m : Machine). Within L m) (same_machine n n' h) f
  within_on (r ∷ rs) n n' f h =
      let o : First v L r rs n n' = first_ran v L r rs n n' h in
      let g : RanOn v L r n o.mid = message_ran v L n o.mid r o.first in
      within_on rs o.mid n' (exec_within L (trace_of (setting_of v g.arguments) (find_in v.items) g.part) n o.mid f g.runs) o.rest

  pub sheet_within : (rs : List Request) (n : Machine) → run_sheet v L rs start ≡ ran n → Within L n
  sheet_within rs n h = within_on rs start n (start_within L) h
