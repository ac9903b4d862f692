-- A sheet's run by its cases: what is judged before any message, what a message gives, and how a sheet goes on or stops.
use mathlib.Core.Path.{◌≡◌, refl}
use mathlib.Core.List.{List, [], ◌∷◌}
use mathlib.Core.Bool.{true, false}
use mathlib.Core.Option.{Option, none, some}
use Prim.Native.Nat.{ℕ}
use lib.ListN.{length}
use lib.Dec.{leb}
use Rattle.records.specs.Got.{got, bad}
use Rattle.records.specs.Tree.{Pattern}
use Rattle.records.specs.Images.{Entry, Store, Argument, store_of}
use Rattle.order.specs.Accepted.{Judged, accepted, refused_for, judge}
use Rattle.records.specs.Errors.{list_header}
use Rattle.entries.specs.Lookup.{find_in, part_of}
use Rattle.resolution.specs.Effect.{Bytes}
use Rattle.resolution.specs.Resolve.{as_message}
use Rattle.resolution.specs.Exec.{Machine, Limits, Ran, ran, refused, exec, and_then, start}
use Rattle.resolution.specs.Format.{Buffers, limits_of, refuse, or_refuse, ended}
use Rattle.theorems.specs.Finished.{trace_of, setting_of}
use Rattle.theorems.proofs.Runs.{not_refused}
use Rattle.requests.specs.Image.{Request, sheet_of}
use Rattle.sheets.specs.Sheet.{run_arguments, run_part, run_entry, run_message, run_sheet, sheet_with, sheet_read, sheet_store, format_sheet}

-- before any message
module _ (s image : Bytes) (b : Buffers) where
  pub sheet_malformed_store : store_of s ≡ bad → format_sheet s image b ≡ refuse 4 b
  unfolding format_sheet sheet_store
  sheet_malformed_store h = rw h

  module _ (v : Store) (used : ℕ) (stored : store_of s ≡ got v used) where
    pub sheet_malformed : sheet_of image ≡ bad → format_sheet s image b ≡ refuse 18 b
    unfolding format_sheet sheet_store sheet_read
    sheet_malformed h = rw stored (rw h)

    module _ (rs : List Request) (end : ℕ) (read : sheet_of image ≡ got rs end) where
      pub sheet_header : leb list_header (length b.list) ≡ false → format_sheet s image b ≡ refuse 7 b
      unfolding format_sheet sheet_store sheet_read sheet_with or_refuse
      sheet_header h = rw stored (rw read (rw h))

      pub sheet_runs : leb list_header (length b.list) ≡ true → format_sheet s image b ≡ ended (run_sheet v (limits_of b) rs start) b
      unfolding format_sheet sheet_store sheet_read sheet_with or_refuse
      sheet_runs h = rw stored (rw read (rw h))

-- one message
module _ (v : Store) (L : Limits) (r : Request) (m : Machine) where
  pub message_none : as_message (find_in v.items r.id) ≡ none → run_message v L r m ≡ refused 11
  unfolding run_message run_entry
  message_none h = rw h

  module _ (e : Entry) (found : as_message (find_in v.items r.id) ≡ some e) where
    pub message_part : part_of r.attribute e ≡ none → run_message v L r m ≡ refused 12
    unfolding run_message run_entry run_part
    message_part h = rw found (rw h)

    module _ (p : Pattern) (has : part_of r.attribute e ≡ some p) where
      pub message_arguments : (n : ℕ) → judge r.image ≡ refused_for n → run_message v L r m ≡ refused n
      unfolding run_message run_entry run_part run_arguments
      message_arguments n h = rw found (rw has (rw h))

      pub message_runs : (l : List (Bytes × Argument)) → judge r.image ≡ accepted l
          → run_message v L r m ≡ exec L (trace_of (setting_of v l) (find_in v.items) p) m
      unfolding run_message run_entry run_part run_arguments
      message_runs l h = rw found (rw has (rw h))

-- the messages one after the other
module _ (v : Store) (L : Limits) where
  pub sheet_none : (m : Machine) → run_sheet v L [] m ≡ ran m
  unfolding run_sheet
  sheet_none m = refl

  pub sheet_next : (r : Request) (rs : List Request) (m n : Machine) → run_message v L r m ≡ ran n → run_sheet v L (r ∷ rs) m ≡ run_sheet v L rs n
  unfolding run_sheet and_then
  sheet_next r rs m n h = rw h

  pub sheet_stops : (r : Request) (rs : List Request) (m : Machine) (c : ℕ) → run_message v L r m ≡ refused c → run_sheet v L (r ∷ rs) m ≡ refused c
  unfolding run_sheet and_then
  sheet_stops r rs m c h = rw h

-- a message that runs on from a machine: its parts, and its run
pub record RanOn (v : Store) (L : Limits) (r : Request) (n n' : Machine) : Type 0 where
  pub entry : Entry
  pub found : as_message (find_in v.items r.id) ≡ some entry
  pub part : Pattern
  pub has : part_of r.attribute entry ≡ some part
  pub arguments : List (Bytes × Argument)
  pub given : judge r.image ≡ accepted arguments
  pub runs : exec L (trace_of (setting_of v arguments) (find_in v.items) part) n ≡ ran n'

module _ (v : Store) (L : Limits) (n n' : Machine) where
  arguments_ran : (p : Pattern) (g : Judged) → run_arguments v L p g n ≡ ran n'
      → (l : List (Bytes × Argument)) × (g ≡ accepted l) × (exec L (trace_of (setting_of v l) (find_in v.items) p) n ≡ ran n')
  unfolding run_arguments
  arguments_ran p (refused_for c) h = absurd (not_refused c n' h)
  arguments_ran p (accepted l) h = (l, refl, h)

  part_ran : (o : Option Pattern) (image : Bytes) → run_part v L o image n ≡ ran n'
      → (p : Pattern) × (o ≡ some p) × (run_arguments v L p (judge image) n ≡ ran n')
  unfolding run_part
  part_ran none image h = absurd (not_refused 12 n' h)
  part_ran (some p) image h = (p, refl, h)

  entry_ran : (o : Option Entry) (a : Option Bytes) (image : Bytes) → run_entry v L o a image n ≡ ran n'
      → (e : Entry) × (o ≡ some e) × (run_part v L (part_of a e) image n ≡ ran n')
  unfolding run_entry
  entry_ran none a image h = absurd (not_refused 11 n' h)
  entry_ran (some e) a image h = (e, refl, h)

  -- a message that was not refused has its parts
  pub message_ran : (r : Request) → run_message v L r n ≡ ran n' → RanOn v L r n n'
  unfolding run_message
  message_ran r h =
      let e = entry_ran (as_message (find_in v.items r.id)) r.attribute r.image h in
      let p = part_ran (part_of r.attribute e.0) r.image e.2 in
      let l = arguments_ran p.0 (judge r.image) p.2 in
      record { entry = e.0; found = e.1; part = p.0; has = p.1; arguments = l.0; given = l.1; runs = l.2 }

-- the machine after the first message
pub record First (v : Store) (L : Limits) (r : Request) (rs : List Request) (n n' : Machine) : Type 0 where
  pub mid : Machine
  pub first : run_message v L r n ≡ ran mid
  pub rest : run_sheet v L rs mid ≡ ran n'

-- a sheet that was not refused has run its first message
pub first_ran : (v : Store) (L : Limits) (r : Request) (rs : List Request) (n n' : Machine) → run_sheet v L (r ∷ rs) n ≡ ran n' → First v L r rs n n'
unfolding run_sheet and_then
first_ran v L r rs n n' h = go (run_message v L r n) refl h
  where
    go : (x : Ran) → run_message v L r n ≡ x → and_then x (λ m. run_sheet v L rs m) ≡ ran n' → First v L r rs n n'
    go (ran m) e k = record { mid = m; first = e; rest = k }
    go (refused c) e k = absurd (not_refused c n' k)
