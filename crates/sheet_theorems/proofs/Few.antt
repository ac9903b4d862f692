-- Few lookups of a sheet find nothing: no more than 20 million of each message, so that their sum is far below 2^64.
use mathlib.Core.Path.{◌≡◌, ap}
use mathlib.Core.List.{List, [], ◌∷◌}
use Prim.Native.Nat.{ℕ, ◌+◌, ◌*◌, ◌≤◌, ◌<◌}
use native.Mathlib.Omega.{arith}
use lib.ListN.{length}
use Rattle.records.specs.Got.{got}
use Rattle.records.specs.Images.{Store, store_of}
use Rattle.layout.specs.Exact.{Octets}
use Rattle.layout.proofs.Theorems.{store_sound}
use Rattle.entries.specs.Lookup.{find_in}
use Rattle.resolution.specs.Effect.{Bytes}
use Rattle.resolution.specs.Resolve.{Setting}
use Rattle.resolution.specs.Exec.{Machine, Limits, ran, start}
use Rattle.theorems.specs.Finished.{trace_of, setting_of}
use Rattle.theorems.proofs.Runs.{same_machine, exec_tallied}
use Rattle.theorems.proofs.Bounded.{unfound_bound}
use Rattle.requests.specs.Image.{Request}
use Rattle.sheets.specs.Sheet.{run_message, run_sheet}
use Rattle.sheet_theorems.proofs.Messages.{RanOn, message_ran, First, first_ran}

module _ (s : Bytes) (oct : Octets s) (v : Store) (used : ℕ) (stored : store_of s ≡ got v used) (L : Limits) where
  -- a message of a well-formed store adds no more than 20 million
  pub message_few : (r : Request) (n n' : Machine) → run_message v L r n ≡ ran n' → n'.unfounds ≤ n.unfounds + 20000000
  message_few r n n' h =
      let g : RanOn v L r n n' = message_ran v L n n' r h in
      let st : Setting = setting_of v g.arguments in
      let tallied = exec_tallied L (trace_of st (find_in v.items) g.part) n n' g.runs in
      omega (arith, tallied.unfounds, unfound_bound v (store_sound s oct stored).0 st r.id g.entry r.attribute g.part g.found g.has)

  few_on : (rs : List Request) (n n' : Machine) → run_sheet v L rs n ≡ ran n' → n'.unfounds ≤ n.unfounds + 20000000 * length rs
  unfolding run_sheet
  few_on [] n n' h = omega (arith, ap (λ (m : Machine). m.unfounds) (same_machine n n' h))
  few_on (r ∷ rs) n n' h =
      let o : First v L r rs n n' = first_ran v L r rs n n' h in
      omega (arith, message_few r n o.mid o.first, few_on rs o.mid n' o.rest)

  -- a sheet of it: 20 million for each message
  pub sheet_few : (rs : List Request) (n : Machine) → run_sheet v L rs start ≡ ran n → n.unfounds ≤ 20000000 * length rs
  unfolding start
  sheet_few rs n h = omega (arith, few_on rs start n h)

  -- with as many messages as a u16 can count, that is below 2^64 - 1
  pub sheet_few_enough : (rs : List Request) (n : Machine) → run_sheet v L rs start ≡ ran n → length rs ≤ 65535 → n.unfounds < 18446744073709551615
  sheet_few_enough rs n h k = omega (arith, sheet_few rs n h)
