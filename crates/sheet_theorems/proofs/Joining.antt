-- A sheet finishes exactly when each of its messages finishes alone and these fit one behind the other; then it is their joining.
use mathlib.Core.Path.{◌≡◌, refl, ap, sym, subst, ◌∙◌}
use mathlib.Core.List.{List, [], ◌∷◌, ◌++◌}
use Prim.Native.Nat.{ℕ, ◌+◌, ◌≤◌}
use native.Mathlib.Omega.{arith}
use lib.ListN.{length, length-append}
use borrow.Author.Tests.{leb-true, le-leb}
use Rattle.records.specs.Got.{got}
use Rattle.records.specs.Images.{Store, store_of}
use Rattle.records.specs.Errors.{enc_errors, list_header}
use Rattle.records.specs.Valid.{All}
use Rattle.layout.specs.Exact.{Octets}
use Rattle.resolution.specs.Effect.{Bytes}
use Rattle.resolution.specs.Exec.{Machine, ran, list_limit, start}
use Rattle.resolution.specs.Format.{finished, Buffers, Formatted, limits_of, ended}
use Rattle.theorems.specs.Finished.{Says, Placeables}
use Rattle.theorems.proofs.Runs.{same_machine}
use Rattle.theorems.proofs.Within.{Within}
use Rattle.requests.specs.Image.{Request}
use Rattle.requests.proofs.Exact.{RequestOk, requests_ok}
use Rattle.sheets.specs.Sheet.{run_sheet, format_sheet}
use Rattle.sheet_theorems.specs.ClaimsJoining.{beside, joined, Each, Joins, Joining, JoinedBytes}
use Rattle.sheet_theorems.proofs.Messages.{sheet_next, First, first_ran}
use Rattle.texts.proofs.ErrorList.{list_size}
use Rattle.sheet_theorems.proofs.Above.{errors_joined}
use Rattle.sheet_theorems.proofs.Parts.{Finishes, sheet_ends, finishes, sheet_says, sheet_within}
use Rattle.sheet_theorems.proofs.Beside.{beside_assoc, start_beside, beside_start, Alike, alike_self, alike_then, alike_beside, alike_list, alike_ended}
use Rattle.sheet_theorems.proofs.Alone.{Lone, message_alone, Behind, message_behind}

-- the messages of a run, alone, and their joining behind what was before
record Messages (s w : Bytes) (rs : List Request) (n n' : Machine) : Type 0 where
  machines : List Machine
  each : Each s w rs machines
  placeables : All Placeables machines
  join : n' ≡ beside n (joined machines)

-- a machine behind another leaves open and in use what it leaves itself
beside_nest : (n n' m : Machine) → n' ≡ beside n m → m.nest ≡ 0 → n'.nest ≡ 0
unfolding beside
beside_nest n n' m q z = ap (λ (x : Machine). x.nest) q ∙ z

beside_used : (n n' m : Machine) → n' ≡ beside n m → m.used ≡ 0 → n'.used ≡ 0
unfolding beside
beside_used n n' m q z = ap (λ (x : Machine). x.used) q ∙ z

module _ (s : Bytes) (v : Store) (end : ℕ) (stored : store_of s ≡ got v end) (b : Buffers) where
  messages : (rs : List Request) → All RequestOk rs → (n n' : Machine) → n.nest ≡ 0 → n.used ≡ 0 → run_sheet v (limits_of b) rs n ≡ ran n'
      → Messages s b.work rs n n'
  unfolding run_sheet joined
  messages [] ok n n' z u h = record { machines = []; each = Each.nothing; placeables = tt; join = sym (same_machine n n' h) ∙ beside_start n z u }
  messages (r ∷ rs) ok n n' z u h =
      let f : First v (limits_of b) r rs n n' = first_ran v (limits_of b) r rs n n' h in
      let x : Lone s b.work r n f.mid = message_alone s v end stored b r ok.0 n f.mid z u f.first in
      let m : Machine = x.machine in
      let y : Messages s b.work rs f.mid n' = messages rs ok.1 f.mid n' (beside_nest n f.mid m x.join x.nest) (beside_used n f.mid m x.join x.used) f.rest in
      record {
        machines = m ∷ y.machines;
        each = Each.one x.alone y.each;
        placeables = (x.placeables, y.placeables);
        join = y.join ∙ ap (λ (k : Machine). beside k (joined y.machines)) x.join ∙ beside_assoc n m (joined y.machines);
      }

-- a sheet's machine is the joining of its messages'
pub record Joined (s image : Bytes) (b : Buffers) (f : Finishes s image b) : Type 0 where
  pub machines : List Machine
  pub each : Each s b.work f.requests machines
  pub placeables : All Placeables machines
  pub join : f.machine ≡ joined machines

pub sheet_joined : (s image : Bytes) → Octets image → (b : Buffers) (f : Finishes s image b) → Joined s image b f
unfolding start
sheet_joined s image oi b f =
    let ok : All RequestOk f.requests = requests_ok image f.requests oi f.read in
    let y : Messages s b.work f.requests start f.machine = messages s f.store f.store_end f.stored b f.requests ok start f.machine refl refl f.runs in
    record { machines = y.machines; each = y.each; placeables = y.placeables; join = y.join ∙ start_beside (joined y.machines) }

-- from the sheet to its messages
unfoldable pub joins : (s image : Bytes) (b : Buffers) (t e k u w : ℕ) (f : Finishes s image b) → Joined s image b f → Says f.machine t e k u w → Joins s image b t e k u w
unfolding limits_of list_limit
joins s image b t e k u w f y says =
    let fits : Within (limits_of b) f.machine = sheet_within f.store (limits_of b) f.requests f.machine f.runs in
    let text : length f.machine.written ≡ length (joined y.machines).written = ap (λ (m : Machine). length m.written) y.join in
    let list : length (enc_errors f.machine.errors) ≡ length (enc_errors (joined y.machines).errors) = ap (λ (m : Machine). length (enc_errors m.errors)) y.join in
    record {
      store = f.store;
      store_end = f.store_end;
      stored = f.stored;
      requests = f.requests;
      requests_end = f.requests_end;
      read = f.read;
      machines = y.machines;
      each = y.each;
      text = omega (arith, text, fits.text);
      list = omega (arith, list, fits.stated, fits.list (leb-true list_header (length b.list) f.header));
      says = subst (λ (m : Machine). Says m t e k u w) y.join says;
    }

-- from the messages to the sheet
record Behinds (v : Store) (b : Buffers) (rs : List Request) (n m : Machine) : Type 0 where
  machine : Machine
  runs : run_sheet v (limits_of b) rs n ≡ ran machine
  alike : Alike machine (beside n m)

beside_text : (n m : Machine) → length (beside n m).written ≡ length n.written + length m.written
unfolding beside
beside_text n m = length-append n.written m.written

beside_list : (n m : Machine) → 5 + length (enc_errors (beside n m).errors) ≡ length (enc_errors n.errors) + length (enc_errors m.errors)
unfolding beside
beside_list n m = errors_joined n.errors m.errors

-- room for a machine behind another, in the text and in the list
abbrev Fitting : Buffers → Machine → Machine → Type 0
Fitting b n m = (length n.written + length m.written ≤ length b.text) × (length (enc_errors (n.errors ++ m.errors)) ≤ list_limit (length b.list))

fitting_first : (b : Buffers) (n m o : Machine) → Fitting b n (beside m o) → Fitting b n m
fitting_first b n m o h = (
  omega (arith, h.0, beside_text m o),
  omega (arith, h.1, beside_list m o, errors_joined n.errors (beside m o).errors, errors_joined n.errors m.errors, list_size o.errors),
)

fitting_rest : (b : Buffers) (n m m' o : Machine) → Alike m' m → Fitting b n (beside m o) → Fitting b (beside n m') o
fitting_rest b n m m' o a h = (
  omega (arith, h.0, beside_text m o, beside_text n m', ap length a.written),
  omega (arith, h.1, beside_list m o, beside_list n m', errors_joined n.errors (beside m o).errors, errors_joined (beside n m').errors o.errors, ap length (alike_list m' m a)),
)

alike_next : (n m m' o x : Machine) → Alike m' m → Alike x (beside (beside n m') o) → Alike x (beside n (beside m o))
alike_next n m m' o x a h =
    let both : Alike (beside m' o) (beside m o) = alike_beside m' m o o a (alike_self o o refl) in
    let all : Alike (beside n (beside m' o)) (beside n (beside m o)) = alike_beside n n (beside m' o) (beside m o) (alike_self n n refl) both in
    alike_then x (beside (beside n m') o) (beside n (beside m o)) h
    (alike_then (beside (beside n m') o) (beside n (beside m' o)) (beside n (beside m o)) (alike_self _ _ (beside_assoc n m' o)) all)

behind_next : (v : Store) (b : Buffers) (r : Request) (rs : List Request) (n m o : Machine) (y : Behind v (limits_of b) r n m)
    → Behinds v b rs (beside n y.machine) o → Behinds v b (r ∷ rs) n (beside m o)
behind_next v b r rs n m o y rest = record {
  machine = rest.machine;
  runs = sheet_next v (limits_of b) r rs n (beside n y.machine) y.runs ∙ rest.runs;
  alike = alike_next n m y.machine o rest.machine y.alike rest.alike;
}

module _ (s : Bytes) (v : Store) (end : ℕ) (stored : store_of s ≡ got v end) (b : Buffers) where
  behinds : {rs : List Request} {ms : List Machine} (n : Machine) → Each s b.work rs ms → n.nest ≡ 0 → n.used ≡ 0 → Fitting b n (joined ms)
      → Behinds v b rs n (joined ms)
  unfolding run_sheet joined
  behinds n Each.nothing z u fits = record { machine = n; runs = refl; alike = alike_self n (beside n start) (beside_start n z u) }
  behinds n (Each.one {r = r} {rs = rs} {m = m} {ms = ms} x xs) z u fits =
      let first = fitting_first b n m (joined ms) fits in
      let y : Behind v (limits_of b) r n m = message_behind s v end stored b r n m z u x first.0 first.1 in
      behind_next v b r rs n m (joined ms) y (behinds (beside n y.machine) xs (beside_nest n _ y.machine refl y.nest) (beside_used n _ y.machine refl y.used) (fitting_rest b n m y.machine (joined ms) y.alike fits))

-- the parts of a sheet whose messages finish alone
record Built (s image : Bytes) (b : Buffers) (m : Machine) : Type 0 where
  parts : Finishes s image b
  alike : Alike parts.machine m

module _ (s image : Bytes) (b : Buffers) (t e k u w : ℕ) (j : Joins s image b t e k u w) where
  built : Built s image b (joined j.machines)
  unfolding start list_limit list_header
  built =
      let y : Behinds j.store b j.requests start (joined j.machines) = behinds s j.store j.store_end j.stored b start j.each refl refl (omega (arith, j.text), j.list) in
      record {
        parts = record {
          store = j.store;
          store_end = j.store_end;
          stored = j.stored;
          requests = j.requests;
          requests_end = j.requests_end;
          read = j.read;
          header = le-leb list_header (length b.list) (omega (arith, j.list, list_size (joined j.machines).errors));
          machine = y.machine;
          runs = y.runs;
        };
        alike = alike_then y.machine (beside start (joined j.machines)) (joined j.machines) y.alike (alike_self _ _ (start_beside (joined j.machines)));
      }

  -- the bytes and the answer of the joining
  joined_ends : format_sheet s image b ≡ ended (ran (joined j.machines)) b
  joined_ends =
      let x : Built s image b (joined j.machines) = built in
      sheet_ends s image b x.parts ∙ alike_ended x.parts.machine (joined j.machines) b x.alike

-- what a machine says is its answer
says_answer : (m : Machine) (b : Buffers) (t e k u w : ℕ) → Says m t e k u w → (ended (ran m) b).answer ≡ finished t e k u w
unfolding ended
says_answer m b t e k u w y = λ i. finished (sym y.text i) (sym y.errors i) (sym y.begun i) (sym y.unfound i) (sym y.work i)

-- a sheet finishes exactly when each message finishes alone and these fit one behind the other
pub joining : Joining
joining s image oi b t e k u w = (
  λ h.
      let f : Finishes s image b = finishes s image b t e k u w h in
      joins s image b t e k u w f (sheet_joined s image oi b f) (sheet_says s image b t e k u w f h),
  λ j. ap (λ (x : Formatted). x.answer) (joined_ends s image b t e k u w j) ∙ says_answer (joined j.machines) b t e k u w j.says,
)

-- then the buffers are those of the joining
pub joined_bytes : JoinedBytes
joined_bytes s image b t e k u w j = joined_ends s image b t e k u w j
