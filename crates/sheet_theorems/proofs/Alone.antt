-- A message of a sheet, alone: from the run behind other messages to the formatting in its own buffers, and back.
use mathlib.Core.Path.{◌≡◌, refl, ap, sym, subst, ◌∙◌}
use mathlib.Core.List.{◌++◌}
use mathlib.Core.Bool.{true}
use Prim.Native.Nat.{ℕ, ◌+◌, ◌≤◌}
use native.Mathlib.Omega.{arith}
use lib.ListN.{length}
use lib.Dec.{leb}
use borrow.Author.Tests.{le-leb}
use Rattle.records.specs.Got.{got}
use Rattle.records.specs.Images.{Store, store_of}
use Rattle.records.specs.Errors.{enc_errors, list_header}
use Rattle.entries.specs.Lookup.{Find, find_in}
use Rattle.resolution.specs.Effect.{Bytes, Trace}
use Rattle.resolution.specs.Resolve.{Setting}
use Rattle.resolution.specs.Exec.{Machine, Limits, ran, list_limit, exec, start}
use Rattle.resolution.specs.Format.{Buffers, Formatted, limits_of, ended, run_pattern, format}
use Rattle.theorems.specs.Finished.{trace_of, setting_of, Finished, Placeables}
use Rattle.theorems.proofs.Within.{Within, exec_within, start_within, within}
use Rattle.theorems.proofs.Parts.{parts, finish}
use Rattle.theorems.proofs.Whole.{placeables, nothing_left}
use Rattle.theorems.proofs.Steadiness.{same_store}
use Rattle.requests.specs.Image.{Request}
use Rattle.requests.proofs.Exact.{RequestOk}
use Rattle.sheets.specs.Sheet.{run_message}
use Rattle.sheet_theorems.specs.ClaimsJoining.{beside, lent, Alone}
use Rattle.sheet_theorems.proofs.Messages.{message_runs, RanOn, message_ran}
use Rattle.sheet_theorems.proofs.Requests.{request_ids}
use Rattle.texts.proofs.ErrorList.{list_size}
use Rattle.sheet_theorems.proofs.Above.{errors_joined, is_beside, from_start, exec_below, Room, exec_above}
use Rattle.sheet_theorems.proofs.Beside.{start_beside, Alike, alike_list, ended_alike}

-- a run from the start needs no more than the lengths of what it made
exec_exact : (L L₁ : Limits) (t : Trace) (m : Machine) → exec L t start ≡ ran m → length m.written ≤ L₁.text_len
    → length (enc_errors m.errors) ≤ list_limit L₁.list_len → L.work_len ≤ L₁.work_len → exec L₁ t start ≡ ran m
unfolding start
exec_exact L L₁ t m h x l w =
    let y = exec_above start L L₁ t start start m (from_start start refl refl) h (record { text = omega (arith, x); list = l; work = w }) in
    y.1 ∙ ap ran (is_beside start m y.0 y.2 ∙ start_beside m)

-- what a message of a sheet adds, and that it does the same alone
pub record Lone (s w : Bytes) (r : Request) (n n' : Machine) : Type 0 where
  pub machine : Machine
  pub alone : Alone s w r machine
  pub placeables : Placeables machine
  pub join : n' ≡ beside n machine
  pub nest : machine.nest ≡ 0
  pub used : machine.used ≡ 0

-- what a message that finishes alone does behind others
pub record Behind (v : Store) (L : Limits) (r : Request) (n m : Machine) : Type 0 where
  pub machine : Machine
  pub alike : Alike machine m
  pub runs : run_message v L r n ≡ ran (beside n machine)
  pub nest : machine.nest ≡ 0
  pub used : machine.used ≡ 0

module _ (s : Bytes) (v : Store) (end : ℕ) (stored : store_of s ≡ got v end) (b : Buffers) where
  -- a message that has its parts, in buffers where its run leads to a machine
  formatting : (r : Request) (n n' : Machine) → RequestOk r → (g : RanOn v (limits_of b) r n n') (b₁ : Buffers) (m : Machine)
      → run_pattern (setting_of v g.arguments) (find_in v.items) (limits_of b₁) g.part ≡ ran m → leb list_header (length b₁.list) ≡ true
      → format s r.id r.attribute r.image b₁ ≡ ended (ran m) b₁
  formatting r n n' ok g b₁ m runs header = finish s r.id r.attribute r.image b₁ (record {
    reached = record {
      store = v;
      store_end = end;
      stored = stored;
      ids = request_ids r ok;
      entry = g.entry;
      found = g.found;
      part = g.part;
      has = g.has;
      arguments = g.arguments;
      given = g.given;
      header = header;
    };
    machine = m;
    runs = runs;
  })

  pub message_alone : (r : Request) → RequestOk r → (n n' : Machine) → n.nest ≡ 0 → n.used ≡ 0 → run_message v (limits_of b) r n ≡ ran n' → Lone s b.work r n n'
  unfolding run_pattern limits_of list_limit list_header
  message_alone r ok n n' z u h =
      let g : RanOn v (limits_of b) r n n' = message_ran v (limits_of b) n n' r h in
      let st : Setting = setting_of v g.arguments in
      let find : Find = find_in v.items in
      let t : Trace = trace_of st find g.part in
      let x = exec_below n (limits_of b) t start n n' (from_start n z u) g.runs in
      let m : Machine = x.0 in
      let runs : run_pattern st find (limits_of b) g.part ≡ ran m = x.1 in
      let left = nothing_left st find g.part (limits_of b) m runs in
      let stated : length (enc_errors m.errors) ≤ 4294967295 = (exec_within (limits_of b) t start m (start_within (limits_of b)) x.1).stated in
      record {
        machine = m;
        alone = λ c l p q.
            formatting r n n' ok g (lent c l b.work) m
            (exec_exact (limits_of b) (limits_of (lent c l b.work)) t m x.1 (omega (arith, p)) (omega (arith, q, stated)) (omega arith))
            (le-leb list_header (length l) (omega (arith, q, list_size m.errors)));
        placeables = placeables st find g.part (limits_of b) m runs;
        join = is_beside n m n' x.2;
        nest = left.1;
        used = left.2;
      }

  -- a message that finishes in some buffers runs behind others too, where there is room
  run_behind : (r : Request) (n : Machine) → n.nest ≡ 0 → n.used ≡ 0 → (b₁ : Buffers) (f : Finished s r.id r.attribute r.image b₁)
      → Room n f.machine (limits_of b₁) (limits_of b) → run_message v (limits_of b) r n ≡ ran (beside n f.machine)
  unfolding run_pattern
  run_behind r n z u b₁ f room =
      let t : Trace = trace_of (setting_of f.reached.store f.reached.arguments) (find_in f.reached.store.items) f.reached.part in
      let y = exec_above n (limits_of b₁) (limits_of b) t start n f.machine (from_start n z u) f.runs room in
      let goes : exec (limits_of b) t n ≡ ran y.0 = y.1 in
      let ends : ran y.0 ≡ ran (beside n f.machine) = ap ran (is_beside n f.machine y.0 y.2) in
      let runs : run_message f.reached.store (limits_of b) r n ≡ exec (limits_of b) t n = message_runs f.reached.store (limits_of b) r n f.reached.entry f.reached.found f.reached.part f.reached.has f.reached.arguments f.reached.given in
      subst (λ (x : Store). run_message x (limits_of b) r n ≡ ran (beside n f.machine))
      (same_store v f.reached.store end f.reached.store_end s stored f.reached.stored) (runs ∙ (goes ∙ ends))

  alike_behind : (r : Request) (n m : Machine) → n.nest ≡ 0 → n.used ≡ 0 → (b₁ : Buffers) (f : Finished s r.id r.attribute r.image b₁)
      → Alike f.machine m → length b₁.work ≤ length b.work
      → length n.written + length m.written ≤ length b.text → length (enc_errors (n.errors ++ m.errors)) ≤ list_limit (length b.list)
      → Behind v (limits_of b) r n m
  unfolding limits_of
  alike_behind r n m z u b₁ f same work roomText roomList =
      let left = nothing_left (setting_of f.reached.store f.reached.arguments) (find_in f.reached.store.items) f.reached.part (limits_of b₁) f.machine f.runs in
      record {
        machine = f.machine;
        alike = same;
        runs = run_behind r n z u b₁ f (record {
          text = omega (arith, roomText, ap length same.written);
          list = omega (arith, roomList, ap length (alike_list f.machine m same), errors_joined n.errors m.errors, errors_joined n.errors f.machine.errors);
          work = work;
        });
        nest = left.1;
        used = left.2;
      }

  -- a message that finishes alone does
  pub message_behind : (r : Request) (n m : Machine) → n.nest ≡ 0 → n.used ≡ 0 → Alone s b.work r m
      → length n.written + length m.written ≤ length b.text → length (enc_errors (n.errors ++ m.errors)) ≤ list_limit (length b.list)
      → Behind v (limits_of b) r n m
  unfolding ended list_limit
  message_behind r n m z u h roomText roomList =
      let b₁ : Buffers = lent m.written (enc_errors m.errors) b.work in
      let q : format s r.id r.attribute r.image b₁ ≡ ended (ran m) b₁ = h m.written (enc_errors m.errors) refl refl in
      let f : Finished s r.id r.attribute r.image b₁ = parts s r.id r.attribute r.image b₁ _ _ _ _ _ (ap (λ (x : Formatted). x.answer) q) in
      let fits : Within (limits_of b₁) f.machine = within (limits_of b₁) (setting_of f.reached.store f.reached.arguments) (find_in f.reached.store.items) f.reached.part f.machine f.runs in
      let stated : length (enc_errors m.errors) ≤ 4294967295 = omega (arith, roomList, errors_joined n.errors m.errors, list_size n.errors) in
      let ends : ended (ran f.machine) b₁ ≡ ended (ran m) b₁ = sym (finish s r.id r.attribute r.image b₁ f) ∙ q in
      alike_behind r n m z u b₁ f (ended_alike f.machine m b₁ fits.stated stated ends) (omega arith) roomText roomList
