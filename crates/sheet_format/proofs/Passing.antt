-- From message to message: where a sheet begins, one message more, the message that is refused, and the end.
use Rattle.state.specs.Progress.{refused_of}
use mathlib.Core.Path.{◌≡◌, refl, ap, sym, subst, ◌∙◌}
use mathlib.Core.List.{List, [], ◌∷◌}
use Prim.Native.Nat.{ℕ, suc, ◌+◌, ◌-◌, ◌≤◌, ◌<◌}
use native.Mathlib.Omega.{arith}
use lib.ListN.{length, drop}
use lib.Seq.{drop-drop}
use Rattle.records.specs.Got.{got}
use Rattle.records.specs.Bytes.{number_at}
use Rattle.records.specs.Decode.{many}
use Rattle.records.proofs.Laws.{after_elim, got_elim}
use Rattle.records.proofs.Views.{both}
use Rattle.layout.specs.Exact.{Octets}
use Rattle.requests.specs.Image.{Request, request_at}
use Rattle.requests.specs.Relations.Shown.{Shows}
use Rattle.requests.specs.declared.Spans.{Spans}
use Rattle.requests.proofs.Views.{Parts, sheet_parts, count_small}
use Rattle.resolution.specs.Effect.{Bytes}
use Rattle.resolution.specs.Exec.{Limits, start}
use Rattle.resolution.specs.Format.{limits_of}
use Rattle.sheets.specs.Sheet.{run_message, run_sheet}
use Rattle.sheet_theorems.proofs.Messages.{sheet_none, sheet_next, sheet_stops}
use Rattle.state.specs.declared.Progress.{Progress}
use Rattle.state.specs.Setters.{new_s}
use Rattle.resolver.specs.Relations.Runs.{Grown, RanAs, ran_as, refused_as}
use Rattle.resolver.proofs.Whole.{rests_start}
use Rattle.sheet_format.specs.Relations.Sheets.{limits, Checked, Begins, MessageRan, Passed, SheetRan}

-- bytes that are as before past one position are so past every later one
later : (a b : ℕ) (x y : List ℕ) → a ≤ b → drop a x ≡ drop a y → drop b x ≡ drop b y
later a b x y h e =
    let q : b ≡ a + (b - a) = omega arith in
    ap (λ (i : ℕ). drop i x) q ∙ sym (drop-drop (b - a) a x) ∙ ap (drop (b - a)) e ∙ drop-drop (b - a) a y ∙ ap (λ (i : ℕ). drop i y) (sym q)

grown_more : {x l x₁ l₁ x₂ l₂ : Bytes} {p q r : Progress} → Grown x l p x₁ l₁ q → Grown x₁ l₁ q x₂ l₂ r → Grown x l p x₂ l₂ r
grown_more {x} {l} {x₁} {l₁} {p = p} {q = q} {r = r} a b = record {
  text_up = omega (arith, a.text_up, b.text_up);
  list_up = omega (arith, a.list_up, b.list_up);
  text_rest = b.text_rest ∙ later q.text_at r.text_at x₁ x b.text_up a.text_rest;
  list_rest = b.list_rest ∙ later q.list_at r.list_at l₁ l b.list_up a.list_rest;
}

-- the first message
pub passed_start : {s sheet : Bytes} (x l w : Bytes) {p : Progress} {count from : ℕ} → Octets sheet → Begins s sheet l w p → number_at 2 sheet 5 ≡ got count from → Passed s sheet x l w x l w p from count 0
unfolding start
passed_start {s} {sheet} x l w {p} {count} {from} oct b h =
    let c : Checked s sheet = b.checked in
    let y : Parts sheet c.requests c.end = sheet_parts sheet c.read in
    subst (λ (z : Progress). Passed s sheet x l w x l w z from count 0) (sym b.started)
    (both y.counted h (λ ek ef. record {
      checked = c;
      text_size = refl;
      list_size = refl;
      work_size = refl;
      machine = start;
      rest = c.requests;
      rests = rests_start x l w b.header;
      sum = refl;
      few = omega (arith, count_small sheet 5 oct h);
      grown = record { text_up = omega arith; list_up = omega arith; text_rest = refl; list_rest = refl };
      asked = subst (λ (i : ℕ). many [] ◌∷◌ i request_at sheet from ≡ got c.requests c.end) ek (subst (λ (i : ℕ). many [] ◌∷◌ y.count request_at sheet i ≡ got c.requests c.end) ef y.requests);
      onward = refl;
    }))

module _ {s sheet x l w x₁ l₁ w₁ : Bytes} {p : Progress} {at left begun : ℕ} (h : Passed s sheet x l w x₁ l₁ w₁ p at left begun) where
  -- the lengths are the sheet's
  same_limits : limits x₁ l₁ w₁ ≡ limits x l w
  unfolding limits_of
  same_limits = let a = h.text_size in let b = h.list_size in let c = h.work_size in λ i. record { text_len = a i; list_len = b i; work_len = c i }

  -- the request that is next
  pub record Next : Type 0 where
    pub request : Request
    pub past : ℕ
    pub others : List Request
    pub reads : request_at sheet at ≡ got request past
    pub follow : many [] ◌∷◌ (left - 1) request_at sheet past ≡ got others h.checked.end
    pub rest : h.rest ≡ request ∷ others

  next_of_law : (n : ℕ) → left ≡ suc n → Next
  unfolding many
  next_of_law n e =
      let q : many [] ◌∷◌ (suc n) request_at sheet at ≡ got h.rest h.checked.end = subst (λ (i : ℕ). many [] ◌∷◌ i request_at sheet at ≡ got h.rest h.checked.end) e h.asked in
      let m : n ≡ left - 1 = omega arith in
      after_elim (request_at sheet at) _ q (λ r f hr q'.
      after_elim (many [] ◌∷◌ n request_at sheet f) _ q' (λ rs g hs q''.
      got_elim q'' (λ el eg. record { request = r; past = f; others = rs; reads = hr; follow = subst (λ (i : ℕ). many [] ◌∷◌ i request_at sheet f ≡ got rs h.checked.end) m (hs ∙ ap (got rs) eg); rest = sym el })))

  pub next : 0 < left → Next
  next lt = next_of_law (left - 1) (omega arith)

  module _ (lt : 0 < left) {q : Spans} (shows : Shows sheet q (next lt).request) {x₂ l₂ w₂ : Bytes} {r : Progress} {n : ℕ} (m : MessageRan s sheet q x₁ l₁ w₁ p x₂ l₂ w₂ r n) where
    outcome : RanAs (run_message h.checked.store (limits x l w) (next lt).request h.machine) x₁ l₁ p x₂ l₂ w₂ r (h.machine.begun + n) × ((refused_of r) ≡ 0 → n ≤ 101)
    outcome = subst (λ (L : Limits). RanAs (run_message h.checked.store L (next lt).request h.machine) x₁ l₁ p x₂ l₂ w₂ r (h.machine.begun + n) × ((refused_of r) ≡ 0 → n ≤ 101)) same_limits
        (m.runs h.checked.store h.checked.used h.checked.stored (next lt).request shows h.machine h.rests)

    onward_next : run_sheet h.checked.store (limits x l w) h.checked.requests start ≡ run_sheet h.checked.store (limits x l w) ((next lt).request ∷ (next lt).others) h.machine
    onward_next = h.onward ∙ ap (λ (rs : List Request). run_sheet h.checked.store (limits x l w) rs h.machine) (next lt).rest

    -- few placeables were begun, by it and so far
    pub begun_few : (refused_of r) ≡ 0 → begun + n ≤ 6619035
    begun_few z = omega (arith, h.few, outcome.1 z, lt)

    -- one message more
    passed_more : (refused_of r) ≡ 0 → length x₂ ≡ length x₁ → length l₂ ≡ length l₁ → length w₂ ≡ length w₁ → Passed s sheet x l w x₂ l₂ w₂ r (next lt).past (left - 1) (begun + n)
    passed_more z lx ll lw = go outcome.0
      where
        go : RanAs (run_message h.checked.store (limits x l w) (next lt).request h.machine) x₁ l₁ p x₂ l₂ w₂ r (h.machine.begun + n) → Passed s sheet x l w x₂ l₂ w₂ r (next lt).past (left - 1) (begun + n)
        go (ran_as k e rests en g) = record {
          checked = h.checked;
          text_size = lx ∙ h.text_size;
          list_size = ll ∙ h.list_size;
          work_size = lw ∙ h.work_size;
          machine = k;
          rest = (next lt).others;
          rests = rests;
          sum = ap (λ (i : ℕ). i + n) h.sum ∙ en;
          few = omega (arith, h.few, outcome.1 z, lt);
          grown = grown_more h.grown g;
          asked = (next lt).follow;
          onward = onward_next ∙ sheet_next h.checked.store (limits x l w) (next lt).request (next lt).others h.machine k e;
        }
        go (refused_as c e nz few er) = absurd (nz (sym er ∙ z))

    -- the same at the place where the code says that the request ends
    pub passed_again : (refused_of r) ≡ 0 → length x₂ ≡ length x₁ → length l₂ ≡ length l₁ → length w₂ ≡ length w₁ → {e : ℕ} → e ≡ (next lt).past → Passed s sheet x l w x₂ l₂ w₂ r e (left - 1) (begun + n)
    passed_again z lx ll lw {e} ee = subst (λ (i : ℕ). Passed s sheet x l w x₂ l₂ w₂ r i (left - 1) (begun + n)) (sym ee) (passed_more z lx ll lw)

    -- a message that is refused ends the sheet
    pub sheet_refused : ((refused_of r) ≡ 0 → ⊥) → SheetRan s sheet x l w x₂ l₂ w₂ r begun
    sheet_refused nz = record { checked = h.checked; ran = go outcome.0 }
      where
        go : RanAs (run_message h.checked.store (limits x l w) (next lt).request h.machine) x₁ l₁ p x₂ l₂ w₂ r (h.machine.begun + n) → RanAs (run_sheet h.checked.store (limits x l w) h.checked.requests start) x l (new_s (length w)) x₂ l₂ w₂ r begun
        go (ran_as k e rests en g) = absurd (nz rests.go)
        go (refused_as c e z few er) = refused_as c (onward_next ∙ sheet_stops h.checked.store (limits x l w) (next lt).request (next lt).others h.machine c e) z few er

  -- no message is left
  none_left : left ≡ 0 → h.rest ≡ []
  unfolding many
  none_left e = got_elim (subst (λ (i : ℕ). many [] ◌∷◌ i request_at sheet at ≡ got h.rest h.checked.end) e h.asked) (λ el _. sym el)

  pub sheet_ended : left ≡ 0 → SheetRan s sheet x l w x₁ l₁ w₁ p begun
  sheet_ended e = record {
    checked = h.checked;
    ran = ran_as h.machine (h.onward ∙ ap (λ (rs : List Request). run_sheet h.checked.store (limits x l w) rs h.machine) (none_left e) ∙ sheet_none h.checked.store (limits x l w) h.machine) h.rests h.sum h.grown;
  }
