-- The ways in which a sheet ends: refused before any message, or by its messages' run.
use mathlib.Core.Path.{◌≡◌, ap, sym, ◌∙◌}
use mathlib.Core.List.{List}
use Prim.Native.Nat.{ℕ, ◌≤◌, ◌<◌}
use native.Mathlib.Omega.{arith}
use lib.ListN.{length}
use borrow.Author.Tests.{le-leb, lt-leb}
use Rattle.records.specs.Got.{got, bad}
use Rattle.records.specs.Errors.{list_header}
use Rattle.records.specs.Images.{Store, store_of}
use Rattle.layout.specs.Exact.{Octets}
use Rattle.requests.specs.Image.{Request, sheet_of}
use Rattle.resolution.specs.Effect.{Bytes}
use Rattle.resolution.specs.Exec.{Ran, start}
use Rattle.resolution.specs.Format.{Buffers, Formatted, refuse, ended}
use Rattle.sheets.specs.Sheet.{run_sheet, format_sheet}
use Rattle.sheet_theorems.proofs.Messages.{sheet_malformed_store, sheet_malformed, sheet_header, sheet_runs}
use Rattle.theorems.specs.Figures.{FigureIs}
use Rattle.sheet_theorems.specs.HighestUse.{sheet_highest_use}
use Rattle.sheet_theorems.proofs.Answers.{sheet_sums}
use Rattle.sheet_theorems.proofs.Figures.{sheet_answers_highest}
use Rattle.state.specs.declared.Progress.{Progress}
use Rattle.state.specs.Setters.{new_s}
use Rattle.refusals.specs.declared.Refusal.{Refusal}
use Rattle.refusals.specs.declared.Refusal.TheVariants as refusal
use Rattle.refusals.specs.Numbers.{number_of}
use Rattle.std.specs.Prelude.{Result, Err}
use Rattle.resolver.specs.declared.format.Figures.{Figures}
use Rattle.resolver.specs.declared.format.Failure.{Failure}
use Rattle.resolver.specs.declared.format.Failure.TheVariants as failure
use Rattle.resolver.specs.Formats.{answer_of, gave}
use Rattle.resolver.specs.Relations.Runs.{stopped, closed}
use Rattle.resolver.proofs.Ends.{failed_on, stopped_is, figured}
use Rattle.std.specs.Prelude as rust
use Rattle.std.specs.Option.{ok_or}
use Rattle.std.specs.Result.{IsErrAnd}
use Rattle.resolver.proofs.Finish.{closes}
use Rattle.resolver.proofs.Whole.{buffers}
use Rattle.sheet_format.specs.Relations.Sheets.{limits, Checked, SheetRan}

-- what `?` passes on where something is not there
pub failed_for : {A B : Type 0} (r : Result B Failure) {o : rust.Option A} {e x : Refusal} → o ≡ rust.None → Err e ≡ ok_or o x → IsErrAnd r (λ y. y ≡ failure.Refused e) → r ≡ Err (failure.Refused x)
failed_for {A} r {o} {e} {x} n w k =
    let v : ◌≡◌ {A = Result A Refusal} (Err e) (Err x) = w ∙ ap (λ (p : rust.Option A). ok_or p x) n in
    let q : e ≡ x = cc in
    failed_on r k ∙ ap (λ (y : Refusal). Err (failure.Refused y)) q

-- the store and the sheet image that were read
pub checked_both : {s sheet : Bytes} {v : Store} {used : ℕ} {rs : List Request} {end : ℕ} → store_of s ≡ got v used → sheet_of sheet ≡ got rs end → Checked s sheet
checked_both {v = v} {used = used} {rs = rs} {end = end} h k = record { store = v; used = used; stored = h; requests = rs; end = end; read = k }

-- what is refused before any message changes nothing
gave_refused : (f : Formatted) (x l w : Bytes) (why : Refusal) → f ≡ refuse (number_of why) (buffers x l w) → gave (Err (failure.Refused why)) x l w ≡ f
unfolding gave answer_of refuse
gave_refused f x l w why e = sym e

module _ (s sheet x l w : Bytes) where
  -- 4
  pub refused_store : {r : Result Figures Failure} → store_of s ≡ bad → r ≡ Err (failure.Refused refusal.MalformedStore) → gave r x l w ≡ format_sheet s sheet (buffers x l w)
  unfolding number_of
  refused_store h er = ap (λ (y : Result Figures Failure). gave y x l w) er ∙ gave_refused _ x l w refusal.MalformedStore (sheet_malformed_store s sheet (buffers x l w) h)

  module _ (c : Checked s sheet) where
    -- 7, of a list buffer that has no room for a header
    pub refused_header : length l < 5 → gave (Err (failure.Refused refusal.ShortList)) x l w ≡ format_sheet s sheet (buffers x l w)
    unfolding list_header number_of
    refused_header small = gave_refused _ x l w refusal.ShortList (sheet_header s sheet (buffers x l w) c.store c.used c.stored c.requests c.end c.read (lt-leb 5 (length l) small))

  -- the messages
  pub sheet_closed : {x₁ l₁ w₁ : Bytes} {sc : Progress} {n : ℕ} {given : Formatted} → Octets s → Octets sheet → 5 ≤ length l → length x₁ ≡ length x → length l₁ ≡ length l → length w₁ ≡ length w
      → SheetRan s sheet x l w x₁ l₁ w₁ sc n → given ≡ closed sc n (buffers x₁ l₁ w₁) → given ≡ format_sheet s sheet (buffers x l w)
  unfolding list_header
  sheet_closed {x₁} {l₁} {w₁} {sc} {n} os oi big lx ll lw r g =
      let c : Checked s sheet = r.checked in
      let o : Ran = run_sheet c.store (limits x l w) c.requests start in
      let d : format_sheet s sheet (buffers x l w) ≡ ended o (buffers x l w) = sheet_runs s sheet (buffers x l w) c.store c.used c.stored c.requests c.end c.read (le-leb 5 (length l) big) in
      g ∙ closes x l w (new_s (length w)) x₁ l₁ w₁ sc n lx ll lw o r.ran ∙ sym (ap stopped d)
      ∙ stopped_is (format_sheet s sheet (buffers x l w)) (λ t e b u v h. omega (arith, (sheet_sums s os sheet oi (buffers x l w) t e b u v h).unfound))

-- 18
pub refused_sheet : (s sheet x l w : Bytes) {v : Store} {used : ℕ} {r : Result Figures Failure} → store_of s ≡ got v used → sheet_of sheet ≡ bad → r ≡ Err (failure.Refused refusal.MalformedSheet) → gave r x l w ≡ format_sheet s sheet (buffers x l w)
unfolding number_of
refused_sheet s sheet x l w h b er = ap (λ (y : Result Figures Failure). gave y x l w) er ∙ gave_refused _ x l w refusal.MalformedSheet (sheet_malformed s sheet (buffers x l w) _ _ h b)

-- both parts of a sheet's contract from the first
pub with_figure : (r : Result Figures Failure) (x l w s sheet : Bytes) (b : Buffers) → gave r x l w ≡ format_sheet s sheet b
    → (gave r x l w ≡ format_sheet s sheet b) × FigureIs (answer_of r) (sheet_highest_use s sheet)
with_figure r x l w s sheet b h = (h, figured r x l w (format_sheet s sheet b) (sheet_highest_use s sheet) h (sheet_answers_highest s sheet b))
