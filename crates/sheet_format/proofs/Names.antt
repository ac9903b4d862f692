-- Each refusal that clears a sheet's buffers has a name.
use mathlib.Core.Path.{◌≡◌}
use Prim.Native.Nat.{ℕ}
use Rattle.std.specs.Prelude.{None}
use Rattle.refusals.specs.declared.Refusal.TheVariants as refusal
use Rattle.refusals.specs.Numbers.{number_of, numbered}
use Rattle.resolution.specs.Effect.{Bytes}
use Rattle.resolution.specs.Format.{Buffers, refuse}
use Rattle.sheets.specs.Refused.{cleared}
use Rattle.sheets.specs.Sheet.{format_sheet}
use Rattle.sheet_theorems.specs.ClaimsRefusals.{SheetRunning, SheetAnswers}
use Rattle.sheet_theorems.proofs.Refusals.{sheet_answers}
use Rattle.resolver.proofs.Names.{HasRefusal, found_by, run_has}

message_has : {n : ℕ} → SheetRunning n → numbered n ≡ None → ⊥
unfolding number_of
message_has SheetRunning.message = found_by refusal.NoMessage
message_has SheetRunning.part = found_by refusal.NoPattern
message_has SheetRunning.arguments = found_by refusal.MalformedArguments
message_has SheetRunning.order = found_by refusal.UnorderedArguments
message_has (SheetRunning.run h) = run_has h

pub sheet_named : (s image : Bytes) (b : Buffers) → HasRefusal (format_sheet s image b).answer
sheet_named s image b = go (sheet_answers s image b)
  where
    go : SheetAnswers s image b → HasRefusal (format_sheet s image b).answer
    go (SheetAnswers.success t e k u w h) = rw h tt
    go (SheetAnswers.before n x h) = rw h (unfold refuse in tt)
    go (SheetAnswers.running n x f h) = rw h (unfold cleared in message_has x)
