-- The text that an exported function hands over has its isolation marks paired, where what goes in has none.
use mathlib.Core.Path.{◌≡◌, refl, ap, subst, ◌∙◌}
use Prim.Native.Nat.{ℕ}
use lib.ListN.{take}
use Rattle.resolution.specs.Effect.{Bytes}
use Rattle.resolution.specs.Format.{Answer, finished, refused_before, refused_running, Formatted, format}
use Rattle.sheets.specs.Sheet.{format_sheet}
use Rattle.nesting.specs.Marks.{UnmarkedBytes, PairedBytes, UnmarkedScalars, PairedScalars}
use Rattle.nesting.specs.Claims.{EveryFormatting, EverySheet}
use Rattle.nesting.proofs.Nesting.{marks_nest}
use Rattle.exports.specs.Numbers.{Lent, Handed, format_number_of, lent_after, handed}
use Rattle.exports.specs.Zero.{FormatTold}
use Rattle.exports.specs.Nesting.{FormatCalls, SheetCalls, CallsNest}
use Rattle.exports.proofs.Zero.{format_told, sheet_told}

-- where 0 is answered, a formatting finished: what holds of every finished text holds of the text handed over
module _ (P : Bytes → Type 0) (f : Formatted) (told : FormatTold f.answer) (every : (t e b u w : ℕ) → f.answer ≡ finished t e b u w → P (take t f.buffers.text)) where
  by_answer : (k : Lent) (c : Answer) → f.answer ≡ c → FormatTold c → format_number_of c ≡ 0 → P (take (lent_after c k).written f.buffers.text)
  unfolding format_number_of lent_after
  by_answer k (finished t e b u w) q x z = every t e b u w q
  by_answer k (refused_before n) q x z = absurd (x z)
  by_answer k (refused_running n) q x z = absurd (x z)

  handed_over : (k : Lent) (h : Handed) → handed f k ≡ h → h.number ≡ 0 → P (take h.figures.written h.buffers.text)
  unfolding handed
  handed_over k h q z =
      subst (λ (x : Handed). P (take x.figures.written x.buffers.text)) q (by_answer k f.answer refl told (ap (λ (x : Handed). x.number) q ∙ z))

-- so from each claim of the definition to that of the calls
module _ (Q P : Bytes → Type 0) where
  format_calls : EveryFormatting Q P → FormatCalls Q P
  format_calls f s os us image oi ui id a b k h q z = handed_over P (format s id a image b) (format_told s id a image b) (f s os us image oi ui id a b) k h q z

  sheet_calls : EverySheet Q P → SheetCalls Q P
  sheet_calls f s os us image oi ui b k h q z = handed_over P (format_sheet s image b) (sheet_told s image b) (f s os us image oi ui b) k h q z

pub calls_nest : CallsNest
calls_nest = record {
  formats = format_calls UnmarkedBytes PairedBytes marks_nest.formattings;
  sheets = sheet_calls UnmarkedBytes PairedBytes marks_nest.sheets;
  formats_scalars = format_calls UnmarkedScalars PairedScalars marks_nest.formattings_scalars;
  sheets_scalars = sheet_calls UnmarkedScalars PairedScalars marks_nest.sheets_scalars;
}
