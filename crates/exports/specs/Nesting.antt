-- Card 12 for a caller. The contracts of `weszlagyo_format` and `weszlagyo_format_sheet` say that what is handed over, h, is that of the definition. Where no
-- text that goes in has a mark and 0 is answered, the isolation marks of the text are paired, up to the length that is handed over.
use Rattle.std.specs.Prelude.{◌≡◌, take}
use Rattle.std.proofs.Math.Option.{Option}
use Rattle.layout.specs.Exact.{Octets}
use Rattle.resolution.specs.Effect.{Bytes}
use Rattle.resolution.specs.Format.{Buffers, format}
use Rattle.sheets.specs.Sheet.{format_sheet}
use Rattle.nesting.specs.Marks.{UnmarkedBytes, PairedBytes, UnmarkedScalars, PairedScalars}
use Rattle.nesting.specs.Claims.{InBundle, InArguments, InSheet}
use Rattle.exports.specs.Numbers.{Lent, Handed, handed}

module _ (Q P : Bytes → Type 0) where
  -- every call for a message or an attribute; k are the lent numbers before it
  abbrev pub FormatCalls : Type 0
  FormatCalls =
      (s : Bytes) → Octets s → InBundle Q s
      → (image : Bytes) → Octets image → InArguments Q image
      → (id : Bytes) (a : Option Bytes) (b : Buffers) (k : Lent) (h : Handed) → handed (format s id a image b) k ≡ h → h.number ≡ 0
      → P (take h.figures.written h.buffers.text)

  -- every call for a sheet
  abbrev pub SheetCalls : Type 0
  SheetCalls =
      (s : Bytes) → Octets s → InBundle Q s
      → (image : Bytes) → Octets image → InSheet Q image
      → (b : Buffers) (k : Lent) (h : Handed) → handed (format_sheet s image b) k ≡ h → h.number ≡ 0
      → P (take h.figures.written h.buffers.text)

-- isolation marks nest in what is handed over, by bytes and by Unicode scalars
pub record CallsNest : Type 0 where
  pub formats : FormatCalls UnmarkedBytes PairedBytes
  pub sheets : SheetCalls UnmarkedBytes PairedBytes
  pub formats_scalars : FormatCalls UnmarkedScalars PairedScalars
  pub sheets_scalars : SheetCalls UnmarkedScalars PairedScalars
