-- What is claimed of a sheet's workspace figure: document 02, Card 8, for sheets.
use Rattle.std.specs.Prelude.{◌≡◌, List, ℕ, ◌<◌, length}
use Rattle.layout.specs.Exact.{Octets}
use Rattle.resolution.specs.Effect.{Bytes}
use Rattle.resolution.specs.Format.{finished, refused_running, Buffers}
use Rattle.theorems.specs.Steadiness.{Addition, AllInBytes, slices_after}
use Rattle.theorems.specs.Figures.{Decides, FigureUnchanged}
use Rattle.sheets.specs.Sheet.{format_sheet}
use Rattle.sheet_theorems.specs.HighestUse.{sheet_highest_use}

-- "exactly the highest use by the definition, for a sheet the largest of its messages'"
abbrev pub SheetFiguresHighest : Type 0
SheetFiguresHighest = (s image : Bytes) (b : Buffers) (t e k u w : ℕ) → (format_sheet s image b).answer ≡ finished t e k u w → w ≡ sheet_highest_use s image

-- "A workspace of that length finishes alike, and for a figure above 0 one byte less gives 16, the other buffers being as long."
abbrev pub SheetFiguresExact : Type 0
SheetFiguresExact =
    (s image : Bytes) (b : Buffers) (t e k u w : ℕ) → (format_sheet s image b).answer ≡ finished t e k u w
    → Decides (format_sheet s image) (format_sheet s image) b t w

-- "The exact figure joins what additions can't change."
abbrev pub SheetFiguresUnchanged : Type 0
SheetFiguresUnchanged =
    (s : Bytes) → Octets s
    → (xs : List Addition) → AllInBytes xs
    → (image : Bytes) (b : Buffers) (t e k w : ℕ) → (format_sheet s image b).answer ≡ finished t e k 0 w
    → FigureUnchanged (format_sheet s image) (format_sheet (slices_after xs s) image) (sheet_highest_use s image) (sheet_highest_use (slices_after xs s) image) b t w

-- 16 is answered only where the workspace is shorter than the highest use
abbrev pub SheetShortWorkspaces : Type 0
SheetShortWorkspaces = (s image : Bytes) (b : Buffers) → (format_sheet s image b).answer ≡ refused_running 16 → length b.work < sheet_highest_use s image
