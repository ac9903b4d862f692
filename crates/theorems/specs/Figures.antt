-- The workspace figure: document 02, Card 8. "It shall be exactly the highest use by the definition … A workspace of that length finishes alike, and for a
-- figure above 0 one byte less gives 16, the other buffers being as long. The exact figure joins what additions can't change."
use Rattle.std.specs.Prelude.{◌≡◌, List, ℕ, ◌≤◌, ◌<◌, length, take}
use Rattle.std.proofs.Math.Option.{Option}
use Rattle.growth.specs.Items.{at_front}
use Rattle.layout.specs.Exact.{Octets}
use Rattle.resolution.specs.Effect.{Bytes}
use Rattle.resolution.specs.Exec.{refused}
use Rattle.resolution.specs.Format.{Answer, finished, refused_before, refused_running, Buffers, Formatted, zeros, ended, format}
use Rattle.theorems.specs.Finished.{list_of}
use Rattle.theorems.specs.Steadiness.{Addition, AllInBytes, slices_after}
use Rattle.theorems.specs.HighestUse.{highest_use}

-- the workspace figure of an answer, where it has one, is n
abbrev pub FigureIs : Answer → ℕ → Type 0
FigureIs (finished t e k u w) n = w ≡ n
FigureIs (refused_before c) n = Unit {0}
FigureIs (refused_running c) n = Unit {0}

-- "It shall be exactly the highest use by the definition"
abbrev pub FiguresHighest : Type 0
FiguresHighest = (s id : Bytes) (a : Option Bytes) (image : Bytes) (b : Buffers) (t e k u w : ℕ) → (format s id a image b).answer ≡ finished t e k u w → w ≡ highest_use s id a image

-- "the other buffers being as long", or longer, whatever they hold
pub record AsLong (b b' : Buffers) : Type 0 where
  pub text : length b.text ≤ length b'.text
  pub list : length b.list ≤ length b'.list

-- y, in the buffers b', is what x was, whose text has t bytes: the same answer, so the same five numbers; its text and its list at the front, later bytes as
-- they were lent; and a workspace of zeros.
pub record FinishesAlike (t : ℕ) (x : Formatted) (b' : Buffers) (y : Formatted) : Type 0 where
  pub answer : y.answer ≡ x.answer
  pub text : y.buffers.text ≡ at_front (take t x.buffers.text) b'.text
  pub list : y.buffers.list ≡ at_front (list_of x.buffers.list) b'.list
  pub work : y.buffers.work ≡ zeros b'.work

-- F and G say what a formatting, or a sheet, gives in the three buffers that are lent; F finished in b with a text of t bytes and the figure w. Then G, in any
-- buffers whose text and list are as long:
pub record Decides (F G : Buffers → Formatted) (b : Buffers) (t w : ℕ) : Type 0 where
  -- "A workspace of that length finishes alike", and so does a longer one
  pub enough : (b' : Buffers) → AsLong b b' → w ≤ length b'.work → FinishesAlike t (F b) b' (G b')
  -- "one byte less gives 16", and so does every shorter one; then text, list and workspace are zeros
  pub short : (b' : Buffers) → AsLong b b' → length b'.work < w → G b' ≡ ended (refused 16) b'

-- so of every finished formatting
abbrev pub FiguresExact : Type 0
FiguresExact =
    (s id : Bytes) (a : Option Bytes) (image : Bytes) (b : Buffers) (t e k u w : ℕ) → (format s id a image b).answer ≡ finished t e k u w
    → Decides (format s id a image) (format s id a image) b t w

-- "The exact figure joins what additions can't change": F is the formatting before a list of plain resource and function additions, G the one after it
pub record FigureUnchanged (F G : Buffers → Formatted) (before after : ℕ) (b : Buffers) (t w : ℕ) : Type 0 where
  -- the highest use is the same, and the figure is that
  pub same : after ≡ before
  pub figure : w ≡ before
  -- and it decides the same after the additions
  pub decides : Decides F G b t w

abbrev pub FiguresUnchanged : Type 0
FiguresUnchanged =
    (s : Bytes) → Octets s
    → (xs : List Addition) → AllInBytes xs
    → (id : Bytes) (a : Option Bytes) (image : Bytes) (b : Buffers) (t e k w : ℕ) → (format s id a image b).answer ≡ finished t e k 0 w
    → FigureUnchanged (format s id a image) (format (slices_after xs s) id a image) (highest_use s id a image) (highest_use (slices_after xs s) id a image) b t w

-- 16 is answered only where the workspace is shorter than the highest use
abbrev pub ShortWorkspaces : Type 0
ShortWorkspaces = (s id : Bytes) (a : Option Bytes) (image : Bytes) (b : Buffers) → (format s id a image b).answer ≡ refused_running 16 → length b.work < highest_use s id a image
