-- What an answer of the code means.
use Rattle.std.specs.Prelude.{ℕ, ◌-◌, ◌≤◌, Bool, true, false, ◌&&◌, List, [], length, leb, Option, Some, None}
use Rattle.std.proofs.Math.Option.{Option as Maybe, some, none}
use Rattle.records.specs.Bytes.{part}
use Rattle.records.specs.Images.{Argument}
use Rattle.arguments.specs.declared.Given.{Given}
use Rattle.arguments.specs.declared.Given.TheVariants as given

-- the part of a list from a position up to another; nothing where that is no part
unfoldable pub between_if : Bool → List ℕ → ℕ → ℕ → List ℕ
between_if true s a e = part s a (e - a)
between_if false s a e = []

unfoldable pub between : List ℕ → ℕ → ℕ → List ℕ
between s a e = between_if (leb a e && leb e (length s)) s a e

-- what an answer of the code means
unfoldable pub meant : List ℕ → Option Given → Maybe Argument
meant s None = none
meant s (Some (given.Text a e)) = some (Argument.string (between s a e))
meant s (Some (given.Number f d k)) = some (Argument.number f d k)
meant s (Some given.Nothing) = some Argument.nothing

-- a text lies in the image
unfoldable pub Within : List ℕ → Option Given → Type 0
Within s None = Unit {0}
Within s (Some (given.Text a e)) = (a ≤ e) × (e ≤ length s)
Within s (Some (given.Number f d k)) = Unit {0}
Within s (Some given.Nothing) = Unit {0}
