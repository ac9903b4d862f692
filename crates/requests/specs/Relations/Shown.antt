-- What is known of the parts of a request that were read.
use Rattle.std.specs.Prelude.{ℕ, ◌-◌, ◌≤◌, ◌≡◌, List, length}
use Rattle.std.specs.Prelude as code
use Rattle.std.proofs.Math.Option.{Option, some, none}
use Rattle.records.specs.Bytes.{part}
use Rattle.requests.specs.Image.{Request}
use Rattle.requests.specs.declared.Spans.{Spans}

-- from a position up to another, if at all: it starts before it ends, and ends in the bytes
abbrev pub SpanIn : List ℕ → code.Option (ℕ × ℕ) → Type 0
SpanIn s code.None = Unit {0}
SpanIn s (code.Some a) = (a.0 ≤ a.1) × (a.1 ≤ length s)

-- the bytes that stand there
abbrev pub spanned : List ℕ → code.Option (ℕ × ℕ) → Option (List ℕ)
spanned s code.None = none
spanned s (code.Some a) = some (part s a.0 (a.1 - a.0))

-- each part starts before it ends, and ends in the bytes
pub record Inside (s : List ℕ) (q : Spans) : Type 0 where
  pub id_on : q.id ≤ q.id_end
  pub id_in : q.id_end ≤ length s
  pub attribute : SpanIn s q.attribute
  pub image_on : q.image ≤ q.end
  pub image_in : q.end ≤ length s

-- they are the parts of a request: "a message Id, attribute Flag (and Id) and arguments image"
pub record Shows (s : List ℕ) (q : Spans) (r : Request) : Type 0 where
  pub id : part s q.id (q.id_end - q.id) ≡ r.id
  pub attribute : spanned s q.attribute ≡ r.attribute
  pub image : part s q.image (q.end - q.image) ≡ r.image
