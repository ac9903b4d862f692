-- The highest use of the workspace: a function of the bundle's slice, the message id, the attribute and the arguments image, and of no buffer.
-- Document 01: "A text still being made stands at the front, above the one it interrupts; once made, it moves to the back, below those still alive there. Use is
-- the bytes of both."
use Rattle.std.specs.Prelude.{List, [], ◌∷◌, ℕ, ◌+◌, ◌-◌, max, length}
use Rattle.std.proofs.Math.Option.{Option, none, some}
use Rattle.records.specs.Got.{Got, got, bad}
use Rattle.records.specs.Tree.{Pattern}
use Rattle.records.specs.Images.{Entry, Store, store_of}
use Rattle.order.specs.Accepted.{Judged, accepted, refused_for, judge}
use Rattle.entries.specs.Lookup.{find_in, part_of}
use Rattle.resolution.specs.Effect.{Bytes, Effect, put, report, begin, expand, unfound, open_text, keep_text, free, merged, Trace}
use Rattle.resolution.specs.Resolve.{as_message}
use Rattle.theorems.specs.Finished.{trace_of, setting_of}

-- The workspace at one moment: the lengths of the texts still being made, each above the one that it interrupts, the newest first; and the bytes of the
-- finished ones that are alive.
pub record Workspace : Type 0 where
  pub front : List ℕ
  pub back : ℕ

unfoldable pub empty : Workspace
empty = record { front = []; back = 0 }

unfoldable pub total : List ℕ → ℕ
total [] = 0
total (n ∷ ns) = n + total ns

-- "Use is the bytes of both."
unfoldable pub use_of : Workspace → ℕ
use_of w = total w.front + w.back

-- the newest text, n bytes longer; where none is being made the bytes go to the text buffer
unfoldable pub longer : ℕ → List ℕ → List ℕ
longer n [] = []
longer n (k ∷ ks) = (k + n) ∷ ks

-- "once made, it moves to the back"
unfoldable pub moved : List ℕ → ℕ → Workspace
moved [] back = record { front = []; back = back }
moved (k ∷ ks) back = record { front = ks; back = back + k }

-- What an effect of resolution makes of the workspace. Which texts go there, and when each is freed, is in the trace (`capture` and `release` in
-- crates/resolution/specs/Resolve.antt, with cases in Figures.antt there). No trace frees more than is at the back (`traces_empty`), so the difference is never cut off at 0.
unfoldable pub workspace_after : Effect → Workspace → Workspace
workspace_after (put b) w = record { front = longer (length b) w.front; back = w.back }
workspace_after (report e) w = w
workspace_after begin w = w
workspace_after expand w = w
workspace_after unfound w = w
workspace_after open_text w = record { front = 0 ∷ w.front; back = w.back }
workspace_after keep_text w = moved w.front w.back
workspace_after (free n) w = record { front = w.front; back = w.back - n }
workspace_after (merged n) w = w

-- the most bytes in use at any moment of a trace, to its end; a run that is refused ends before that
unfoldable pub highest : Trace → Workspace → ℕ
highest [] w = use_of w
highest (e ∷ t) w = max (use_of w) (highest t (workspace_after e w))

-- Of a message of a bundle, its value or an attribute, with an arguments image: the highest use of its trace, from an empty workspace. Where one of these is not there, or the image is refused,
-- nothing is resolved.
unfoldable pub arguments_use : Store → Pattern → Judged → ℕ
arguments_use v p (refused_for n) = 0
arguments_use v p (accepted args) = highest (trace_of (setting_of v args) (find_in v.items) p) empty

unfoldable pub part_use : Store → Option Pattern → Bytes → ℕ
part_use v none image = 0
part_use v (some p) image = arguments_use v p (judge image)

unfoldable pub entry_use : Store → Option Entry → Option Bytes → Bytes → ℕ
entry_use v none a image = 0
entry_use v (some e) a image = part_use v (part_of a e) image

unfoldable pub message_use : Store → Bytes → Option Bytes → Bytes → ℕ
message_use v id a image = entry_use v (as_message (find_in v.items id)) a image

-- from the bundle's slice
unfoldable pub store_use : Got Store → Bytes → Option Bytes → Bytes → ℕ
store_use bad id a image = 0
store_use (got v e) id a image = message_use v id a image

unfoldable pub highest_use : Bytes → Bytes → Option Bytes → Bytes → ℕ
highest_use s id a image = store_use (store_of s) id a image
