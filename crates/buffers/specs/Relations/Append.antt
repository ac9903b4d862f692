-- Bytes written into a lent buffer.
use Rattle.std.specs.Prelude.{◌≡◌, ℕ, ◌+◌, Result, Ok, Err, Bool, true, false, ◌&&◌, List, length, take, drop, leb}
use Rattle.records.specs.Bytes.{part}
unfoldable pub use Rattle.records.specs.Relations.Write.{over}
use Rattle.decimals.specs.Bytes.{given}
use Rattle.buffers.specs.declared.NoRoom.{NoRoom}

-- what a function that writes answers: the position past what it wrote, or that there is no room for it
abbrev pub Wrote : Type 0
Wrote = Result ℕ NoRoom

abbrev pub full : Wrote
full = Err (record {})

-- What an attempt to write bytes at a position answers, and what it leaves: past them, and the bytes are there; or that there is no room, and nothing changes.
unfoldable pub attempt : Bool → List ℕ → ℕ → List ℕ → Wrote × List ℕ
attempt true d at bs = (Ok (at + length bs), over d at bs)
attempt false d at bs = (full, d)

-- "the next write passes the buffer" (15 for a text, 16 for a workspace): where it does not, the bytes are written. No bytes at all fit up to the
-- buffer's very end.
unfoldable pub appended : List ℕ → ℕ → List ℕ → Wrote × List ℕ
appended d at bs = attempt (leb (at + length bs) (length d)) d at bs

-- "once made, it moves to the back": n bytes from a position on, written over those from a later one on
unfoldable pub moved_back : List ℕ → ℕ → ℕ → ℕ → List ℕ
moved_back w from n to = given (leb from to && leb (to + n) (length w)) (over w to (part w from n)) w

-- what such a move leaves: the bytes before the first place, the moved ones at the second, and those past them
pub record Keeps (w : List ℕ) (from to n : ℕ) (w' : List ℕ) : Type 0 where
  pub size : length w' ≡ length w
  pub front : take from w' ≡ take from w
  pub moved : part w' to n ≡ part w from n
  pub rest : drop (to + n) w' ≡ drop (to + n) w
