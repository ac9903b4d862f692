-- How far a formatting has come, with one part of it changed: what each function of this crate makes of it.
use Rattle.std.specs.Prelude.{Bool, true, false, ℕ, ◌+◌, min, ltb}
use Rattle.refusals.specs.declared.Refusal.{Refusal}
use Rattle.refusals.specs.Numbers.{number_of}
use Rattle.state.specs.declared.Progress.{Progress}

-- the most that is counted of lookups unfound
abbrev pub max_unfound : ℕ
max_unfound = 18446744073709551615

-- one more of a count that stops at its greatest value
unfoldable pub up_to : ℕ → ℕ → ℕ
up_to most n = min (n + 1) most

-- refused with a number
abbrev pub refused_s : ℕ → Progress → Progress
refused_s n s = record s { refused = n }

-- refused
abbrev pub refuse_s : Refusal → Progress → Progress
refuse_s x s = refused_s (number_of x) s

-- so many patterns on the trail
abbrev pub depth_s : ℕ → Progress → Progress
depth_s x s = record s { depth = x }

-- so many placeables begun
abbrev pub begun_s : ℕ → Bool → Progress → Progress
begun_s x d s = record s { begun = x; dirty = d }

-- the workspace's back
abbrev pub back_s : ℕ → Progress → Progress
back_s x s = record s { back = x }

-- whether a text is made aside
abbrev pub aside_s : Bool → Progress → Progress
aside_s x s = record s { aside = x }

-- a text of its own was made
abbrev pub kept_s : ℕ → ℕ → Bool → Progress → Progress
kept_s f b x s = record s { front = f; back = b; aside = x }

-- so much text
abbrev pub text_s : ℕ → Progress → Progress
text_s x s = record s { text_at = x }

-- so long a list of so many errors
abbrev pub list_s : ℕ → ℕ → Progress → Progress
list_s x n s = record s { list_at = x; errors = n }

-- the workspace's front, and the highest use
abbrev pub front_s : ℕ → ℕ → Progress → Progress
front_s f h s = record s { front = f; high = h }

-- so much kept at the workspace's back, and the highest use
abbrev pub held_s : ℕ → ℕ → Progress → Progress
held_s b h s = record s { back = b; high = h }

-- so many lookups unfound
abbrev pub unfound_s : ℕ → Progress → Progress
unfound_s n s = record s { unfound = n }

-- a term's named arguments
abbrev pub locals_s : ℕ → ℕ → ℕ → Progress → Progress
locals_s a c b s = record s { local = true; local_at = a; local_count = c; local_base = b }

-- no term's arguments
abbrev pub clear_s : Progress → Progress
clear_s s = record s { local = false }

-- where a run begins; the depth is 1 once the pattern that is asked for is on the trail
abbrev pub new_s : ℕ → Progress
new_s n = record { text_at = 0; list_at = 5; errors = 0; front = 0; back = n; high = 0; depth = 0; begun = 0; unfound = 0; aside = false; dirty = false; local = false; local_at = 0; local_count = 0; local_base = 0; refused = 0 }

-- a lookup unfound more, as far as the count goes
unfoldable pub counted_s : Progress → Progress
counted_s s = unfound_s (up_to max_unfound s.unfound) s

-- a call of an id that has no entry: the lookup is counted, its arguments are freed, and no error is counted
abbrev pub missing_s : ℕ → Progress → Progress
missing_s old s = back_s old (counted_s s)

-- whether one placeable more may be begun
abbrev pub may_begin : Progress → Bool
may_begin s = ltb s.begun 100

-- one placeable more is begun, where it may be; else nothing changes
unfoldable pub begun_if : Bool → Progress → Progress
begun_if true s = begun_s (s.begun + 1) s.dirty s
begun_if false s = s

unfoldable pub begin_s : Progress → Progress
begin_s s = begun_if (may_begin s) s
