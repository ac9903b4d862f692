-- How far a formatting has come, and the Rust's scope in it.
use Rattle.std.specs.Prelude.{ℕ}
use Rattle.state.specs.declared.Progress.{Progress}
use Rattle.state.specs.declared.Scope.{Scope}

-- the Rust's scope in it: the placeables begun, the dirty mark, a term's arguments
abbrev pub scope_of : Progress → Scope
scope_of p = record { begun = p.begun; dirty = p.dirty; local = p.local; local_at = p.local_at; local_count = p.local_count; local_base = p.local_base }

-- the same with another scope
abbrev pub scoped_s : Scope → Progress → Progress
scoped_s c s = record s { begun = c.begun; dirty = c.dirty; local = c.local; local_at = c.local_at; local_count = c.local_count; local_base = c.local_base }

-- the number that it was refused with, 0 where it was not
abbrev pub refused_of : Progress → ℕ
refused_of p = p.refused
