-- A machine with another number of placeables begun. "Each message starts with no placeables begun", while a sheet's machine goes on counting them.
use Rattle.std.specs.Prelude.{ℕ, ◌+◌}
use Rattle.resolution.specs.Exec.{Machine, Ran, ran, refused}

unfoldable pub with_begun : ℕ → Machine → Machine
with_begun b m = record {
  written = m.written;
  errors = m.errors;
  nest = m.nest;
  used = m.used;
  high = m.high;
  begun = b;
  expanded = m.expanded;
  unfounds = m.unfounds;
}

-- so many more begun, where a run was not refused
unfoldable pub add_begun : ℕ → Ran → Ran
add_begun b (ran m) = ran (with_begun (b + m.begun) m)
add_begun b (refused c) = refused c
