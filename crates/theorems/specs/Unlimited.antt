-- Formatting without the limit that a u32 sets to the length of an error list (`list_limit` in Exec), and the statement that this limit decides nothing.
use Rattle.std.specs.Prelude.{◌≡◌, [], ◌∷◌, ℕ, length}
use Rattle.std.proofs.Math.Option.{Option}
use Rattle.records.specs.Tree.{Pattern}
use Rattle.records.specs.Errors.{enc_errors}
use Rattle.layout.specs.Exact.{Octets}
use Rattle.entries.specs.Lookup.{Find, find_in}
use Rattle.resolution.specs.Effect.{Bytes, Effect, put, report, begin, expand, unfound, open_text, keep_text, free, merged, Trace}
use Rattle.resolution.specs.Resolve.{Setting, bytes_of, resolve}
use Rattle.resolution.specs.Exec.{Machine, Limits, Ran, ran, allow, listed, step, and_then, start}
use Rattle.resolution.specs.Format.{Buffers, Formatted, limits_of, refuse, ended, max_patterns, fresh, format}
use Rattle.theorems.specs.Finished.{setting_of, Reached}

-- `step`, where only the list buffer's length limits the list
unfoldable pub step_freely : Limits → Effect → Machine → Ran
step_freely L (put b) m = step L (put b) m
step_freely L (report e) m =
    allow (length (enc_errors (listed m.errors e))) L.list_len 7
    (record { written = m.written; errors = listed m.errors e; nest = m.nest; used = m.used; high = m.high; begun = m.begun; expanded = m.expanded; unfounds = m.unfounds })
step_freely L begin m = step L begin m
step_freely L expand m = step L expand m
step_freely L unfound m = step L unfound m
step_freely L open_text m = step L open_text m
step_freely L keep_text m = step L keep_text m
step_freely L (free n) m = step L (free n) m
step_freely L (merged k) m = step L (merged k) m

-- `exec` and `run_pattern` by it
unfoldable pub exec_freely : Limits → Trace → Machine → Ran
exec_freely L [] m = ran m
exec_freely L (e ∷ es) m = and_then (step_freely L e m) (λ n. exec_freely L es n)

unfoldable pub run_freely : Setting → Find → Limits → Pattern → Ran
run_freely st find L p = exec_freely L (resolve st find max_patterns p (bytes_of p ∷ []) fresh).trace start

-- what a formatting that reaches its run gives without the limit
abbrev pub format_freely : {s id : Bytes} {a : Option Bytes} {image : Bytes} {b : Buffers} → Reached s id a image b → Formatted
format_freely {b = b} r = ended (run_freely (setting_of r.store r.arguments) (find_in r.store.items) (limits_of b) r.part) b

-- A formatting is refused before its run, where nothing is listed and nothing changes; or it reaches its run and gives the same without the limit: its
-- answer and all three buffers.
pub data SameFreely (s : Bytes) (id : Bytes) (a : Option Bytes) (image : Bytes) (b : Buffers) : Type 0 where
  before : (n : ℕ) → format s id a image b ≡ refuse n b → SameFreely s id a image b
  reached : (r : Reached s id a image b) → format s id a image b ≡ format_freely r → SameFreely s id a image b

-- so every formatting from a slice of bytes
abbrev pub LimitIdle : Type 0
LimitIdle = (s : Bytes) → Octets s → (id : Bytes) (a : Option Bytes) (image : Bytes) (b : Buffers) → SameFreely s id a image b
