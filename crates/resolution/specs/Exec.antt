-- A trace run against the three buffers' lengths: the first refusal, or the machine that it leads to. Document 01, "Format": "Then, whichever the
-- definition meets first: 15 the next write passes the text buffer; 7 the next record passes the list buffer; 16 the next write passes the workspace;
-- 17 a merged minimumFractionDigits above 19".
use Rattle.std.specs.Prelude.{List, [], ◌∷◌, ◌++◌, Bool, true, false, ℕ, zero, suc, ◌+◌, ◌-◌, min, max, length, leb}
use Rattle.numbers.specs.Number.{fraction_limit}
use Rattle.records.specs.Errors.{Error, enc_errors}
use Rattle.resolution.specs.Effect.{Bytes, Effect, put, report, begin, expand, unfound, open_text, keep_text, free, merged, Trace}

-- The text, the errors listed, how many workspace texts are open, the workspace bytes in use ("Use is the bytes of both") and the most there were,
-- placeables begun and expanded, lookups unfound.
pub record Machine : Type 0 where
  pub written : Bytes
  pub errors : List Error
  pub nest : ℕ
  pub used : ℕ
  pub high : ℕ
  pub begun : ℕ
  pub expanded : ℕ
  pub unfounds : ℕ

pub record Limits : Type 0 where
  pub text_len : ℕ
  pub list_len : ℕ
  pub work_len : ℕ

pub data Ran : Type 0 where
  ran : Machine → Ran
  refused : ℕ → Ran

-- what takes `need` bytes of `have`, and is refused with a number
unfoldable pub allow_if : Bool → ℕ → Machine → Ran
allow_if true code m = ran m
allow_if false code m = refused code

unfoldable pub allow : ℕ → ℕ → ℕ → Machine → Ran
allow need have code m = allow_if (leb need have) code m

-- the length of a list is a u32
unfoldable pub list_limit : ℕ → ℕ
list_limit n = min n 4294967295

unfoldable pub put_text : Limits → Bytes → Machine → Ran
put_text L b m =
    allow (length m.written + length b) L.text_len 15
    (record { written = m.written ++ b; errors = m.errors; nest = m.nest; used = m.used; high = m.high; begun = m.begun; expanded = m.expanded; unfounds = m.unfounds })

unfoldable pub put_work : Limits → Bytes → Machine → Ran
put_work L b m =
    allow (m.used + length b) L.work_len 16
    (record { written = m.written; errors = m.errors; nest = m.nest; used = m.used + length b; high = max m.high (m.used + length b); begun = m.begun; expanded = m.expanded; unfounds = m.unfounds })

-- text goes to the text buffer, or to the workspace while a workspace text is open
unfoldable pub put_at : Limits → Bytes → Machine → ℕ → Ran
put_at L b m zero = put_text L b m
put_at L b m (suc n) = put_work L b m

unfoldable pub listed : List Error → Error → List Error
listed es e = es ++ (e ∷ [])

unfoldable pub step : Limits → Effect → Machine → Ran
step L (put b) m = put_at L b m m.nest
step L (report e) m =
    allow (length (enc_errors (listed m.errors e))) (list_limit L.list_len) 7
    (record { written = m.written; errors = listed m.errors e; nest = m.nest; used = m.used; high = m.high; begun = m.begun; expanded = m.expanded; unfounds = m.unfounds })
step L begin m = ran (record { written = m.written; errors = m.errors; nest = m.nest; used = m.used; high = m.high; begun = suc m.begun; expanded = m.expanded; unfounds = m.unfounds })
step L expand m = ran (record { written = m.written; errors = m.errors; nest = m.nest; used = m.used; high = m.high; begun = m.begun; expanded = suc m.expanded; unfounds = m.unfounds })
step L unfound m = ran (record { written = m.written; errors = m.errors; nest = m.nest; used = m.used; high = m.high; begun = m.begun; expanded = m.expanded; unfounds = suc m.unfounds })
step L open_text m = ran (record { written = m.written; errors = m.errors; nest = suc m.nest; used = m.used; high = m.high; begun = m.begun; expanded = m.expanded; unfounds = m.unfounds })
step L keep_text m = ran (record { written = m.written; errors = m.errors; nest = m.nest - 1; used = m.used; high = m.high; begun = m.begun; expanded = m.expanded; unfounds = m.unfounds })
step L (free n) m = ran (record { written = m.written; errors = m.errors; nest = m.nest; used = m.used - n; high = m.high; begun = m.begun; expanded = m.expanded; unfounds = m.unfounds })
step L (merged k) m = allow k fraction_limit 17 m

unfoldable pub and_then : Ran → (Machine → Ran) → Ran
and_then (ran m) f = f m
and_then (refused n) f = refused n

unfoldable pub exec : Limits → Trace → Machine → Ran
exec L [] m = ran m
exec L (e ∷ es) m = and_then (step L e m) (λ n. exec L es n)

unfoldable pub start : Machine
start = record { written = []; errors = []; nest = 0; used = 0; high = 0; begun = 0; expanded = 0; unfounds = 0 }
