-- What the code reads of a literal, and answers for a text.
use Rattle.std.specs.Prelude.{ℕ, List, true, false, Some, None}
use Rattle.std.specs.Prelude as rust
use Rattle.literals.specs.Literal.{Read, is_number, literal}
use Rattle.decimals.specs.Relations.Shown.{shown, told_count}
use Rattle.decimals.specs.declared.types.Number as CodeNumber
use Rattle.literals.specs.declared.literal.Read as code_read

-- what the code has read of a literal
abbrev pub told_read : code_read.Read → Read
told_read r = record { negative = r.negative; digits = r.digits; fraction = told_count r.fraction }

-- what reading a text as a literal answers: the number of an accepted text
unfoldable pub literal_of : List ℕ → rust.Option CodeNumber.Number
literal_of s = elim (is_number s) [ true ↦ Some (shown (literal s)) | false ↦ None ]
