-- The answers of a formatting in the code, as those of document 01.
use Rattle.std.specs.Prelude.{◌≡◌, ℕ, None, Result, Ok, Err}
use Rattle.refusals.specs.Numbers.{number_of, numbered}
use Rattle.resolution.specs.Effect.{Bytes}
use Rattle.resolution.specs.Format.{Answer, finished, refused_before, refused_running, Formatted}
use Rattle.resolver.specs.declared.format.Figures.{Figures}
use Rattle.resolver.specs.declared.format.Failure.{Failure}
use Rattle.resolver.specs.declared.format.Failure.TheVariants as failure

-- document 01's numbers and values for each answer
unfoldable pub answer_of : Result Figures Failure → Answer
answer_of (Ok f) = finished f.text f.errors f.begun f.unfound f.work
answer_of (Err (failure.Refused why)) = refused_before (number_of why)
answer_of (Err (failure.Cleared why)) = refused_running (number_of why)
answer_of (Err (failure.Other n)) = refused_running n

-- an answer, with what text, list and workspace hold then
unfoldable pub gave : Result Figures Failure → Bytes → Bytes → Bytes → Formatted
gave r x l w = record { answer = answer_of r; buffers = record { text = x; list = l; work = w } }

-- "A refusal's result is its number."
unfoldable pub failure_number : Failure → ℕ
failure_number (failure.Refused why) = number_of why
failure_number (failure.Cleared why) = number_of why
failure_number (failure.Other n) = n

-- a number that a refusal has is answered by the refusal's name
unfoldable pub IsNamed : Result Figures Failure → Type 0
IsNamed (Ok f) = Unit {0}
IsNamed (Err (failure.Refused why)) = Unit {0}
IsNamed (Err (failure.Cleared why)) = Unit {0}
IsNamed (Err (failure.Other n)) = numbered n ≡ None

-- a refusal is answered by its name
unfoldable pub ByName : Result Figures Failure → Type 0
ByName (Ok f) = Unit {0}
ByName (Err (failure.Refused why)) = Unit {0}
ByName (Err (failure.Cleared why)) = Unit {0}
ByName (Err (failure.Other n)) = ⊥
