-- The answers of the code, as those of document 01.
use Rattle.std.specs.Prelude.{ℕ, List, Result, Ok, Err}
use Rattle.refusals.specs.declared.Refusal.{Refusal}
use Rattle.refusals.specs.Numbers.{number_of}
use Rattle.bundle.specs.Additions as additions
use Rattle.bundle.specs.Additions.{Added}

-- document 01's numbers and values for each answer
unfoldable pub answer_of : Result ℕ Refusal → additions.Answer
answer_of (Ok n) = additions.done n
answer_of (Err r) = additions.refused (number_of r)

-- an answer, with what the slice and the list hold then
unfoldable pub gave : Result ℕ Refusal → List ℕ → List ℕ → Added
gave r s l = record { answer = answer_of r; slice = s; list = l }
