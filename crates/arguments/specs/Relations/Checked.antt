-- What the code's answers mean of an arguments image that is checked.
use Rattle.std.specs.Prelude.{ℕ, zero, suc, ◌+◌, Bool, true, false, ◌&&◌, ◌||◌, not, List, length, get_or, leb, eqb, Option, Some, None, Result, Ok, Err}
use Rattle.records.specs.Got.{Got, got, bad}
use Rattle.records.specs.Bytes.{str_at}
use Rattle.records.specs.Images.{Argument, argument_at}
use Rattle.order.specs.Order.{before}
use Rattle.order.specs.Accepted.{is_least, Judged, accepted, refused_for}
use Rattle.arguments.specs.Relations.Outline.{value_given, read_or, given_from}
use Rattle.arguments.specs.declared.Given.{Given}
use Rattle.arguments.specs.declared.Given.TheVariants as given
use Rattle.arguments.specs.declared.image.Checked.{Checked}
use Rattle.refusals.specs.declared.Refusal.{Refusal}
use Rattle.refusals.specs.declared.Refusal.TheVariants as refusal
use Rattle.refusals.specs.Numbers.{number_of}

-- a judgement as a number: 0 where the image is accepted, else its refusal's
unfoldable pub refusal_of : Judged → ℕ
refusal_of (accepted l) = 0
refusal_of (refused_for n) = n

-- the same of what the code answers
unfoldable pub answer_of : Result (Unit {0}) Refusal → ℕ
answer_of (Ok u) = 0
answer_of (Err r) = number_of r

-- arguments that were checked, as what the code answers for their image
unfoldable pub in_order_or : Bool → Result (Unit {0}) Refusal
in_order_or true = Ok tt
in_order_or false = Err refusal.UnorderedArguments

unfoldable pub outcome_of : Option Checked → Result (Unit {0}) Refusal
outcome_of None = Err refusal.MalformedArguments
outcome_of (Some c) = in_order_or c.fine

-- a value by its bytes has the least scale
unfoldable pub least_given : Option Given → Bool
least_given None = true
least_given (Some (given.Text a e)) = true
least_given (Some (given.Number f d k)) = is_least (Argument.number f d k)
least_given (Some given.Nothing) = true

-- a value by its bytes is no number, or one without a scale: that stands ten bytes behind its tag
unfoldable pub is_whole : List ℕ → ℕ → Bool
is_whole s at = leb (length s) (at + 10) || (not (eqb (get_or s at 0) 2) || eqb (get_or s (at + 10) 0) 0)

-- a name comes after the one before it, if there is one
unfoldable pub follows : Got (List ℕ) → List ℕ → Bool
follows bad n = true
follows (got m e) n = before m n

-- the argument at a position stands in order behind the one at `last`
unfoldable pub stands_after : List ℕ → ℕ → ℕ → Bool
stands_after s last at = read_or false (str_at s at) (λ n e. least_given (given_from (value_given s e)) && follows (str_at s last) n)

-- n arguments that are checked one after the other
unfoldable pub run_from : ℕ → List ℕ → ℕ → ℕ → Bool → Option Checked
run_from zero s at last fine = Some (record { at = at; last = last; fine = fine })
run_from (suc n) s at last fine = read_or None (argument_at s at) (λ a e. run_from n s e at (fine && stands_after s last at))
