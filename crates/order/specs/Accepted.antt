-- Which arguments images are accepted: document 02, Card 2.
use Rattle.std.specs.Prelude.{ℕ, ◌%◌, Bool, true, false, ◌&&◌, ◌||◌, not, List, [], ◌∷◌, eqb}
use Rattle.records.specs.Got.{Got, got, bad}
use Rattle.records.specs.Images.{Argument, arguments_of}
use Rattle.order.specs.Order.{before}

-- a name that stands before the first of some arguments
unfoldable pub leads : List ℕ → List (List ℕ × Argument) → Bool
leads n [] = true
leads n (a ∷ l) = before n a.0

-- "names stand in strictly ascending byte order"
unfoldable pub ascending : List (List ℕ × Argument) → Bool
ascending [] = true
ascending (a ∷ l) = leads a.0 l && ascending l

-- "A number's scale is the smallest that gives it": none above 0 with digits divisible by 10
unfoldable pub is_least : Argument → Bool
is_least (Argument.string t) = true
is_least (Argument.number f d k) = eqb k 0 || not (eqb (d % 10) 0)
is_least Argument.nothing = true

-- so of each argument
unfoldable pub all_least : List (List ℕ × Argument) → Bool
all_least [] = true
all_least (a ∷ l) = is_least a.1 && all_least l

-- names ascend, and every scale is the least
unfoldable pub in_order : List (List ℕ × Argument) → Bool
in_order l = ascending l && all_least l

-- what becomes of an arguments image: its names and values, or the number that it is refused with
pub data Judged : Type 0 where
  accepted : List (List ℕ × Argument) → Judged
  refused_for : ℕ → Judged

-- "19 names not strictly ascending, or a scale above 0 with digits divisible by 10"
unfoldable pub judged_if : Bool → List (List ℕ × Argument) → Judged
judged_if true l = accepted l
judged_if false l = refused_for 19

-- "13 malformed arguments"; 19 stands "directly after 13"
unfoldable pub judge_read : Got (List (List ℕ × Argument)) → Judged
judge_read bad = refused_for 13
judge_read (got l e) = judged_if (in_order l) l

-- what becomes of an arguments image
unfoldable pub judge : List ℕ → Judged
judge image = judge_read (arguments_of image)
