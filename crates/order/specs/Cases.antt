-- Which byte strings are less, and which arguments images are accepted, by computing.
use Rattle.std.specs.Prelude.{◌≡◌, refl, List, [], ◌∷◌, ◌++◌, true, false, ℕ}
use Rattle.decimals.specs.Ascii.{ascii}
use Rattle.records.specs.Images.{Argument}
use Rattle.records.specs.Encode.{enc_arguments_image}
use Rattle.order.specs.Order.{before}
use Rattle.order.specs.Accepted.{Judged, accepted, refused_for, judge}
use Rattle.order.specs.Opened.{order_opened}

-- "strictly ascending byte order"
pub record Ordered : Type 0 where
  -- a proper prefix is less, whatever follows; the first byte that differs decides; upper case letters are before lower case ones, `-` before digits
  pub prefix : before (ascii "a") (ascii "aa") ≡ true
  pub no_longer : before (ascii "aa") (ascii "a") ≡ false
  pub longer_less : before (ascii "ab") (ascii "b") ≡ true
  pub upper : before (ascii "B") (ascii "a") ≡ true
  pub dash : before (ascii "a-z") (ascii "a0") ≡ true
  -- "strictly": a string is not before itself
  pub same : before (ascii "ab") (ascii "ab") ≡ false

pub ordered : Ordered
unfolding order_opened
ordered = record { prefix = refl; no_longer = refl; longer_less = refl; upper = refl; dash = refl; same = refl }

-- an image of some arguments, as they stand
abbrev pub judged : List (List ℕ × Argument) → Judged
judged l = judge (enc_arguments_image l)

-- the name n without a value, and with a number
abbrev pub none : List ℕ × Argument
none = (ascii "n", Argument.nothing)

abbrev pub number : ℕ → ℕ → List ℕ × Argument
number d k = (ascii "n", Argument.number false d k)

-- "13 malformed arguments; 19 names not strictly ascending, or a scale above 0 with digits divisible by 10, directly after 13"
pub record Judging : Type 0 where
  pub empty : judged [] ≡ accepted []
  pub two : judged ((ascii "a", Argument.nothing) ∷ none ∷ []) ≡ accepted ((ascii "a", Argument.nothing) ∷ none ∷ [])
  pub exchanged : judged (none ∷ (ascii "a", Argument.nothing) ∷ []) ≡ refused_for 19
  pub twice : judged (none ∷ none ∷ []) ≡ refused_for 19
  -- the prefix comes first
  pub prefix_first : judged (none ∷ (ascii "nn", Argument.nothing) ∷ []) ≡ accepted (none ∷ (ascii "nn", Argument.nothing) ∷ [])
  pub prefix_last : judged ((ascii "nn", Argument.nothing) ∷ none ∷ []) ≡ refused_for 19
  -- 1.5; 1.0 with a digit too many; ten; zero, and zero with a scale; minus zero
  pub fraction : judged (number 15 1 ∷ []) ≡ accepted (number 15 1 ∷ [])
  pub longer_scale : judged (number 10 1 ∷ []) ≡ refused_for 19
  pub ten : judged (number 10 0 ∷ []) ≡ accepted (number 10 0 ∷ [])
  pub zero : judged (number 0 0 ∷ []) ≡ accepted (number 0 0 ∷ [])
  pub zero_scaled : judged (number 0 1 ∷ []) ≡ refused_for 19
  pub minus_zero : judged ((ascii "n", Argument.number true 0 0) ∷ []) ≡ accepted ((ascii "n", Argument.number true 0 0) ∷ [])
  -- 13 is judged in full first: names that do not ascend, and behind them a name that is no Id, or a byte too many
  pub malformed_behind : judged (none ∷ (ascii "a", Argument.nothing) ∷ (ascii "1", Argument.nothing) ∷ []) ≡ refused_for 13
  pub byte_behind : judge (enc_arguments_image (none ∷ (ascii "a", Argument.nothing) ∷ []) ++ (0 ∷ [])) ≡ refused_for 13
  pub no_image : judge [] ≡ refused_for 13

pub judging : Judging
unfolding order_opened
judging = record {
  empty = refl;
  two = refl;
  exchanged = refl;
  twice = refl;
  prefix_first = refl;
  prefix_last = refl;
  fraction = refl;
  longer_scale = refl;
  ten = refl;
  zero = refl;
  zero_scaled = refl;
  minus_zero = refl;
  malformed_behind = refl;
  byte_behind = refl;
  no_image = refl;
}
