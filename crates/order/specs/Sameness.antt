-- "Two images with the same names and values are then the same bytes; zero and minus zero count as two values": document 02, Card 2.
use Rattle.std.specs.Prelude.{ℕ, ◌*◌, ◌^◌, ◌≤◌, ◌≡◌, List, [], ◌∷◌, length}
use Rattle.records.specs.Images.{Argument, max_image}
use Rattle.records.specs.Encode.{enc_arguments_image}
use Rattle.records.specs.Valid.{All, ValidNamedArgument}
use Rattle.layout.specs.Exact.{Octets}
use Rattle.order.specs.Accepted.{accepted, judge}

-- the same value: the same text; a number of the same sign and size, whatever its scale; none
unfoldable pub SameValue : Argument → Argument → Type 0
SameValue (Argument.string t) (Argument.string u) = t ≡ u
SameValue (Argument.string t) (Argument.number g e m) = ⊥
SameValue (Argument.string t) Argument.nothing = ⊥
SameValue (Argument.number f d k) (Argument.string u) = ⊥
SameValue (Argument.number f d k) (Argument.number g e m) = (f ≡ g) × (d * 10 ^ m ≡ e * 10 ^ k)
SameValue (Argument.number f d k) Argument.nothing = ⊥
SameValue Argument.nothing (Argument.string u) = ⊥
SameValue Argument.nothing (Argument.number g e m) = ⊥
SameValue Argument.nothing Argument.nothing = Unit {0}

-- a name and a value are among some
pub data In (a : List ℕ × Argument) : List (List ℕ × Argument) → Type 0 where
  here : {l : List (List ℕ × Argument)} → In a (a ∷ l)
  there : {b : List ℕ × Argument} {l : List (List ℕ × Argument)} → In a l → In a (b ∷ l)

-- an image that is accepted
unfoldable pub Accepted : List ℕ → Type 0
Accepted image = (l : List (List ℕ × Argument)) × (judge image ≡ accepted l)

-- an image gives a name a value
unfoldable pub Gives : List ℕ → List ℕ → Argument → Type 0
Gives image n v = (l : List (List ℕ × Argument)) × (judge image ≡ accepted l) × In (n, v) l

-- names and values, in no order: which value a name has
abbrev pub Values : Type 1
Values = List ℕ → Argument → Type 0

-- an image gives each name of a set its value there, and no other name
pub record Holds (S : Values) (image : List ℕ) : Type 0 where
  pub all : (n : List ℕ) (v : Argument) → S n v → (w : Argument) × Gives image n w × SameValue v w
  pub only : (n : List ℕ) (w : Argument) → Gives image n w → (v : Argument) × S n v × SameValue v w

-- "Two images with the same names and values are then the same bytes": the accepted images that hold one set are one
unfoldable pub OneImage : Type 1
OneImage = (S : Values) (s t : List ℕ) → Octets s → Octets t → Accepted s → Accepted t → Holds S s → Holds S t → s ≡ t

-- what a list has among its pairs, in whatever order they stand
unfoldable pub values_in : List (List ℕ × Argument) → Values
values_in l n v = In (n, v) l

-- no name twice
unfoldable pub Once : List (List ℕ × Argument) → Type 0
Once [] = Unit {0}
Once (a ∷ l) = ((v : Argument) → In (a.0, v) l → ⊥) × Once l

-- within the limits of document 01: the names are Ids, texts and numbers may stand in an image, and all of it is no longer than one may be
pub record Allowed (l : List (List ℕ × Argument)) : Type 0 where
  pub valid : All ValidNamedArgument l
  pub once : Once l
  pub fits : length (enc_arguments_image l) ≤ max_image

-- every set of names and values within the limits has an accepted image
unfoldable pub AnImage : Type 0
AnImage = (l : List (List ℕ × Argument)) → Allowed l → (image : List ℕ) × Octets image × Accepted image × Holds (values_in l) image
