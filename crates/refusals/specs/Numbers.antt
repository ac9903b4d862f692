-- The numbers of the refusals.
use Rattle.std.specs.Prelude.{ℕ, List, ◌∷◌, [], Option, eqb}
use Rattle.std.specs.List.{find}
use Rattle.refusals.specs.declared.Refusal.{Refusal}
use Rattle.refusals.specs.declared.Refusal.TheVariants as refusal

-- "A refusal's result is its number."
unfoldable pub number_of : Refusal → ℕ
number_of refusal.ShortSlice = 1
number_of refusal.NoLocale = 2
number_of refusal.NoFlag = 3
number_of refusal.MalformedStore = 4
number_of refusal.MalformedResource = 5
number_of refusal.FullStore = 6
number_of refusal.ShortList = 7
number_of refusal.NoId = 8
number_of refusal.NoCode = 9
number_of refusal.HeldId = 10
number_of refusal.NoMessage = 11
number_of refusal.NoPattern = 12
number_of refusal.MalformedArguments = 13
number_of refusal.ShortText = 15
number_of refusal.ShortWorkspace = 16
number_of refusal.ManyDigits = 17
number_of refusal.MalformedSheet = 18
number_of refusal.UnorderedArguments = 19

-- every refusal
unfoldable pub refusals : List Refusal
refusals = refusal.ShortSlice ∷ refusal.NoLocale ∷ refusal.NoFlag ∷ refusal.MalformedStore ∷ refusal.MalformedResource ∷ refusal.FullStore ∷ refusal.ShortList
    ∷ refusal.NoId ∷ refusal.NoCode ∷ refusal.HeldId ∷ refusal.NoMessage ∷ refusal.NoPattern ∷ refusal.MalformedArguments ∷ refusal.ShortText
    ∷ refusal.ShortWorkspace ∷ refusal.ManyDigits ∷ refusal.MalformedSheet ∷ refusal.UnorderedArguments ∷ []

-- the refusal of a number, if there is one
unfoldable pub numbered : ℕ → Option Refusal
numbered n = find (λ r. eqb (number_of r) n) refusals
