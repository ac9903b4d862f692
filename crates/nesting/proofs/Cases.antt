-- The premises of Card 12 can be met, and each is needed, by computing.
use mathlib.Core.Path.{refl}
use Rattle.resolution.specs.Case.{⟨, ⟩}
use Rattle.resolution.specs.CutShort.{empties, cut_in_isolates}
use Rattle.sheets.specs.Cases.{without}
use Rattle.nesting.specs.Cases.{counted, bundle_of, lent, cut, twice, PremisesMet, in_text, in_literal, in_variable, marked, marked_sheet, unpaired_where_marked, PremisesNeeded}
use Rattle.nesting.proofs.Decided.{octets_true, bundle_unmarked, arguments_unmarked, sheet_unmarked, tests}

pub premises_met : PremisesMet
unfolding counted bundle_of lent cut twice empties cut_in_isolates tests
premises_met = record {
  store_octets = octets_true cut refl;
  store = bundle_unmarked cut refl;
  arguments_octets = octets_true without refl;
  arguments = arguments_unmarked without refl;
  finishes = refl;
  text = refl;
  sheet_octets = octets_true twice refl;
  sheet = sheet_unmarked twice refl;
  sheet_finishes = refl;
  sheet_text = refl;
}

pub premises_needed : PremisesNeeded
unfolding counted bundle_of in_text in_literal in_variable marked marked_sheet tests
premises_needed = record {
  has_marks = unpaired_where_marked;
  text_octets = octets_true (in_text ⟩) refl;
  opening_text_octets = octets_true (in_text ⟨) refl;
  literal_octets = octets_true in_literal refl;
  arguments_octets = octets_true without refl;
  no_arguments = arguments_unmarked without refl;
  store_octets = octets_true in_variable refl;
  no_texts = bundle_unmarked in_variable refl;
  marked_octets = octets_true marked refl;
  sheet_octets = octets_true marked_sheet refl;
}
