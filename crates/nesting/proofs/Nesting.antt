-- Isolation marks nest: in every finished formatting and sheet, by bytes and by Unicode scalars.
use Rattle.theorems.proofs.ReadBack.{text_well_formed}
use Rattle.sheet_theorems.proofs.Fine.{sheet_text_well_formed}
use Rattle.nesting.specs.Marks.{UnmarkedScalars, PairedScalars}
use Rattle.nesting.specs.Claims.{EveryFormatting, EverySheet, MarksNest}
use Rattle.nesting.proofs.Formattings.{formattings_nest}
use Rattle.nesting.proofs.Sheets.{sheets_nest}
use Rattle.nesting.proofs.Scalars.{paired_exactly}
use Rattle.nesting.proofs.Premises.{bundle_bytes, arguments_bytes, sheet_bytes}

formattings_scalars : EveryFormatting UnmarkedScalars PairedScalars
formattings_scalars s os us image oi ui id a b t e k u w h =
    (paired_exactly _ (text_well_formed s os id a image oi b t e k u w h)).0 (formattings_nest s os (bundle_bytes s us) image oi (arguments_bytes image ui) id a b t e k u w h)

sheets_scalars : EverySheet UnmarkedScalars PairedScalars
sheets_scalars s os us image oi ui b t e k u w h =
    (paired_exactly _ (sheet_text_well_formed s os image oi b t e k u w h)).0 (sheets_nest s os (bundle_bytes s us) image oi (sheet_bytes image ui) b t e k u w h)

-- Card 12
pub marks_nest : MarksNest
marks_nest = record {
  formattings = formattings_nest;
  sheets = sheets_nest;
  formattings_scalars = formattings_scalars;
  sheets_scalars = sheets_scalars;
}
