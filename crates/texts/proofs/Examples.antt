-- Worked examples of the error list.
use mathlib.Core.Path.{◌≡◌, refl, ap, sym, ◌∙◌}
use mathlib.Core.List.{[], ◌∷◌}
use mathlib.Core.Option.{some, none}
use native.Mathlib.Omega.{arith}
use Rattle.records.specs.Bytes.{to_be}
use Rattle.records.specs.Encode.{enc_str, enc_optional, enc_all, enc_whole}
use Rattle.records.specs.Errors.{Referred, reference, enc_referred, enc_record, enc_error, enc_errors}
use Rattle.texts.specs.ErrorList.{errors_of, Brief}
use Rattle.texts.proofs.ErrorList.{errors_read, recordable}

-- document 01's list of a missing variable `n`
pub list_of_one : enc_errors (reference Referred.variable (0x6E ∷ []) none ∷ []) ≡ 0 ∷ 0 ∷ 0 ∷ 0x0D ∷ 1 ∷ 0 ∷ 6 ∷ 2 ∷ 4 ∷ 0 ∷ 1 ∷ 0x6E ∷ 0 ∷ []
unfolding enc_errors enc_whole enc_all enc_error enc_record enc_referred enc_str enc_optional to_be
list_of_one = refl

-- and that list read back
pub list_of_one_read : errors_of (0 ∷ 0 ∷ 0 ∷ 0x0D ∷ 1 ∷ 0 ∷ 6 ∷ 2 ∷ 4 ∷ 0 ∷ 1 ∷ 0x6E ∷ 0 ∷ []) ≡ some (reference Referred.variable (0x6E ∷ []) none ∷ [])
unfolding Brief
list_of_one_read = ap errors_of (sym list_of_one) ∙ errors_read _ ((recordable _ (omega arith), tt), rw list_of_one (omega arith))
