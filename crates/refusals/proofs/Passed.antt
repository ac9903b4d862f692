-- What `?` passes on of a refusal.
use mathlib.Core.Path.{◌≡◌, ap, ◌∙◌}
use Rattle.std.specs.Prelude.{Option, None, Result, Err}
use Rattle.std.specs.Option.{ok_or}
use Rattle.std.specs.Result.{IsErrAnd}
use Rattle.std.proofs.lemmas.Result.{err_from_is_err_and}
use Rattle.refusals.specs.declared.Refusal.{Refusal}

-- the refusal itself
pub passed_on : {A : Type 0} (r : Result A Refusal) {e : Refusal} → IsErrAnd r (λ y. y ≡ e) → r ≡ Err e
passed_on r k = let z = err_from_is_err_and r k in z.1 ∙ ap Err z.2

-- the one that stands for what is not there
pub passed_for : {A B : Type 0} (r : Result B Refusal) {o : Option A} {e x : Refusal} → o ≡ None → Err e ≡ ok_or o x → IsErrAnd r (λ y. y ≡ e) → r ≡ Err x
passed_for {A} r {o} {e} {x} n w k =
    let v : ◌≡◌ {A = Result A Refusal} (Err e) (Err x) = w ∙ ap (λ (p : Option A). ok_or p x) n in
    let q : e ≡ x = cc in
    passed_on r k ∙ ap Err q
