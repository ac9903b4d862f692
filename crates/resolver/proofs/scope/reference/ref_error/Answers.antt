-- `resolver::scope::reference::ref_error` meets its contract: the error is listed, then its text is written.
use Rattle.records.proofs.Views.{num_is, num_none}
use Rattle.resolver.proofs.Single.Acting.{listed_as, reference_acts}
use Rattle.resolver.proofs.Single.References.{ref_none, ref_read, ref_unread, reference_known}
use native.Mathlib.Omega.{arith}
use Rattle.resolver.proofs.Single.References.{reference_in}
use Rattle.resolver.proofs.scope.reference.ref_error.Goals as goal

pub returns-in_default : goal.returns-in_default
returns-in_default c = ref_none _ _ _ _ _ _ _ (num_none c.read_byte.ensures c.in_default.is)

pub returns-in_default-read_reference : goal.returns-in_default-read_reference
returns-in_default-read_reference c = ref_unread _ _ _ _ _ _ _ (num_is c.read_byte.ensures c.in-Some.is) c.read_reference.ensures c.in_default-read_reference.is

pub slice_bounds-list_reference-count : goal.slice_bounds-list_reference-count
slice_bounds-list_reference-count c =
    let within = reference_in _ _ c.read_reference.ensures c.in-Some-read_reference.is in
    let h = within in omega arith

pub slice_bounds-list_reference-start : goal.slice_bounds-list_reference-start
slice_bounds-list_reference-start c =
    let within = reference_in _ _ c.read_reference.ensures c.in-Some-read_reference.is in
    let h = within in omega arith

pub slice_bounds-list_reference-end : goal.slice_bounds-list_reference-end
slice_bounds-list_reference-end c =
    let within = reference_in _ _ c.read_reference.ensures c.in-Some-read_reference.is in
    let h = within in omega arith

pub returns : goal.returns
returns c = ref_read _ _ _ _ _ _ _ (num_is c.read_byte.ensures c.in-Some.is) _ _ (reference_known _ _ c.read_reference.ensures c.in-Some-read_reference.is)
    (λ t. (reference_acts _ _ _ (listed_as _ _ _ _ c.attribute_of.ensures c.list_reference.ensures)).0 _ _ _ t)
    (λ h g t. (reference_acts _ _ _ (listed_as _ _ _ _ c.attribute_of.ensures c.list_reference.ensures)).1 h g _ _ _ t) c.put_error.ensures
