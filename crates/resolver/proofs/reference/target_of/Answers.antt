-- `resolver::reference::target_of` meets its contract: each holder of the Id leads where the definition says.
use Rattle.entries.proofs.Located.{holder_at}
use Rattle.entries.proofs.Parts.{part_at_place}
use Rattle.resolver.proofs.References.{reference_in}
use Rattle.resolver.proofs.Targets.{part_as, target_bad, target_lacking, target_not, target_part}
use mathlib.Core.Path.{◌∙◌, sym}
use native.Mathlib.Omega.{arith}
use Rattle.resolver.proofs.reference.target_of.Goals as goal

pub returns-in_default : goal.returns-in_default
returns-in_default c = target_bad _ _ c.tagged_reference.ensures c.args.term c.in_default.is

pub slice_bounds-find_holder-count : goal.slice_bounds-find_holder-count
slice_bounds-find_holder-count c =
    let ref-inside = reference_in _ _ c.tagged_reference.ensures _ c.in-Some.is in
    omega (arith, ref-inside)

pub slice_bounds-find_holder-start : goal.slice_bounds-find_holder-start
slice_bounds-find_holder-start c =
    let ref-inside = reference_in _ _ c.tagged_reference.ensures _ c.in-Some.is in
    omega (arith, ref-inside)

pub slice_bounds-find_holder-end : goal.slice_bounds-find_holder-end
slice_bounds-find_holder-end c =
    let ref-inside = reference_in _ _ c.tagged_reference.ensures _ c.in-Some.is in
    omega (arith, ref-inside)

pub returns-in-None : goal.returns-in-None
returns-in-None c = target_lacking _ _ c.tagged_reference.ensures _ c.in-Some.is (holder_at _ _ c.find_holder.ensures) _ (part_as _ _ c.attribute_of.ensures (part_at_place _ _ _ c.find_part.ensures)) c.args.term (sym c.holder_of.ensures ∙ c.in-Ok.is) c.in-None.is c.lacking.ensures

pub returns-in-Some-find_part : goal.returns-in-Some-find_part
returns-in-Some-find_part c = target_part _ _ c.tagged_reference.ensures _ c.in-Some.is (holder_at _ _ c.find_holder.ensures) _ (part_as _ _ c.attribute_of.ensures (part_at_place _ _ _ c.find_part.ensures)) c.args.term (sym c.holder_of.ensures ∙ c.in-Ok.is) c.in-Some-find_part.is

pub returns-in-Err : goal.returns-in-Err
returns-in-Err c = target_not _ _ c.tagged_reference.ensures _ c.in-Some.is (holder_at _ _ c.find_holder.ensures) c.args.term (sym c.holder_of.ensures ∙ c.in-Err.is)
