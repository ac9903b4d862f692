-- `resolver::reference::tagged_reference` meets its contract: past the store's end nothing is read, and before it the tag takes one byte.
use Rattle.resolver.proofs.References.{reference_past}
use Rattle.resolver.proofs.reference.tagged_reference.Goals as goal

pub returns-then-store-at : goal.returns-then-store-at
returns-then-store-at c = reference_past _ _ c.if-store-at.true

pub returns : goal.returns
returns c = c.read_reference.ensures
