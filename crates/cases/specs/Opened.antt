-- Definitions are shut until a proof opens them. A case from bytes to bytes also needs those of the additions: `opened` opens them, and all that
-- `resolution` opens for a formatting.
use Rattle.entries.specs.Repeats as EntriesRepeats
use Rattle.growth.specs.Items as GrowthItems
use Rattle.bundle.specs.Additions as BundleAdditions
use Rattle.resolution.specs.Opened as formatting

unfoldable pub bundle_additions : Unit {0}
unfolding BundleAdditions.refuse BundleAdditions.succeed BundleAdditions.or_refuse BundleAdditions.new_bundle GrowthItems.with_item GrowthItems.has_room EntriesRepeats.is_held EntriesRepeats.repeat_if EntriesRepeats.repeats_from EntriesRepeats.repeats BundleAdditions.listed BundleAdditions.add_plain_to BundleAdditions.add_resource BundleAdditions.add_overriding_to BundleAdditions.add_resource_overriding BundleAdditions.add_function_to BundleAdditions.add_function
bundle_additions = tt

unfoldable pub opened : Unit {0}
unfolding formatting.opened bundle_additions
opened = tt
