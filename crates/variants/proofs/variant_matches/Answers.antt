-- `variants::variant_matches` meets its contract.
use Rattle.variants.proofs.Keys.{kind_other, kind_same}
use Rattle.variants.proofs.variant_matches.Goals as goal

pub returns-else-v-kind : goal.returns-else-v-kind
returns-else-v-kind c = kind_other _ _ _ c.if-v-kind.false

pub returns-then-v-kind : goal.returns-then-v-kind
returns-then-v-kind c = kind_same _ _ _ c.if-v-kind.true c.key_matches.ensures
