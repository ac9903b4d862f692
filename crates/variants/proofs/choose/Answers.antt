-- `variants::choose` meets its contract: what keys are compared to is the value.
use Rattle.variants.proofs.Keys.{asked_chosen}
use Rattle.variants.proofs.choose.Goals as goal

pub returns : goal.returns
returns c = asked_chosen c.args.a _ _ _ c.compared.ensures c.choose_by.ensures
